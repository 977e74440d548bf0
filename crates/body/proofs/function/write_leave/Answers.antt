use Rattle.std.proofs.Common.{map, ◌++◌, ◌∙◌}
use Rattle.layout.proofs.Cursors.{Rest, room, step}
use Rattle.x64.specs.Encodings.{encode}
use Rattle.x64.specs.declared.instruction.Instruction.TheVariants.{Ret}
use Rattle.plan.specs.Bodies.{bytes, backward, leave_by, popping, leave}
use Rattle.plan.specs.Steps.{step_of, block, frame}
use Rattle.body.proofs.Working.{leave_begin}
use Rattle.body.proofs.function.write_leave.Goals as goal
use Rattle.body.proofs.function.write_leave.Goals.{After-write_loads}

pub write_loads-requires : goal.write_loads-requires
write_loads-requires c = room _ _ (leave_begin c.args.out.now _ c.requires _ c.frame_register.ensures)

loaded : (c : After-write_loads) → let ss = map step_of c.args.steps.now in
    Rest c.args.out.now (bytes (leave ss)) c.write_loads.new.out (bytes (leave_by (frame ss) (block ss)) ++ (bytes (backward popping ss) ++ encode Ret))
loaded c = step _ _ (leave_begin c.args.out.now _ c.requires _ c.frame_register.ensures) _ c.write_loads.ensures

pub write_leaving-requires : goal.write_leaving-requires
write_leaving-requires c = room _ _ (loaded (goal.at.write_leaving-requires c).After-write_loads)

pub write_pops-requires : goal.write_pops-requires
write_pops-requires c = room _ _ (step _ _ (loaded (goal.at.write_pops-requires c).After-write_loads) _ c.write_leaving.ensures)

pub emit-requires : goal.emit-requires
emit-requires c = (step _ _ (step _ _ (loaded (goal.at.emit-requires c).After-write_loads) _ c.write_leaving.ensures) _ c.write_pops.ensures).room

pub returns : goal.returns
returns c = c.emit.ensures ∙ (step _ _ (step _ _ (loaded (goal.at.returns c).After-write_loads) _ c.write_leaving.ensures) _ c.write_pops.ensures).same
