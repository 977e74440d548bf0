use Rattle.std.proofs.Common.{◌+◌, ◌-◌, ◌++◌, map, ap, ◌∙◌, arith}
use Rattle.layout.proofs.Cursors.{Rest, room, step}
use Rattle.plan.specs.Bodies.{bytes, work, leave, steps_of, function_bytes}
use Rattle.plan.specs.Functions.{function_of}
use Rattle.plan.specs.Operations.{operation_of}
use Rattle.body.proofs.Working.{enter_room, function_next, function_sized, body_inside}
use Rattle.body.proofs.function.write_function.Goals as goal
use Rattle.body.proofs.function.write_function.Goals.{After-write_prologue}

pub write_prologue-requires : goal.write_prologue-requires
write_prologue-requires c = enter_room c.args.out.now c.args.starts.now c.args.rva (function_of c.args.f) c.requires.room

pub overflow_cast-body : goal.overflow_cast-body
overflow_cast-body c = record { fits = omega (arith, function_sized c.args.starts.now c.args.rva (function_of c.args.f), c.requires.low, ap (λ k. k.at) c.write_prologue.ensures) }

pub overflow_add-body : goal.overflow_add-body
overflow_add-body c = record { fits = omega (arith, function_sized c.args.starts.now c.args.rva (function_of c.args.f), c.requires.low, ap (λ k. k.at) c.write_prologue.ensures) }

entered : (c : After-write_prologue) → let f = function_of c.args.f in
    let body = c.args.rva + (c.write_prologue.new.out.at - c.args.out.now.at) in
    Rest c.args.out.now (function_bytes c.args.starts.now c.args.rva f) c.write_prologue.new.out (bytes (work c.args.starts.now body (map operation_of f.operations)) ++ bytes (leave (steps_of f)))
entered c = function_next c.args.out.now c.args.starts.now c.args.rva (function_of c.args.f) c.requires.room _ c.write_prologue.ensures

pub write_operations-requires-clause-room : goal.write_operations-requires-clause-room
write_operations-requires-clause-room c = room _ _ (entered (goal.at.write_operations-requires-clause-room c).After-write_prologue)

pub write_operations-requires-clause-low : goal.write_operations-requires-clause-low
write_operations-requires-clause-low c = body_inside c.args.out.now c.args.starts.now c.args.rva (function_of c.args.f) c.requires.room _ c.write_prologue.ensures c.requires.low

pub write_leave-requires : goal.write_leave-requires
write_leave-requires c = (step _ _ (entered (goal.at.write_leave-requires c).After-write_prologue) _ c.write_operations.ensures).room

pub returns : goal.returns
returns c = c.write_leave.ensures ∙ (step _ _ (entered (goal.at.returns c).After-write_prologue) _ c.write_operations.ensures).same
