use Rattle.std.proofs.Common.{arith}
use Rattle.plan.specs.Functions.{text_of, function_of, functions_of, functions_left}
use Rattle.compile.proofs.Filling.{Stands, written_none, next_sound, gap_room, function_room, function_low, stands, written_all}
use Rattle.compile.proofs.writing.write_functions.Goals as goal
use Rattle.compile.proofs.writing.write_functions.Goals.{After-write_function}

pub loop-f-init : goal.loop-f-init
loop-f-init c =
    rw (c.into_iter-f-iterator.ensures.into_iter_gives, c.functions-f-items.ensures)
    (tt, tt, written_none (text_of c.args.plan.now) _ _ _ _ _ c.requires.writable c.requires.start.0 c.requires.start.1 c.requires.start.2)

pub write_gap-requires : goal.write_gap-requires
write_gap-requires c = gap_room c.loop-f.invariant.2 _ _ c.in-Some.ensures.steps _ c.up16-begin.ensures

pub write_function-requires-clause-room : goal.write_function-requires-clause-room
write_function-requires-clause-room c = function_room c.loop-f.invariant.2 _ _ c.in-Some.ensures.steps _ c.up16-begin.ensures _ c.write_gap.ensures

pub write_function-requires-clause-low : goal.write_function-requires-clause-low
write_function-requires-clause-low c = function_low c.loop-f.invariant.2 _ _ c.in-Some.ensures.steps _ c.up16-begin.ensures _ c.write_gap.ensures

stood : (c : After-write_function) → Stands (functions_of (text_of c.args.plan.now)) c.args.starts.now c.args.rva c.args.code.now c.args.infos.now c.args.table.now c.loop-f.infos c.loop-f.table (function_of c.in-Some.f) (functions_left c.next.new.self) c.up16-begin.result c.write_function.new.out
stood c = stands c.loop-f.invariant.2 _ _ c.in-Some.ensures.steps _ c.up16-begin.ensures _ c.write_gap.ensures _ c.write_function.ensures

pub overflow_cast-end : goal.overflow_cast-end
overflow_cast-end c = record { fits = omega (arith, (stood (goal.at.overflow_cast-end c).After-write_function).low) }

pub write_entry-requires : goal.write_entry-requires
write_entry-requires c = (stood (goal.at.write_entry-requires c).After-write_function).entry_room

pub write_info-requires-clause-sound : goal.write_info-requires-clause-sound
write_info-requires-clause-sound c = next_sound c.loop-f.invariant.2 _ _ c.in-Some.ensures.steps

pub write_info-requires-clause-room : goal.write_info-requires-clause-room
write_info-requires-clause-room c = (stood (goal.at.write_info-requires-clause-room c).After-write_function).info_room

pub loop-f-preserved : goal.loop-f-preserved
loop-f-preserved c = (tt, tt, (stood (goal.at.loop-f-preserved c).After-write_function).on _ _ c.write_entry.ensures c.write_info.ensures)

pub returns : goal.returns
returns c =
    let p = written_all c.loop-f.invariant.2 c.in-None.ensures.steps.0 in
    record { code = p.0; infos = p.1; table = p.2 }
