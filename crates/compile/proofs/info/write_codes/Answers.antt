use Rattle.std.proofs.Common.{map, length, ap, ◌∙◌, arith}
use Rattle.std.specs.Iterator.Adapters.{rev_source}
use Rattle.std.specs.Slice.Iter.{iter_rest}
use Rattle.x64.specs.Encodings.{encode}
use Rattle.plan.specs.Steps.{step_of}
use Rattle.plan.specs.UnwindInfos.{codes}
use Rattle.compile.proofs.Coding.{Turn, coded_none, coded_turn, coded_all}
use Rattle.compile.proofs.info.write_codes.Goals as goal
use Rattle.compile.proofs.info.write_codes.Goals.{After-from-step}

pub loop-s-init : goal.loop-s-init
loop-s-init c =
    rw (c.into_iter-s-iterator.ensures.into_iter_gives, c.rev-s-items.ensures.source, c.iter.ensures.rest)
    (tt, tt, coded_none c.args.out.now c.args.steps.now c.requires.room c.requires.sound c.args.prologue c.requires.prologue.0 c.requires.prologue.1)

turn : (c : After-from-step) → Turn c.args.out.now (codes 0 (map step_of c.args.steps.now)) c.loop-s.out c.loop-s.end (iter_rest (rev_source c.next.new.self)) c.from-step.result
turn c = coded_turn c.loop-s.invariant.2 _ _ c.in-Some.ensures.steps _ c.from-step.ensures

pub write_code-requires-clause-sound : goal.write_code-requires-clause-sound
write_code-requires-clause-sound c = (turn (goal.at.write_code-requires-clause-sound c).After-from-step).sound

pub write_code-requires-clause-room : goal.write_code-requires-clause-room
write_code-requires-clause-room c = (turn (goal.at.write_code-requires-clause-room c).After-from-step).has_room

pub overflow_sub-end : goal.overflow_sub-end
overflow_sub-end c =
    let n = c.encoded_length-end.ensures.length ∙ ap (λ i. length (encode i)) c.instruction.ensures in
    omega (arith, n, (turn (goal.at.overflow_sub-end c).After-from-step).fits)

pub loop-s-preserved : goal.loop-s-preserved
loop-s-preserved c =
    let n = c.encoded_length-end.ensures.length ∙ ap (λ i. length (encode i)) c.instruction.ensures in
    (tt, tt, (turn (goal.at.loop-s-preserved c).After-from-step).on _ c.write_code.ensures _ n)

pub returns : goal.returns
returns c = coded_all _ c.loop-s.invariant.2 c.in-None.ensures.steps.0
