use Rattle.std.proofs.Common.{◌≡◌}
use Rattle.layout.specs.Cursors.{wrote}
use Rattle.plan.specs.Bodies.{bytes}
use Rattle.body.proofs.part.write_part.Given as goal

abbrev pub invariant-loop-i : goal.invariant-loop-i
invariant-loop-i g l =
    (goal.iterator-loop-i g).can_next l.i-iterator × (goal.iterator-loop-i g).is_finite l.i-iterator × (l.out ≡ wrote l.initial.out (bytes l.yielded))
