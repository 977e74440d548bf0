use Rattle.std.specs.Iterator.Adapters.{rev_source}
use Rattle.std.specs.Slice.Iter.{iter_rest}
use Rattle.compile.proofs.Coding.{Coded}
use Rattle.plan.specs.Steps.{step_of}
use Rattle.plan.specs.UnwindInfos.{codes}
use Rattle.std.proofs.Common.{map}
use Rattle.compile.proofs.info.write_codes.Given as goal

abbrev pub invariant-loop-s : goal.invariant-loop-s
invariant-loop-s l =
    (goal.iterator-loop-s).can_next l.s-iterator × (goal.iterator-loop-s).is_finite l.s-iterator
    × Coded l.initial.out (codes 0 (map step_of l.steps)) l.out l.end (iter_rest (rev_source l.s-iterator))
