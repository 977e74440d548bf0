use Rattle.std.specs.Iterator.Adapters.{enumerate_source, enumerate_count}
use Rattle.plan.specs.Functions.{text_of, functions_of, functions_left}
use Rattle.compile.proofs.Laying.{Measured}
use Rattle.compile.proofs.layout_of.measure.Given as goal

abbrev pub invariant-loop-k : goal.invariant-loop-k
invariant-loop-k l =
    (goal.iterator-loop-k).can_next l.k-iterator
    × (goal.iterator-loop-k).is_finite l.k-iterator
    × Measured (functions_of (text_of l.plan)) l.starts (enumerate_count l.k-iterator) l.at l.infos (functions_left (enumerate_source l.k-iterator))
