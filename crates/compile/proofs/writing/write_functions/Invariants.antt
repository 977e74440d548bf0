use Rattle.plan.specs.Functions.{text_of, functions_of, functions_left}
use Rattle.compile.proofs.Filling.{Written}
use Rattle.compile.proofs.writing.write_functions.Given as goal

abbrev pub invariant-loop-f : goal.invariant-loop-f
invariant-loop-f l =
    (goal.iterator-loop-f).can_next l.f-iterator
    × (goal.iterator-loop-f).is_finite l.f-iterator
    × Written (functions_of (text_of l.plan)) l.starts l.rva l.initial.code l.initial.infos l.initial.table l.code l.infos l.table (functions_left l.f-iterator)
