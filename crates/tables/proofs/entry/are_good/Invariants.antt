use Rattle.tables.proofs.Entries.{Undecided}
use Rattle.tables.proofs.entry.are_good.Given as goal

abbrev pub invariant-loop-entry : goal.invariant-loop-entry
invariant-loop-entry g l =
    (goal.iterator-loop-entry g).can_next l.entry-iterator × (goal.iterator-loop-entry g).is_finite l.entry-iterator
    × Undecided g.I.Iterator.next_gives l.fn.entries l.entry-iterator l.size l.floor
