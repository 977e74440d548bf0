use Rattle.std.proofs.Common.{◌≡◌, ◌/◌, length, drop}
use Rattle.std.specs.Iterator.Adapters.{enumerate_source, enumerate_count}
use Rattle.tables.specs.Entries.{entries_of}
use Rattle.tables.specs.Tables.{entries_left}
use Rattle.tables.proofs.Fill.{Filled}
use Rattle.tables.proofs.load.write_entries.Given as goal

abbrev pub invariant-loop-k : goal.invariant-loop-k
invariant-loop-k l =
    let all = entries_of l.bytes (length l.bytes / 12) in
    let k = enumerate_count l.k-iterator in
    record {
      can : (goal.iterator-loop-k).can_next l.k-iterator;
      ends : (goal.iterator-loop-k).is_finite l.k-iterator;
      left : entries_left (enumerate_source l.k-iterator) ≡ drop k all;
      filled : Filled all l.initial.records l.records k;
    }
