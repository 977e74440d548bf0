-- Which modules and tables are taken, and what loading a table leaves in the records.
use Rattle.std.specs.Prelude.{ℕ, ◌+◌, ◌/◌, ◌%◌, ◌^◌, cond, ◌&&◌, List, ◌++◌, length, drop, Ok, Err, Result, ◌==◌, nat_le, nat_lt}
use Rattle.tables.specs.Entries.{entries_of, entries_good}
use Rattle.tables.specs.declared.entry.Entry.{Entry}
use Rattle.tables.specs.declared.refusal.TableRefusal.{TableRefusal}

-- the module has bytes, and ends at the last address or before; else 36
abbrev pub size_verdict : ℕ → ℕ → Result (Unit {0}) ℕ
size_verdict base size = cond (nat_lt 0 size && nat_le (base + size) (2 ^ 64)) (Ok tt) (Err 36)

-- 35 for the entries, then 36 for base and size
abbrev pub module_verdict : ℕ → ℕ → List Entry → Result (Unit {0}) ℕ
module_verdict base size es = cond (nat_le (length es) 65536 && entries_good size 0 es) (size_verdict base size) (Err 35)

-- one answer after another: the first refusal is the answer
abbrev pub after : {X Y : Type 0} → Result X ℕ → Result Y ℕ → Result Y ℕ
after (Ok x) r = r
after (Err e) r = Err e

-- how many entries are loaded: 35, 36, and last 22 where the records are too few
abbrev pub loading : List ℕ → ℕ → ℕ → ℕ → Result ℕ ℕ
loading bs base size room =
    let n = length bs / 12 in
    cond (length bs % 12 == 0 && (nat_le n 65536 && entries_good size 0 (entries_of bs n)))
    (after (size_verdict base size) (cond (nat_le n room) (Ok n) (Err 22)))
    (Err 35)

-- the records after a load
abbrev pub loaded : List ℕ → List Entry → Result ℕ TableRefusal → List Entry
loaded bs records (Ok n) = entries_of bs n ++ drop n records
loaded bs records (Err _) = records
