-- Entries of a function table: as bytes, in order, and by the RVA they hold.
use Rattle.std.specs.Prelude.{ℕ, ◌+◌, ◌-◌, ◌*◌, Bool, true, cond, ◌&&◌, List, [], ◌∷◌, map, Some, None, Option, nat_le, nat_lt}
use Rattle.std.specs.List.{range_with_len}
use Rattle.layout.specs.Words.{le_at}
use Rattle.layout.specs.declared.address.Rva.{Rva}
use Rattle.records.specs.Spans.{holds}
use Rattle.tables.specs.declared.entry.Entry.{Entry}

abbrev pub rva : ℕ → Rva
rva n = record { 0 = n }

-- the entry in the 12 bytes from a place on
abbrev pub entry_at : List ℕ → ℕ → Entry
entry_at bs at = record { begin = rva (le_at 4 bs at); end = rva (le_at 4 bs (at + 4)); info = rva (le_at 4 bs (at + 8)) }

-- the first n entries of a table, in table order
abbrev pub entries_of : List ℕ → ℕ → List Entry
entries_of bs n = map (λ k. entry_at bs (12 * k)) (range_with_len 0 n)

abbrev pub entry_first : Entry → ℕ
entry_first e = e.begin.0

abbrev pub entry_last : Entry → ℕ
entry_last e = e.end.0 - 1

-- the entry holds something, starts at the floor or above, and ends within the size
abbrev pub entry_good : ℕ → ℕ → Entry → Bool
entry_good size floor e = nat_lt e.begin.0 e.end.0 && (nat_le floor e.begin.0 && nat_le e.end.0 size)

-- each entry is good, with the end of the one before as its floor
abbrev pub entries_good : ℕ → ℕ → List Entry → Bool
entries_good size floor [] = true
entries_good size floor (e ∷ es) = entry_good size floor e && entries_good size e.end.0 es

-- the first entry that holds an RVA
abbrev pub entry_holding : ℕ → List Entry → Option Entry
entry_holding at [] = None
entry_holding at (e ∷ es) = cond (holds entry_first entry_last at e) (Some e) (entry_holding at es)
