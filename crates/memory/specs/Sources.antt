-- Which ranges a source takes, and what it shows.
use Rattle.std.specs.Prelude.{ℕ, ◌+◌, ◌-◌, ◌^◌, min, Bool, cond, ◌&&◌, List, [], ◌∷◌, length, Ok, Err, Result, nat_le, nat_lt, slice_index}
use Rattle.std.specs.List.{list_all}
use Rattle.records.specs.Spans.{holds, ascending}
use Rattle.memory.specs.Byte.{Byte, shown, lacking}
use Rattle.memory.specs.declared.range.DumpRange.{DumpRange}

-- the range has bytes, and they lie in a run of this size
abbrev pub within : ℕ → DumpRange → Bool
within size r = nat_lt 0 r.length && nat_le (r.place + r.length) size

-- the range ends at the last address or before
abbrev pub reaches : DumpRange → Bool
reaches r = nat_le (r.start.0 + r.length) (2 ^ 64)

abbrev pub range_first : DumpRange → ℕ
range_first r = r.start.0

-- the last address of a range; one that does not reach counts as ending at the last address
abbrev pub range_last : DumpRange → ℕ
range_last r = min (r.start.0 + (r.length - 1)) (2 ^ 64 - 1)

-- taken, or refused with 20 or else with 21
abbrev pub source_verdict : List DumpRange → ℕ → Result (Unit {0}) ℕ
source_verdict rs size = cond (list_all (within size) rs) (cond (list_all reaches rs && ascending range_first range_last rs) (Ok tt) (Err 21)) (Err 20)

-- the byte of the range that holds the address
abbrev pub sparse_map : List DumpRange → List ℕ → ℕ → Byte
sparse_map [] bytes at = lacking
sparse_map (r ∷ rs) bytes at = cond (holds range_first range_last at r) (shown (slice_index bytes (r.place + (at - r.start.0)))) (sparse_map rs bytes at)

-- a flat image is taken as the one range of all its bytes
abbrev pub flat_verdict : ℕ → List ℕ → Result (Unit {0}) ℕ
flat_verdict start bytes = source_verdict (record { start = record { 0 = start }; length = length bytes; place = 0 } ∷ []) (length bytes)

abbrev pub flat_map : ℕ → List ℕ → ℕ → Byte
flat_map start bytes at = cond (nat_le start at && nat_lt at (start + length bytes)) (shown (slice_index bytes (at - start))) lacking
