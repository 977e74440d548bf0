-- An unwind info, as the bytes of its area say.
use Rattle.std.specs.Prelude.{ℕ, ◌+◌, ◌-◌, ◌*◌, ◌/◌, ◌%◌, cond, ◌&&◌, List, length, take, drop, Ok, Err, Result, ◌==◌, nat_le, slice_index, slice_index_or}
use Rattle.std.specs.Result.{result_map_both}
use Rattle.layout.specs.Words.{le_at}
use Rattle.layout.specs.declared.address.Rva.{Rva}
use Rattle.tables.specs.Entries.{entry_at}
use Rattle.tables.specs.declared.area.InfoArea.{InfoArea}
use Rattle.tables.specs.declared.entry.Entry.{Entry}
use Rattle.infos.specs.Codes.{bind}
use Rattle.infos.specs.Refusals.{InfoFault, reason_number, outside, info_fault}
use Rattle.infos.specs.Sequences.{codes_of}
use Rattle.infos.specs.declared.info.Info.{Info}
use Rattle.infos.specs.declared.info.Tail.{Tail}
use Rattle.infos.specs.declared.info.Tail.TheVariants.{None, Handler, Chained}
use Rattle.infos.specs.declared.refusal.InfoReason.{InfoReason}
use Rattle.infos.specs.declared.refusal.InfoRefusal.{InfoRefusal}

-- what stands after the slots, a handler with its data
pub data TailOf : Type 0 where
  nothing : TailOf
  handler : ℕ → List ℕ → TailOf
  chained : Entry → TailOf

-- an info with its slots as bytes, and their place in the area
pub record InfoOf : Type 0 where
  pub flags : ℕ
  pub prologue : ℕ
  pub count : ℕ
  pub frame_register : ℕ
  pub frame_offset : ℕ
  pub place : ℕ
  pub slots : List ℕ
  pub tail : TailOf

-- what a view that borrows holds
abbrev pub tail_view : Tail → TailOf
tail_view None = nothing
tail_view (Handler r d) = handler r.0 d.now
tail_view (Chained e) = chained e

abbrev pub viewed : Info → InfoOf
viewed i = record { flags = i.flags; prologue = i.prologue; count = i.count; frame_register = i.frame_register; frame_offset = i.frame_offset; place = i.place; slots = i.slots.now; tail = tail_view i.tail }

abbrev pub header_view : Result Info InfoReason → Result InfoOf ℕ
header_view r = result_map_both viewed reason_number r

abbrev pub info_view : Result Info InfoRefusal → Result InfoOf InfoFault
info_view r = result_map_both viewed info_fault r

-- the slots are padded to an even count
abbrev pub padded : ℕ → ℕ
padded n = n + n % 2

-- how many bytes the tail has at least
abbrev pub tail_size : ℕ → ℕ
tail_size flags = cond (flags == 0) 0 (cond (flags == 4) 12 4)

abbrev pub tail_in : ℕ → List ℕ → TailOf
tail_in flags bs = cond (flags == 0) nothing (cond (flags == 4) (chained (entry_at bs 0)) (handler (le_at 4 bs 0) (drop 4 bs)))

-- the info that four bytes or more begin with, at a place of the area: 41, 42, 40, 43 in this order
abbrev pub header_in : ℕ → List ℕ → Result InfoOf ℕ
header_in at bs =
    let flags = slice_index bs 0 / 8 in
    let count = slice_index_or bs 2 0 in
    let end = 4 + 2 * padded count in
    cond (slice_index bs 0 % 8 == 1)
    (cond (nat_le flags 4)
    (cond (nat_le (end + tail_size flags) (length bs))
    (cond (slice_index bs 3 % 16 == 4)
    (Err 43)
    (Ok (record { flags = flags; prologue = slice_index bs 1; count = count; frame_register = slice_index bs 3 % 16; frame_offset = slice_index bs 3 / 16 * 16; place = at + 4; slots = take (2 * count) (drop 4 bs); tail = tail_in flags (drop end bs) })))
    (Err 40))
    (Err 42))
    (Err 41)

-- the info at an RVA of an area with this start, its codes not looked at; 40 where it is misplaced
abbrev pub located : List ℕ → ℕ → ℕ → Result InfoOf ℕ
located area start rva =
    cond (rva % 4 == 0 && (nat_le start rva && nat_le (rva - start + 4) (length area))) (header_in (rva - start) (drop (rva - start) area)) (Err 40)

-- the info at an RVA, if its codes are good too
abbrev pub info_at : List ℕ → ℕ → ℕ → Result InfoOf InfoFault
info_at area start rva = bind (outside (located area start rva)) (λ i. bind (codes_of i.prologue i.frame_register i.slots) (λ _. Ok i))

-- these two, of an area as a struct
abbrev pub located_in : InfoArea → Rva → Result InfoOf ℕ
located_in area rva = located area.bytes.now area.start.0 rva.0

abbrev pub info_in : InfoArea → Rva → Result InfoOf InfoFault
info_in area rva = info_at area.bytes.now area.start.0 rva.0
