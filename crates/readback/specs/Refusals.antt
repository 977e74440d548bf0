-- Refusals of a reading, by number and slot.
use Rattle.std.specs.Prelude.{ℕ, Some, None, Result}
use Rattle.std.specs.Result.{result_map_both}
use Rattle.infos.specs.Refusals.{InfoFault, fault_at, info_fault}
use Rattle.tables.specs.Refusals.{table_number}
use Rattle.readback.specs.declared.refusal.ReadRefusal.{ReadRefusal}
use Rattle.readback.specs.declared.refusal.ReadRefusal.TheVariants.{BadModule, BadInfo, Flags, SavesXmm, TooFewRecords}

-- a refusal's number, and the slot of the code at work, none outside codes
abbrev pub read_fault : ReadRefusal → InfoFault
read_fault (BadModule e) = fault_at None (table_number e)
read_fault (BadInfo e) = info_fault e
read_fault Flags = fault_at None 42
read_fault (SavesXmm slot) = fault_at (Some slot) 43
read_fault TooFewRecords = fault_at None 22

abbrev pub read_number : ReadRefusal → ℕ
read_number e = (read_fault e).number

-- an answer, with its refusal by number and slot
abbrev pub told : {X : Type 0} → Result X ReadRefusal → Result X InfoFault
told r = result_map_both (λ x. x) read_fault r
