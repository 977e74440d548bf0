-- Refusals of infos, by number and slot.
use Rattle.std.specs.Prelude.{ℕ, None, Option, Result}
use Rattle.std.specs.Result.{result_map_both}
use Rattle.infos.specs.declared.refusal.InfoReason.{InfoReason}
use Rattle.infos.specs.declared.refusal.InfoReason.TheVariants.{Cut, Version, Flags, BadCode, PastCount, Disorder}
use Rattle.infos.specs.declared.refusal.InfoRefusal.{InfoRefusal}
use Rattle.infos.specs.declared.refusal.ListRefusal.{ListRefusal}
use Rattle.infos.specs.declared.refusal.ListRefusal.TheVariants.{BadInfo, TooFewRecords}

abbrev pub reason_number : InfoReason → ℕ
reason_number Cut = 40
reason_number Version = 41
reason_number Flags = 42
reason_number BadCode = 43
reason_number PastCount = 44
reason_number Disorder = 45

-- a refusal's number, and the first slot of the code at work, none outside codes
pub record InfoFault : Type 0 where
  pub number : ℕ
  pub slot : Option ℕ

abbrev pub fault_at : Option ℕ → ℕ → InfoFault
fault_at slot number = record { number = number; slot = slot }

abbrev pub info_fault : InfoRefusal → InfoFault
info_fault e = fault_at e.slot (reason_number e.reason)

abbrev pub info_number : InfoRefusal → ℕ
info_number e = (info_fault e).number

-- too few records have no slot
abbrev pub list_fault : ListRefusal → InfoFault
list_fault (BadInfo e) = info_fault e
list_fault TooFewRecords = fault_at None 22

abbrev pub list_number : ListRefusal → ℕ
list_number e = (list_fault e).number

-- an answer, with its refusal by number and slot
abbrev pub told : {X : Type 0} → Result X InfoRefusal → Result X InfoFault
told r = result_map_both (λ x. x) info_fault r

-- an answer by number, met at a slot or outside codes
abbrev pub at_slot : {X : Type 0} → Option ℕ → Result X ℕ → Result X InfoFault
at_slot slot r = result_map_both (λ x. x) (fault_at slot) r

abbrev pub outside : {X : Type 0} → Result X ℕ → Result X InfoFault
outside r = at_slot None r
