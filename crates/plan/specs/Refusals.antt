-- Refusals of descriptions, by number and place.
use Rattle.std.specs.Prelude.{ℕ, Result}
use Rattle.std.specs.Result.{result_map_both}
use Rattle.plan.specs.declared.refusal.PlanReason.{PlanReason}
use Rattle.plan.specs.declared.refusal.PlanReason.TheVariants.{FunctionCount, Counts, StepKind, Repeated, Order, Number, Alignment, Operation, Buffer}
use Rattle.plan.specs.declared.refusal.PlanRefusal.{PlanRefusal}

abbrev pub reason_number : PlanReason → ℕ
reason_number FunctionCount = 10
reason_number Counts = 11
reason_number StepKind = 12
reason_number Repeated = 13
reason_number Order = 14
reason_number Number = 15
reason_number Alignment = 16
reason_number Operation = 17
reason_number Buffer = 18

-- a refusal's number, and the index of what is refused in its list
pub record PlanFault : Type 0 where
  pub number : ℕ
  pub index : ℕ

abbrev pub fault : ℕ → ℕ → PlanFault
fault number index = record { number = number; index = index }

abbrev pub plan_fault : PlanRefusal → PlanFault
plan_fault e = fault (reason_number e.reason) e.index

abbrev pub plan_number : PlanRefusal → ℕ
plan_number e = (plan_fault e).number

abbrev pub told : {X : Type 0} → Result X PlanRefusal → Result X PlanFault
told r = result_map_both (λ x. x) plan_fault r

abbrev pub told_reason : {X : Type 0} → Result X PlanReason → Result X ℕ
told_reason r = result_map_both (λ x. x) reason_number r

-- an answer by number, met at an index
abbrev pub at_index : {X : Type 0} → ℕ → Result X ℕ → Result X PlanFault
at_index index r = result_map_both (λ x. x) (λ n. fault n index) r
