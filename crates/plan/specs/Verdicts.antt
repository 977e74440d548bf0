-- Which descriptions are accepted, and else the first refusal.
use Rattle.std.specs.Prelude.{ℕ, ◌+◌, Bool, cond, ◌&&◌, List, [], ◌∷◌, ◌++◌, map, length, Ok, Err, Result, ◌==◌, nat_eq, nat_le}
use Rattle.std.specs.List.{list_any}
use Rattle.plan.specs.Functions.{Text, Function, functions_of}
use Rattle.plan.specs.Refusals.{PlanFault, fault, at_index}
use Rattle.plan.specs.Rules.{step_verdict, aligned, operation_good}
use Rattle.plan.specs.Steps.{step_of}
use Rattle.plan.specs.declared.step.Step.{Step}
use Rattle.plan.specs.declared.text.Counts.{Counts}
use Rattle.plan.specs.declared.text.OperationRecord.{OperationRecord}
use Rattle.plan.specs.declared.text.StepRecord.{StepRecord}

abbrev pub Verdict : Type 0
Verdict = Result (Unit {0}) PlanFault

-- one check after another: the first refusal is the answer
abbrev pub next : Verdict → Verdict → Verdict
next (Ok x) r = r
next (Err e) r = Err e

abbrev pub owed : Bool → ℕ → ℕ → Verdict
owed good number index = cond good (Ok tt) (Err (fault number index))

-- each step after those before it; the first has this index
unfoldable pub steps_verdict : Bool → ℕ → List Step → List StepRecord → Verdict
steps_verdict calls index before [] = Ok tt
steps_verdict calls index before (r ∷ rs) = next (at_index index (step_verdict calls before r)) (steps_verdict calls (index + 1) (before ++ step_of r ∷ []) rs)

-- each operation of a function with these steps, in a module of n functions
unfoldable pub operations_verdict : ℕ → List Step → ℕ → List OperationRecord → Verdict
operations_verdict n ss index [] = Ok tt
operations_verdict n ss index (o ∷ os) = next (owed (operation_good n ss o) 17 index) (operations_verdict n ss (index + 1) os)

-- an operation of kind 3, good or not
abbrev pub calls : List OperationRecord → Bool
calls os = list_any (λ o. nat_eq o.kind 3) os

-- each step, then 16, then each operation
abbrev pub function_verdict : ℕ → ℕ → ℕ → ℕ → Function → Verdict
function_verdict n index step operation f =
    next (steps_verdict (calls f.operations) step [] f.steps)
    (next (owed (aligned (calls f.operations) (map step_of f.steps)) 16 index)
    (operations_verdict n (map step_of f.steps) operation f.operations))

-- each function; the first has this index, and its steps and operations start at those
unfoldable pub functions_verdict : ℕ → ℕ → ℕ → ℕ → List Function → Verdict
functions_verdict n index step operation [] = Ok tt
functions_verdict n index step operation (f ∷ fs) =
    next (function_verdict n index step operation f) (functions_verdict n (index + 1) (step + length f.steps) (operation + length f.operations) fs)

-- at most 10 steps and 255 operations in each function
abbrev pub within : Counts → Bool
within c = nat_le c.steps 10 && nat_le c.operations 255

unfoldable pub limits_verdict : ℕ → List Counts → Verdict
limits_verdict index [] = Ok tt
limits_verdict index (c ∷ cs) = next (owed (within c) 11 index) (limits_verdict (index + 1) cs)

unfoldable pub steps_counted : List Counts → ℕ
steps_counted [] = 0
steps_counted (c ∷ cs) = c.steps + steps_counted cs

unfoldable pub operations_counted : List Counts → ℕ
operations_counted [] = 0
operations_counted (c ∷ cs) = c.operations + operations_counted cs

-- within the limits, and as many in all as the lists have
abbrev pub counts_verdict : List Counts → ℕ → ℕ → Verdict
counts_verdict cs steps operations =
    next (limits_verdict 0 cs)
    (owed (steps_counted cs == steps && operations_counted cs == operations) 11 (length cs))

-- 10, 11, and then each function
abbrev pub plan_verdict : Text → Verdict
plan_verdict t =
    let n = length t.counts in
    next (owed (nat_le 1 n && nat_le n 64) 10 0)
    (next (counts_verdict t.counts (length t.steps) (length t.operations))
    (functions_verdict n 0 0 0 (functions_of t)))
