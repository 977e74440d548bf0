-- The loops of the checks, step by step.
use Rattle.std.proofs.Common.{◌≡◌, ℕ, suc, ◌+◌, ◌<◌, ◌≤◌, Bool, true, false, cond, not, eqb, leb, List, [], ◌∷◌, ◌++◌, map, sum_by, length, get_or, take, drop, is_ok, Some, None, Ok, Err, Option, sym, refl, ap, ◌∙◌, arith}
use Rattle.std.proofs.lemmas.List.{at_drop_more, take_more, map-append, length-take, length-drop}
use Rattle.std.proofs.lemmas.List.Sums.{sum_by-cons}
use Rattle.std.proofs.lemmas.List.Recursion.{is_sum_by}
use Rattle.std.specs.List.{position, position_from}
use Rattle.std.proofs.lemmas.Iterator.Adapters.{position_from-zero}
use Rattle.std.proofs.lemmas.Bool.{both_ways, and_parts, leb-true, eqb-true}
use Rattle.plan.specs.Functions.{Function, functions_in}
use Rattle.plan.specs.Refusals.{PlanFault, fault, at_index}
use Rattle.plan.specs.Rules.{step_verdict, operation_good}
use Rattle.plan.specs.Steps.{step_of}
use Rattle.plan.specs.Verdicts.{Verdict, next, owed, within, limits_verdict, steps_counted, operations_counted, counts_verdict, steps_verdict, operations_verdict, function_verdict, functions_verdict}
use Rattle.plan.specs.declared.step.Step.{Step}
use Rattle.plan.specs.declared.text.Counts.{Counts}
use Rattle.plan.specs.declared.text.OperationRecord.{OperationRecord}
use Rattle.plan.specs.declared.text.StepRecord.{StepRecord}

pub next_ok : (v w : Verdict) → next v w ≡ Ok tt → (v ≡ Ok tt) × (w ≡ Ok tt)
next_ok (Ok x) w h = (refl, h)
next_ok (Err e) w h = absurd (both_ways (is_ok (next (Err e) w)) refl (ap is_ok h))

pub stopped : {V v : Verdict} (W : Verdict) (e : PlanFault) → V ≡ next v W → v ≡ Err e → V ≡ Err e
stopped W e h y = h ∙ ap (λ u. next u W) y

pub passed : {V v : Verdict} (W : Verdict) → V ≡ next v W → v ≡ Ok tt → V ≡ W
passed W h y = h ∙ ap (λ u. next u W) y

pub owed_good : (good : Bool) (number index : ℕ) → owed good number index ≡ Ok tt → good ≡ true
owed_good true number index h = refl
owed_good false number index h = absurd (both_ways (is_ok (owed false number index)) refl (ap is_ok h))

-- one step
module _ (does : Bool) (index : ℕ) (rs : List StepRecord) (i : ℕ) (d : StepRecord) (h : i < length rs) where
  pub steps_one : steps_verdict does (index + i) (map step_of (take i rs)) (drop i rs)
      ≡ next (at_index (index + i) (step_verdict does (map step_of (take i rs)) (get_or rs i d))) (steps_verdict does (index + (i + 1)) (map step_of (take (i + 1) rs)) (drop (i + 1) rs))
  unfolding steps_verdict
  steps_one =
      let r = get_or rs i d in
      let front : map step_of (take (i + 1) rs) ≡ map step_of (take i rs) ++ step_of r ∷ [] = ap (map step_of) (take_more rs i d h) ∙ map-append step_of (take i rs) (r ∷ []) in
      let place : index + i + 1 ≡ index + (i + 1) = omega arith in
      at_drop_more (steps_verdict does (index + i) (map step_of (take i rs))) rs i d h
      ∙ ap (λ b. next (at_index (index + i) (step_verdict does (map step_of (take i rs)) r)) (steps_verdict does (index + i + 1) b (drop (i + 1) rs))) (sym front)
      ∙ ap (λ k. next (at_index (index + i) (step_verdict does (map step_of (take i rs)) r)) (steps_verdict does k (map step_of (take (i + 1) rs)) (drop (i + 1) rs))) place

-- a check of each element, from this index on, stops at the first that is not good
abbrev pub first_fault : ℕ → ℕ → Option ℕ → Verdict
first_fault number index None = Ok tt
first_fault number index (Some k) = Err (fault number (index + k))

first_next : (good : Bool) (number index k i : ℕ) (rest : Option ℕ) → i ≡ index + k → next (owed good number i) (first_fault number index rest) ≡ first_fault number index (cond (not good) (Some k) rest)
first_next true number index k i rest e = refl
first_next false number index k i rest e = ap (λ j. Err (fault number j)) e

limits_from : (index k i : ℕ) (cs : List Counts) → i ≡ index + k → limits_verdict i cs ≡ first_fault 11 index (position_from (λ c. not (within c)) k cs)
unfolding limits_verdict
limits_from index k i [] e = refl
limits_from index k i (x ∷ cs) e = ap (next (owed (within x) 11 i)) (limits_from index (k + 1) (i + 1) cs (omega (arith, e))) ∙ first_next (within x) 11 index k i (position_from (λ c. not (within c)) (k + 1) cs) e

pub limits_first : (cs : List Counts) → limits_verdict 0 cs ≡ first_fault 11 0 (position (λ c. not (within c)) cs)
limits_first cs = limits_from 0 0 0 cs (omega arith) ∙ ap (first_fault 11 0) (sym (position_from-zero (λ c. not (within c)) cs))

module _ (n : ℕ) (ss : List Step) where
  abbrev bad : OperationRecord → Bool
  bad o = not (operation_good n ss o)

  operations_from : (index k i : ℕ) (os : List OperationRecord) → i ≡ index + k → operations_verdict n ss i os ≡ first_fault 17 index (position_from bad k os)
  unfolding operations_verdict
  operations_from index k i [] e = refl
  operations_from index k i (o ∷ os) e = ap (next (owed (operation_good n ss o) 17 i)) (operations_from index (k + 1) (i + 1) os (omega (arith, e))) ∙ first_next (operation_good n ss o) 17 index k i (position_from bad (k + 1) os) e

  pub operations_first : (index : ℕ) (os : List OperationRecord) → operations_verdict n ss index os ≡ first_fault 17 index (position (λ o. not (operation_good n ss o)) os)
  operations_first index os = operations_from index 0 index os (omega arith) ∙ ap (first_fault 17 index) (sym (position_from-zero bad os))

-- the counts, summed by the library's word
pub steps_summed : (cs : List Counts) → steps_counted cs ≡ sum_by (λ c. c.steps) cs
unfolding steps_counted
steps_summed cs = is_sum_by steps_counted (λ c. c.steps) refl (λ x xs. refl) cs

pub operations_summed : (cs : List Counts) → operations_counted cs ≡ sum_by (λ c. c.operations) cs
unfolding operations_counted
operations_summed cs = is_sum_by operations_counted (λ c. c.operations) refl (λ x xs. refl) cs

pub limits_within : (c : Counts) (k : ℕ) → owed (within c) 11 k ≡ Ok tt → (c.steps ≤ 10) × (c.operations ≤ 255)
limits_within c k h =
    let q = and_parts (leb c.steps 10) (leb c.operations 255) (owed_good (within c) 11 k h) in
    (leb-true _ _ q.0, leb-true _ _ q.1)

-- what good counts say
pub counts_good : (cs : List Counts) (s o : ℕ) → counts_verdict cs s o ≡ Ok tt → (limits_verdict 0 cs ≡ Ok tt) × (steps_counted cs ≡ s) × (operations_counted cs ≡ o)
counts_good cs s o h =
    let p = next_ok _ _ h in
    let q = and_parts (eqb (steps_counted cs) s) (eqb (operations_counted cs) o) (owed_good _ 11 (length cs) p.1) in
    (p.0, eqb-true _ _ q.0, eqb-true _ _ q.1)

pub take_short : {X : Type 0} (n m : ℕ) (xs : List X) → n ≤ m → length (take n xs) ≤ m
take_short n m xs h = simp length-take (omega arith)

-- the functions have no more than the lists
abbrev pub steps_in : List Function → ℕ
steps_in fs = sum_by (λ f. length f.steps) fs

abbrev pub operations_in : List Function → ℕ
operations_in fs = sum_by (λ f. length f.operations) fs

cut_once : {X : Type 0} (n m : ℕ) (xs : List X) → m ≤ length (drop n xs) → length (take n xs) + m ≤ length xs
cut_once n m xs h = omega (arith, h, length-take n xs, length-drop n xs)

pub few_steps_in : (cs : List Counts) (ss : List StepRecord) (os : List OperationRecord) → steps_in (functions_in cs ss os) ≤ length ss
unfolding functions_in
few_steps_in [] ss os = omega arith
few_steps_in (x ∷ cs) ss os = rw sum_by-cons (cut_once x.steps _ ss (few_steps_in cs (drop x.steps ss) (drop x.operations os)))

pub few_operations_in : (cs : List Counts) (ss : List StepRecord) (os : List OperationRecord) → operations_in (functions_in cs ss os) ≤ length os
unfolding functions_in
few_operations_in [] ss os = omega arith
few_operations_in (x ∷ cs) ss os = rw sum_by-cons (cut_once x.operations _ os (few_operations_in cs (drop x.steps ss) (drop x.operations os)))

pub length-functions_in : (cs : List Counts) (ss : List StepRecord) (os : List OperationRecord) → length (functions_in cs ss os) ≡ length cs
unfolding functions_in
length-functions_in [] ss os = refl
length-functions_in (x ∷ cs) ss os = ap suc (length-functions_in cs (drop x.steps ss) (drop x.operations os))

-- the first function, by its index, and then the others
pub functions_one : (n j k s o : ℕ) {fs : List Function} (f : Function) (gs : List Function) → fs ≡ f ∷ gs → k ≡ j → functions_verdict n j s o fs ≡ next (function_verdict n k s o f) (functions_verdict n (j + 1) (s + length f.steps) (o + length f.operations) gs)
unfolding functions_verdict
functions_one n j k s o f gs h e =
    ap (functions_verdict n j s o) h
    ∙ ap (λ i. next (function_verdict n i s o f) (functions_verdict n (j + 1) (s + length f.steps) (o + length f.operations) gs)) (sym e)

pub no_functions : (n k s o : ℕ) {fs : List Function} → fs ≡ [] → functions_verdict n k s o fs ≡ Ok tt
unfolding functions_verdict
no_functions n k s o h = ap (functions_verdict n k s o) h

-- one turn of a loop over functions: what those left have
pub in_turn : (g : Function → ℕ) (n m : ℕ) {fs : List Function} (f : Function) (gs : List Function) → fs ≡ f ∷ gs → n + sum_by g fs ≤ m → n + g f + sum_by g gs ≤ m
in_turn g n m f gs e h = omega (arith, h, ap (sum_by g) e ∙ sum_by-cons g f gs)
