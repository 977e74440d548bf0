-- What an accepted description says of its functions and their steps.
use Rattle.std.proofs.Common.{min, ◌≡◌, ℕ, ◌+◌, ◌%◌, ◌<◌, ◌≤◌, Bool, true, false, cond, not, ◌&&◌, ◌||◌, eqb, leb, ◌≢◌, List, [], ◌∷◌, ◌++◌, map, length, take, drop, is_ok, Some, Ok, Err, Option, Result, sym, refl, ap, ◌∙◌, subst, ⊎_elim, arith}
use Rattle.std.specs.List.{list_any}
use Rattle.std.specs.Result.{result_map_both}
use Rattle.std.proofs.Math.Bool.{or-false}
use Rattle.std.proofs.lemmas.List.Folds.{list_any-append}
use Rattle.std.proofs.lemmas.Bool.{false≢true, true≢false, and_parts, leb-true, eqb-true, ne_eqb, cases_eq, or_cases, or_parts, not-true}
use Rattle.layout.specs.Registers.{preserved}
use Rattle.steps.specs.declared.set_frame.SetFrameStep.{SetFrameStep}
use Rattle.plan.proofs.Passes.{take_short, next_ok, owed_good, counts_good, limits_within}
use Rattle.plan.specs.Functions.{Text, Function, functions_in, functions_of}
use Rattle.plan.specs.Refusals.{PlanFault, fault}
use Rattle.plan.specs.Rules.{known, repeated, in_order, number_fits, shape_verdict, step_verdict}
use Rattle.plan.specs.Steps.{step, step_of, pushes, sets_frame, saves_at, block, frame, Sound, AllSound}
use Rattle.plan.specs.Verdicts.{steps_verdict, function_verdict, functions_verdict, limits_verdict, steps_counted, plan_verdict}
use Rattle.plan.specs.declared.step.Step.{Step}
use Rattle.plan.specs.declared.step.Step.TheVariants.{Push, Allocate, SetFrame, Save}
use Rattle.plan.specs.declared.text.Counts.{Counts}
use Rattle.plan.specs.declared.text.OperationRecord.{OperationRecord}
use Rattle.plan.specs.declared.text.StepRecord.{StepRecord}

-- a preserved register has a number below 16, and is not 0 or 4
not_kept : (r q : ℕ) → preserved q ≡ false → preserved r ≡ true → r ≢ q
not_kept r q n p e = true≢false (sym p ∙ ap preserved e ∙ n)

pub kept_below : (r : ℕ) → preserved r ≡ true → r < 16
kept_below r p =
    let is : (q : ℕ) → q < 16 → eqb r q ≡ true → r < 16 = λ q h e. omega (arith, h, eqb-true r q e) in
    ⊎_elim (is 3 (omega arith)) (λ a.
    ⊎_elim (is 5 (omega arith)) (λ b.
    ⊎_elim (is 6 (omega arith)) (λ c.
    ⊎_elim (is 7 (omega arith)) (λ d.
    ⊎_elim (is 12 (omega arith)) (λ e.
    ⊎_elim (is 13 (omega arith)) (λ f.
    ⊎_elim (is 14 (omega arith)) (λ g.
    ⊎_elim (is 15 (omega arith)) (λ h. absurd (false≢true h))
    (or_cases (eqb r 15) _ g)) (or_cases (eqb r 14) _ f)) (or_cases (eqb r 13) _ e)) (or_cases (eqb r 12) _ d)) (or_cases (eqb r 7) _ c)) (or_cases (eqb r 6) _ b)) (or_cases (eqb r 5) _ a)) (or_cases (eqb r 3) _ p)

pub kept_not_rsp : (r : ℕ) → preserved r ≡ true → eqb r 4 ≡ false
kept_not_rsp r p = ne_eqb r 4 (not_kept r 4 refl p)

pub kept_not_zero : (r : ℕ) → preserved r ≡ true → eqb r 0 ≡ false
kept_not_zero r p = ne_eqb r 0 (not_kept r 0 refl p)

-- a frame offset that was accepted is the record's number
byte_small : (n : ℕ) → min n 255 ≤ 240 → min n 255 ≡ n
byte_small n h = omega arith

-- the record of a step
abbrev pub record_of : Step → StepRecord
record_of (Push k) = step 0 k.register 0
record_of (Allocate k) = step 1 0 k.size
record_of (SetFrame k) = step 2 k.register k.offset
record_of (Save k) = step 3 k.register k.offset

-- a step that was accepted, with whether a step before it set the frame
abbrev pub Fine : Bool → Step → Type 0
Fine used (Push k) = preserved k.register ≡ true
Fine used (Allocate k) = (8 ≤ k.size) × (k.size ≤ 2097152) × (k.size % 8 ≡ 0)
Fine used (SetFrame k) = (preserved k.register ≡ true) × (k.offset ≤ 240) × (k.offset % 16 ≡ 0) × (used ≡ false)
Fine used (Save k) = (preserved k.register ≡ true) × (k.offset ≤ 2097152) × (k.offset % 8 ≡ 0)

-- a step that sets the frame sets this one
abbrev pub Framed : Option SetFrameStep → Step → Type 0
Framed f (Push k) = Unit {0}
Framed f (Allocate k) = Unit {0}
Framed f (SetFrame k) = f ≡ Some k
Framed f (Save k) = Unit {0}

abbrev pub Fines : Option SetFrameStep → Bool → List Step → Type 0
Fines f used [] = Unit {0}
Fines f used (s ∷ ss) = Fine used s × Framed f s × Fines f (used || sets_frame s) ss

-- what the steps before say of saves and frames after them
abbrev Before : List Step → Type 0
Before before = (block before ≤ 2097152) × ((q : ℕ) → list_any (pushes q) before ≡ true → preserved q ≡ true)

any_push : (g : Step → Bool) (ss : List Step) (s : Step) → list_any g (ss ++ s ∷ []) ≡ (list_any g ss || g s)
any_push g ss s = list_any-append g ss (s ∷ []) ∙ ap (λ b. list_any g ss || b) (or-false (g s))

block_push : (ss : List Step) (s : Step) → block ss ≤ 2097152 → block (s ∷ []) ≤ 2097152 → block (ss ++ s ∷ []) ≤ 2097152
unfolding block
block_push [] s a b = b
block_push (Push k ∷ ss) s a b = block_push ss s a b
block_push (Allocate k ∷ ss) s a b = a
block_push (SetFrame k ∷ ss) s a b = block_push ss s a b
block_push (Save k ∷ ss) s a b = block_push ss s a b

block_one : (used : Bool) (s : Step) → Fine used s → block (s ∷ []) ≤ 2097152
unfolding block
block_one used (Push k) h = omega arith
block_one used (Allocate k) h = h.1
block_one used (SetFrame k) h = omega arith
block_one used (Save k) h = omega arith

pushes_one : (used : Bool) (s : Step) → Fine used s → (q : ℕ) → pushes q s ≡ true → preserved q ≡ true
pushes_one used (Push k) h q e = ap preserved (sym (eqb-true k.register q e)) ∙ h
pushes_one used (Allocate k) h q e = absurd (false≢true e)
pushes_one used (SetFrame k) h q e = absurd (false≢true e)
pushes_one used (Save k) h q e = absurd (false≢true e)

before_push : (before : List Step) (used : Bool) (s : Step) → Before before → Fine used s → Before (before ++ s ∷ [])
before_push before used s b h = (
  block_push before s b.0 (block_one used s h),
  λ q e. ⊎_elim (b.1 q) (pushes_one used s h q) (or_cases (list_any (pushes q) before) (pushes q s) (sym (any_push (pushes q) before s) ∙ e)),
)

-- the rules of one step
shape_good : (a b c : Bool) → ◌≡◌ {A = Result (Unit {0}) ℕ} (cond a (Err 13) (cond b (cond c (Ok tt) (Err 15)) (Err 14))) (Ok tt) → (b ≡ true) × (c ≡ true)
shape_good true b c h = absurd (false≢true (ap is_ok h))
shape_good false true true h = (refl, refl)
shape_good false true false h = absurd (false≢true (ap is_ok h))
shape_good false false c h = absurd (false≢true (ap is_ok h))

known_good : (b : Bool) (v : Result (Unit {0}) ℕ) → cond b v (Err 12) ≡ Ok tt → (b ≡ true) × (v ≡ Ok tt)
known_good true v h = (refl, h)
known_good false v h = absurd (false≢true (ap is_ok h))

at_ok : (v : Result (Unit {0}) ℕ) (index : ℕ) → ◌≡◌ {A = Result (Unit {0}) PlanFault} (result_map_both (λ x. x) (λ n. fault n index) v) (Ok tt) → v ≡ Ok tt
at_ok (Ok x) index h = refl
at_ok (Err e) index h = absurd (false≢true (ap is_ok h))

module _ (does : Bool) (before : List Step) (b : Before before) where
  -- what is owed of a record
  abbrev Owed : StepRecord → Type 0
  Owed r = known r ≡ true → shape_verdict does before (step_of r) ≡ Ok tt → (record_of (step_of r) ≡ r) × Fine (list_any sets_frame before) (step_of r)

  push_owed : (r n : ℕ) → Owed (step 0 r n)
  push_owed r n k v =
      let p = and_parts (preserved r) (eqb n 0) k in
      (ap (step 0 r) (sym (eqb-true n 0 p.1)), p.0)

  allocate_owed : (r n : ℕ) → Owed (step 1 r n)
  allocate_owed r n k v =
      let g = shape_good (repeated before (step_of (step 1 r n))) (in_order before (step_of (step 1 r n))) (number_fits does before (step_of (step 1 r n))) v in
      let p = and_parts (leb 8 n) (leb n 2097152 && eqb (n % 8) 0) g.1 in
      let q = and_parts (leb n 2097152) (eqb (n % 8) 0) p.1 in
      (ap (λ x. step 1 x n) (sym (eqb-true r 0 k)), (leb-true 8 n p.0, leb-true n 2097152 q.0, eqb-true (n % 8) 0 q.1))

  frame_owed : (r n : ℕ) → Owed (step 2 r n)
  frame_owed r n k v =
      let g = shape_good (repeated before (step_of (step 2 r n))) (in_order before (step_of (step 2 r n))) (number_fits does before (step_of (step 2 r n))) v in
      let i = and_parts (not (list_any sets_frame before)) (not (eqb r 12) && list_any (pushes r) before) g.0 in
      let j = and_parts (not (eqb r 12)) (list_any (pushes r) before) i.1 in
      let p = and_parts (leb (min n 255) 240) (eqb (min n 255 % 16) 0) g.1 in
      let small : min n 255 ≤ 240 = leb-true (min n 255) 240 p.0 in
      (ap (step 2 r) (byte_small n small), (b.1 r j.1, small, eqb-true (min n 255 % 16) 0 p.1, not-true (list_any sets_frame before) i.0))

  save_owed : (r n : ℕ) → Owed (step 3 r n)
  save_owed r n k v =
      let g = shape_good (repeated before (step_of (step 3 r n))) (in_order before (step_of (step 3 r n))) (number_fits does before (step_of (step 3 r n))) v in
      let p = and_parts (eqb (n % 8) 0) (leb (n + 8) (block before) && (not (list_any (saves_at n) before) && (not does || leb 32 n))) g.1 in
      let q = and_parts (leb (n + 8) (block before)) (not (list_any (saves_at n) before) && (not does || leb 32 n)) p.1 in
      let in_block : n + 8 ≤ block before = leb-true (n + 8) (block before) q.0 in
      (refl, (k, omega (arith, in_block, b.0), eqb-true (n % 8) 0 p.0))

  of_kind : (r : StepRecord) (kind : ℕ) → r.kind ≡ kind → Owed (step kind r.register r.number) → Owed r
  of_kind r kind e h = subst Owed (ap (λ k. step k r.register r.number) (sym e)) h

  last_kind : (r : StepRecord) → (r.kind ≡ 0 → ⊥) → (r.kind ≡ 1 → ⊥) → (r.kind ≡ 2 → ⊥) → known r ≡ true → r.kind ≡ 3
  last_kind r x y z h =
      let h' : (eqb r.kind 3 && preserved r.register) ≡ true = rw (ne_eqb r.kind 0 x, ne_eqb r.kind 1 y, ne_eqb r.kind 2 z) at h in
      eqb-true r.kind 3 (and_parts (eqb r.kind 3) (preserved r.register) h').0

  owed : (r : StepRecord) → Owed r
  owed r k v =
      ⊎_elim (λ e. of_kind r 0 e (push_owed r.register r.number) k v) (λ x.
      ⊎_elim (λ e. of_kind r 1 e (allocate_owed r.register r.number) k v) (λ y.
      ⊎_elim (λ e. of_kind r 2 e (frame_owed r.register r.number) k v) (λ z.
      of_kind r 3 (last_kind r x y z k) (save_owed r.register r.number) k v)
      (cases_eq r.kind 2)) (cases_eq r.kind 1)) (cases_eq r.kind 0)

  pub step_good : (index : ℕ) (r : StepRecord) → result_map_both (λ x. x) (λ n. fault n index) (step_verdict does before r) ≡ Ok tt → (record_of (step_of r) ≡ r) × Fine (list_any sets_frame before) (step_of r)
  step_good index r h =
      let g = known_good (known r) (shape_verdict does before (step_of r)) (at_ok (step_verdict does before r) index h) in
      owed r g.0 g.1

-- the frame that a step sets is the first of those from it on
framed_by : (f : Option SetFrameStep) (before : List Step) (s : Step) (ss : List Step) → Fine (list_any sets_frame before) s → (list_any sets_frame before ≡ false → f ≡ frame (s ∷ ss)) → Framed f s
unfolding frame
framed_by f before (Push k) ss h link = tt
framed_by f before (Allocate k) ss h link = tt
framed_by f before (SetFrame k) ss h link = link h.3
framed_by f before (Save k) ss h link = tt

frame_rest : (s : Step) (ss : List Step) → sets_frame s ≡ false → frame (s ∷ ss) ≡ frame ss
unfolding frame
frame_rest (Push k) ss e = refl
frame_rest (Allocate k) ss e = refl
frame_rest (SetFrame k) ss e = absurd (false≢true (sym e))
frame_rest (Save k) ss e = refl

-- accepted steps are good, and their records say all
pub steps_good : (does : Bool) (index : ℕ) (f : Option SetFrameStep) (before : List Step) (rs : List StepRecord) → Before before → steps_verdict does index before rs ≡ Ok tt → (list_any sets_frame before ≡ false → f ≡ frame (map step_of rs)) →
    (map record_of (map step_of rs) ≡ rs) × Fines f (list_any sets_frame before) (map step_of rs)
unfolding steps_verdict
steps_good does index f before [] b v link = (refl, tt)
steps_good does index f before (r ∷ rs) b v link =
    let s : Step = step_of r in
    let ss : List Step = map step_of rs in
    let p = next_ok _ _ v in
    let g = step_good does before b index r p.0 in
    let after : (list_any sets_frame (before ++ s ∷ []) ≡ false → f ≡ frame ss) =
    λ e. let q = or_parts (list_any sets_frame before) (sets_frame s) (sym (any_push sets_frame before s) ∙ e) in link q.0 ∙ frame_rest s ss q.1 in
    let more = steps_good does (index + 1) f (before ++ s ∷ []) rs (before_push before (list_any sets_frame before) s b g.1) p.1 after in (
      ap (λ x. x ∷ map record_of ss) g.0 ∙ ap (λ l. r ∷ l) more.0,
      (g.1, framed_by f before s ss g.1 link, subst (λ u. Fines f u ss) (any_push sets_frame before s) more.1),
    )

nothing-before : Before []
unfolding block
nothing-before = (omega arith, λ q e. absurd (false≢true e))

-- a function of an accepted description
pub record Good (f : Function) : Type 0 where
  pub few_steps : length f.steps ≤ 10
  pub few_operations : length f.operations ≤ 255
  pub records : map record_of (map step_of f.steps) ≡ f.steps
  pub fine : Fines (frame (map step_of f.steps)) false (map step_of f.steps)

abbrev pub Goods : List Function → Type 0
Goods [] = Unit {0}
Goods (f ∷ fs) = Good f × Goods fs

pub function_good : (n index at operation : ℕ) (f : Function) → length f.steps ≤ 10 → length f.operations ≤ 255 → function_verdict n index at operation f ≡ Ok tt → Good f
function_good n index at operation f a b v =
    let p = next_ok _ _ v in
    let g = steps_good _ _ (frame (map step_of f.steps)) [] f.steps nothing-before p.0 (λ _. refl) in
    record { few_steps = a; few_operations = b; records = g.0; fine = g.1 }

pub functions_good : (n index at operation place : ℕ) (cs : List Counts) (ss : List StepRecord) (os : List OperationRecord) → limits_verdict place cs ≡ Ok tt → functions_verdict n index at operation (functions_in cs ss os) ≡ Ok tt → Goods (functions_in cs ss os)
unfolding limits_verdict functions_verdict functions_in
functions_good n index at operation place [] ss os l v = tt
functions_good n index at operation place (c ∷ cs) ss os l v =
    let p = next_ok _ _ v in
    let q = next_ok _ _ l in
    let w = limits_within c place q.0 in (
      function_good n index at operation (record { steps = take c.steps ss; operations = take c.operations os }) (take_short c.steps 10 ss w.0) (take_short c.operations 255 os w.1) p.0,
      functions_good n (index + 1) (at + length (take c.steps ss)) (operation + length (take c.operations os)) (place + 1) cs (drop c.steps ss) (drop c.operations os) q.1 p.1,
    )

-- what an accepted description says
pub record Accepted (t : Text) : Type 0 where
  pub some : 1 ≤ length t.counts
  pub few : length t.counts ≤ 64
  pub counted : steps_counted t.counts ≡ length t.steps
  pub good : Goods (functions_of t)

pub accepted : (t : Text) → plan_verdict t ≡ Ok tt → Accepted t
accepted t v =
    let p = next_ok _ _ v in
    let q = next_ok _ _ p.1 in
    let n = length t.counts in
    let within = and_parts (leb 1 n) (leb n 64) (owed_good _ 10 0 p.0) in
    let counts = counts_good t.counts (length t.steps) (length t.operations) q.0 in
    record {
      some = leb-true 1 n within.0;
      few = leb-true n 64 within.1;
      counted = counts.1;
      good = functions_good n 0 0 0 0 t.counts t.steps t.operations counts.0 q.1;
    }

-- such steps are sound
fine_sound : (used : Bool) (s : Step) → Fine used s → Sound s
fine_sound used (Push k) h = (h, kept_below k.register h)
fine_sound used (Allocate k) h = h
fine_sound used (SetFrame k) h = (h.0, kept_below k.register h.0, h.1)
fine_sound used (Save k) h = (h.0, kept_below k.register h.0, h.1, h.2)

pub all_sound : (f : Option SetFrameStep) (used : Bool) (ss : List Step) → Fines f used ss → AllSound ss
all_sound f used [] h = tt
all_sound f used (s ∷ ss) h = (fine_sound used s h.0, all_sound f (used || sets_frame s) ss h.2)
