-- An info is small.
use Rattle.std.proofs.Common.{ℕ, ◌*◌, ◌%◌, ◌≤◌, Bool, true, false, cond, eqb, leb, List, [], ◌∷◌, map, length, refl, arith}
use Rattle.std.specs.List.{sum_by}
use Rattle.std.proofs.lemmas.List.Sums.{sum_by-cons}
use Rattle.x64.specs.Encodings.{four}
use Rattle.steps.specs.Kinds.{two}
use Rattle.plan.specs.Steps.{step_of, step_code}
use Rattle.plan.specs.UnwindInfos.{codes, info_bytes}
use Rattle.plan.specs.declared.text.StepRecord.{StepRecord}
use Rattle.compile.proofs.Coding.{code_bytes, codes_sized, info_length}
use Rattle.plan.specs.declared.step.Step.{Step}
use Rattle.plan.specs.declared.step.Step.TheVariants.{Push, Allocate, SetFrame, Save}

three_forms : (a b : Bool) (x y n m : ℕ) → length (cond a (0 ∷ x ∷ []) (cond b (0 ∷ y ∷ two n) (0 ∷ 17 ∷ four m))) ≤ 6
three_forms true b x y n m = omega arith
three_forms false true x y n m = omega arith
three_forms false false x y n m = omega arith

two_forms : (a : Bool) (x y n m : ℕ) → length (cond a (0 ∷ x ∷ two n) (0 ∷ y ∷ four m)) ≤ 6
two_forms true x y n m = omega arith
two_forms false x y n m = omega arith

code_at_most : (s : Step) → length (step_code 0 s) ≤ 6
code_at_most (Push k) = omega arith
code_at_most (Allocate k) = three_forms (leb k.size 128) (leb k.size 524280) _ _ _ _
code_at_most (SetFrame k) = omega arith
code_at_most (Save k) = two_forms (leb k.offset 524280) _ _ _ _

pub codes_at_most : (rs : List StepRecord) → sum_by code_bytes rs ≤ 6 * length rs
codes_at_most [] = omega arith
codes_at_most (r ∷ rs) = omega (arith, sum_by-cons code_bytes r rs, code_at_most (step_of r), codes_at_most rs)

pad_at_most : (b : Bool) → length {A = ℕ} (cond b [] (0 ∷ 0 ∷ [])) ≤ 2
pad_at_most true = omega arith
pad_at_most false = omega arith

pub info_at_most : (rs : List StepRecord) → length rs ≤ 10 → length (info_bytes (map step_of rs)) ≤ 66
info_at_most rs h =
    let size = length (codes 0 (map step_of rs)) in
    omega (arith, codes_sized 0 rs, codes_at_most rs, info_length (map step_of rs) size refl, pad_at_most (eqb (size % 4) 0), h)
