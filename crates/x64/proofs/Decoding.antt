-- What bytes begin with, by the first of them.
use Rattle.std.proofs.Common.{◌≡◌, ℕ, ◌-◌, ◌<◌, ◌≤◌, true, false, ◌&&◌, ltb, leb, ◌⊎◌, List, get_or, Some, inl, inr, arith}
use Rattle.std.proofs.lemmas.Bool.{eq-eqb, ne_eqb, and_left, and_right, le-leb, lt-leb, lt-ltb, le-ltb}
use Rattle.x64.specs.Decodings.{displaced, formed, ending, plain, upper_plain, rexed, decoded}
use Rattle.x64.specs.declared.instruction.Instruction.TheVariants.{Call}

module _ (bs : List ℕ) where
  pub by_call : get_or bs 0 0 ≡ 232 → decoded bs ≡ formed (displaced true bs 1) (λ d. Some (Call d))
  unfolding decoded
  by_call e = rw (eq-eqb (get_or bs 0 0) 232 e)

  pub by_upper : get_or bs 0 0 ≡ 65 → decoded bs ≡ ending (upper_plain (get_or bs 1 0)) 2
  unfolding decoded
  by_upper e = rw (ne_eqb (get_or bs 0 0) 232 (λ f. absurd (omega arith)), eq-eqb (get_or bs 0 0) 65 e)

  pub by_rex : 72 ≤ get_or bs 0 0 → get_or bs 0 0 < 80 → decoded bs ≡ rexed (get_or bs 0 0 - 72) bs
  unfolding decoded
  by_rex a b = rw (ne_eqb (get_or bs 0 0) 232 (λ f. absurd (omega arith)), ne_eqb (get_or bs 0 0) 65 (λ f. absurd (omega arith)), le-leb 72 (get_or bs 0 0) a, lt-ltb (get_or bs 0 0) 80 b)

  outside : (get_or bs 0 0 < 72) ⊎ (80 ≤ get_or bs 0 0) → (leb 72 (get_or bs 0 0) && ltb (get_or bs 0 0) 80) ≡ false
  outside (inl h) = and_left (leb 72 (get_or bs 0 0)) (ltb (get_or bs 0 0) 80) (lt-leb 72 (get_or bs 0 0) h)
  outside (inr h) = and_right (leb 72 (get_or bs 0 0)) (ltb (get_or bs 0 0) 80) (le-ltb (get_or bs 0 0) 80 h)

  pub by_plain : (get_or bs 0 0 ≡ 232 → ⊥) → (get_or bs 0 0 ≡ 65 → ⊥) → (get_or bs 0 0 < 72) ⊎ (80 ≤ get_or bs 0 0) → decoded bs ≡ ending (plain (get_or bs 0 0)) 1
  unfolding decoded
  by_plain a b o = rw (ne_eqb (get_or bs 0 0) 232 a, ne_eqb (get_or bs 0 0) 65 b, outside o)
