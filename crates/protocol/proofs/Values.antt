-- The value of digits, step by step.
use Rattle.std.proofs.Common.{◌≡◌, ℕ, ◌+◌, ◌*◌, ◌^◌, ◌<◌, ◌≤◌, Option, List, [], ◌∷◌, length, get_or, drop, Some, None, sym, ap, ◌∙◌, subst, le_refl, le-mul_of_pos_right, ⊎_elim, arith}
use Rattle.std.specs.Str.Parse.{digits_value, digits_value_after}
use Rattle.std.specs.Char.{digit_value}
use Rattle.std.proofs.lemmas.List.{at_drop_more, at_drop_all}
use Rattle.std.proofs.lemmas.Bool.{cond-true, cond-false, lt-ltb, le-ltb, cases_lt}
use Rattle.protocol.specs.Reading.{held, longer}

-- what was read of the digits before index i: their number, or none where 128 bits do not hold the whole
abbrev pub Reads : ℕ → List ℕ → ℕ → Option ℕ → Type 0
Reads radix bs i (Some n) = (digits_value radix bs ≡ digits_value_after radix n (drop i bs)) × (n < 2 ^ 128)
Reads radix bs i None = 2 ^ 128 ≤ digits_value radix bs

module _ (radix : ℕ) (some : 1 ≤ radix) where
  after_grows : (n : ℕ) (ds : List ℕ) → n ≤ digits_value_after radix n ds
  after_grows n [] = le_refl n
  after_grows n (c ∷ cs) = omega (arith, le-mul_of_pos_right {m = radix} n some, after_grows (n * radix + digit_value c) cs)

  module _ (bs : List ℕ) (i n : ℕ) (h : i < length bs) (is : digits_value radix bs ≡ digits_value_after radix n (drop i bs)) where
    value-next : digits_value radix bs ≡ digits_value_after radix (n * radix + digit_value (get_or bs i 0)) (drop (i + 1) bs)
    value-next = is ∙ at_drop_more (digits_value_after radix n) bs i 0 h

    value-reaches : n * radix + digit_value (get_or bs i 0) ≤ digits_value radix bs
    value-reaches = subst (λ v. n * radix + digit_value (get_or bs i 0) ≤ v) (sym value-next) (after_grows _ (drop (i + 1) bs))

  reads_held : (bs : List ℕ) (i v : ℕ) → digits_value radix bs ≡ digits_value_after radix v (drop i bs) → v ≤ digits_value radix bs → Reads radix bs i (held v)
  reads_held bs i v is most =
      ⊎_elim
      (λ h. subst (λ o. Reads radix bs i o) (sym (cond-true _ _ _ (lt-ltb v (2 ^ 128) h))) (is, h))
      (λ h. subst (λ o. Reads radix bs i o) (sym (cond-false _ _ _ (le-ltb v (2 ^ 128) h))) (omega arith))
      (cases_lt v (2 ^ 128))

  pub reads_more : (bs : List ℕ) (i : ℕ) (o : Option ℕ) → i < length bs → Reads radix bs i o → Reads radix bs (i + 1) (longer radix (digit_value (get_or bs i 0)) o)
  reads_more bs i None h r = r
  reads_more bs i (Some n) h r = reads_held bs (i + 1) (n * radix + digit_value (get_or bs i 0)) (value-next bs i n h r.0) (value-reaches bs i n h r.0)

  pub reads_all : (bs : List ℕ) (i : ℕ) (o : Option ℕ) → length bs ≤ i → Reads radix bs i o → o ≡ held (digits_value radix bs)
  reads_all bs i None h r = sym (cond-false _ _ _ (le-ltb (digits_value radix bs) (2 ^ 128) r))
  reads_all bs i (Some n) h r =
      let is : digits_value radix bs ≡ n = r.0 ∙ at_drop_all (digits_value_after radix n) bs i h in
      ap Some (sym is) ∙ sym (cond-true _ _ _ (lt-ltb (digits_value radix bs) (2 ^ 128) (omega (arith, is, r.1))))
