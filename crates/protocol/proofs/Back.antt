-- What was written is read back.
use Rattle.std.proofs.Common.{◌≡◌, ℕ, suc, ◌+◌, ◌*◌, ◌/◌, ◌%◌, ◌<◌, ◌≤◌, true, false, eqb, ltb, List, [], ◌∷◌, map, length, get_or, IfOk, Ok, Err, Result, refl, ap, ◌∙◌, ⊎_elim, arith}
use lib.ListN.{length-map}
use Rattle.std.specs.Str.Parse.{digits_value}
use Rattle.std.specs.Char.{digit_value, digit_char}
use Rattle.std.specs.Int.Digits.{digits_of, AllBelowBase, number_from_digits}
use Rattle.std.specs.List.{list_all}
use Rattle.std.proofs.lemmas.Int.Digits.{digits_value_is, all_below_base_digits_of, number_digits_of, length-digits_of_step}
use Rattle.std.proofs.lemmas.List.{get_or_past}
use Rattle.std.proofs.lemmas.List.Sums.{AllPass-from_list_all}
use Rattle.std.proofs.lemmas.Bool.{cases_lt, cond_both, cond-true, cond-false, lt-ltb, ltb-true, eq-eqb, ne_eqb, eqb-true, eqb-false, and_from, and_left, and_right}
use Rattle.std.proofs.lemmas.Bool.Decides.{nat_tests}
use Rattle.std.proofs.lemmas.Str.{digit_value-digit_char}
use Rattle.protocol.specs.Cuts.{dash}
use Rattle.protocol.specs.Digits.{figures, decimal, hexadecimal}
use Rattle.protocol.specs.Reading.{is_digit, numeral_of, prefixed, number_of}
use Rattle.protocol.specs.Strings.{nibble_of, is_hex, paired, byte_string, pairs, string_of}

pub made_always : {X Y : Type 0} (r : Result X Y) (P : X → Type 0) → ((x : X) → P x) → IfOk r P
made_always (Ok x) P f = f x
made_always (Err y) P f = tt

-- Numbers.

module _ (radix : ℕ) (low : 2 ≤ radix) (high : radix ≤ 36) where
  chars_values : (ds : List ℕ) → AllBelowBase radix ds → map digit_value (map digit_char ds) ≡ ds
  chars_values [] u = refl
  chars_values (d ∷ ds) u =
      let one = digit_value-digit_char d (omega (arith, u.0)) in
      let rest = chars_values ds u.1 in
      cc

  chars_digits : (ds : List ℕ) → AllBelowBase radix ds → list_all (is_digit radix) (map digit_char ds) ≡ true
  chars_digits [] u = refl
  chars_digits (d ∷ ds) u = and_from _ _ (lt-ltb (digit_value (digit_char d)) radix (omega (arith, u.0, digit_value-digit_char d (omega (arith, u.0))))) (chars_digits ds u.1)

  figures_digits : (n : ℕ) → list_all (is_digit radix) (figures radix n) ≡ true
  figures_digits n =
      cond_both (eqb n 0) (48 ∷ []) (map digit_char (digits_of radix n)) (λ bs. list_all (is_digit radix) bs ≡ true)
      (λ e. and_from (ltb 0 radix) true (lt-ltb 0 radix (omega arith)) refl)
      (λ e. chars_digits (digits_of radix n) (all_below_base_digits_of radix n low))

  figures_some : (n : ℕ) → 0 < length (figures radix n)
  figures_some n =
      cond_both (eqb n 0) (48 ∷ []) (map digit_char (digits_of radix n)) (λ bs. 0 < length bs)
      (λ e. omega arith)
      (λ e. omega (arith, length-map (digits_of radix n) digit_char, length-digits_of_step radix n low (omega (arith, eqb-false n 0 e))))

  figures-value : (n : ℕ) → digits_value radix (figures radix n) ≡ n
  figures-value n =
      cond_both (eqb n 0) (48 ∷ []) (map digit_char (digits_of radix n)) (λ bs. digits_value radix bs ≡ n)
      (λ e. omega (arith, eqb-true n 0 e))
      (λ e. digits_value_is radix (map digit_char (digits_of radix n)) ∙ ap (number_from_digits radix) (chars_values (digits_of radix n) (all_below_base_digits_of radix n low)) ∙ number_digits_of radix n low)

  -- digits that all pass, of a value below the limit
  whole : (limit n : ℕ) (bs : List ℕ) → 0 < length bs → list_all (is_digit radix) bs ≡ true → digits_value radix bs ≡ n → n < limit → numeral_of limit radix bs ≡ Ok n
  whole limit n bs some all is h = cond-true _ _ _ (and_from _ _ (lt-ltb _ _ some) all) ∙ cond-true _ _ _ (lt-ltb (digits_value radix bs) limit (omega arith)) ∙ ap Ok is

  figures_back : (n limit : ℕ) → n < limit → numeral_of limit radix (figures radix n) ≡ Ok n
  figures_back n limit h = whole limit n (figures radix n) (figures_some n) (figures_digits n) (figures-value n) h

pub hexadecimal_back : (n limit : ℕ) → n < limit → number_of limit (hexadecimal n) ≡ Ok n
hexadecimal_back n limit h = figures_back 16 (omega arith) (omega arith) n limit h

not_prefixed : (bs : List ℕ) → list_all (is_digit 10) bs ≡ true → prefixed bs ≡ false
not_prefixed bs all =
    and_right _ _
    (ne_eqb (get_or bs 1 0) 120
    (λ e. ⊎_elim
    (λ (h : 1 < length bs). omega (arith, ap digit_value e, ltb-true (digit_value (get_or bs 1 0)) 10 (AllPass-from_list_all (is_digit 10) bs all 1 0 h)))
    (λ (h : length bs ≤ 1). omega (arith, e, get_or_past bs 1 0 h))
    (cases_lt 1 (length bs))))

pub decimal_back : (n limit : ℕ) → n < limit → number_of limit (decimal n) ≡ Ok n
decimal_back n limit h = cond-false (prefixed (decimal n)) _ _ (not_prefixed (decimal n) (figures_digits 10 (omega arith) (omega arith) n)) ∙ figures_back 10 (omega arith) (omega arith) n limit h

-- Byte strings.

nibble_char : (d : ℕ) → d < 16 → nibble_of (digit_char d) ≡ d
nibble_char d h = grind (arith, nat_tests)

pairs-length : (bs : List ℕ) → length (pairs bs) ≡ 2 * length bs
pairs-length [] = refl
pairs-length (b ∷ bs) = omega (arith, pairs-length bs)

pairs_hex : (bs : List ℕ) → ((i : ℕ) → get_or bs i 0 < 256) → list_all is_hex (pairs bs) ≡ true
pairs_hex [] small = refl
pairs_hex (b ∷ bs) small =
    let high = nibble_char (b / 16) (omega (arith, small 0)) in
    let low = nibble_char (b % 16) (omega arith) in
    and_from _ _ (lt-ltb (nibble_of (digit_char (b / 16))) 16 (omega (arith, high, small 0)))
    (and_from _ _ (lt-ltb (nibble_of (digit_char (b % 16))) 16 (omega (arith, low))) (pairs_hex bs (λ i. small (suc i))))

pairs_back : (bs : List ℕ) → ((i : ℕ) → get_or bs i 0 < 256) → paired (pairs bs) ≡ bs
pairs_back [] small = refl
pairs_back (b ∷ bs) small =
    let high = nibble_char (b / 16) (omega (arith, small 0)) in
    let low = nibble_char (b % 16) (omega arith) in
    let byte : 16 * nibble_of (digit_char (b / 16)) + nibble_of (digit_char (b % 16)) ≡ b = omega (arith, high, low) in
    let rest = pairs_back bs (λ i. small (suc i)) in
    cc

-- pairs of digits, at least one
string_pairs : (ps bs : List ℕ) → 0 < length bs → length ps ≡ 2 * length bs → list_all is_hex ps ≡ true → paired ps ≡ bs → byte_string ps ≡ Ok bs
string_pairs ps bs some twice all is =
    cond-false (dash ps) _ _ (and_left _ _ (ne_eqb (length ps) 1 (λ e. omega arith)))
    ∙ cond-false (eqb (length ps) 0) _ _ (ne_eqb (length ps) 0 (λ e. omega arith))
    ∙ cond-true (list_all is_hex ps) _ _ all
    ∙ cond-true (eqb (length ps % 2) 0) _ _ (eq-eqb (length ps % 2) 0 (omega arith))
    ∙ ap Ok is

pub string_back : (bs : List ℕ) → ((i : ℕ) → get_or bs i 0 < 256) → byte_string (string_of bs) ≡ Ok bs
string_back [] small = refl
string_back (b ∷ bs) small =
    ap byte_string (cond-false (eqb (length (b ∷ bs)) 0) _ _ (ne_eqb (length (b ∷ bs)) 0 (λ e. omega arith)))
    ∙ string_pairs (pairs (b ∷ bs)) (b ∷ bs) (omega arith) (pairs-length (b ∷ bs)) (pairs_hex (b ∷ bs) small) (pairs_back (b ∷ bs) small)
