-- What was encoded decodes to itself, whatever follows.
use Rattle.std.proofs.Common.{◌≡◌, ℕ, ◌+◌, ◌-◌, ◌*◌, ◌/◌, ◌%◌, ◌^◌, ◌<◌, ◌≤◌, Bool, true, false, cond, eqb, ◌≢◌, ◌⊎◌, List, [], ◌∷◌, ◌++◌, length, take, Some, sym, refl, ap, ◌∙◌, inl, inr, ⊎_elim, arith}
use native.Mathlib.Nat.{div-div-eq-div-mul}
use Rattle.std.proofs.lemmas.List.{drop_at, get_or_at, length-append}
use Rattle.std.proofs.lemmas.Bool.{le-leb, lt-ltb, le-ltb, lt-leb, ne_eqb, cases_lt, cond-true, cond-false}
use Rattle.layout.specs.Words.{le_value, le_bytes}
use Rattle.layout.proofs.Words.{value_of_bytes}
use Rattle.x64.specs.Encodings.{modrm, high, short, four, spelled, mode, at_rsp, at_frame}
use Rattle.x64.specs.Decodings.{extended, displaced, ending, formed, at_rsp_form, at_frame_form, memory_in, rexed, decoded}
use Rattle.x64.proofs.Decoding.{by_rex}

four-value : (d : ℕ) → d < 2 ^ 32 → le_value (four d) ≡ d
unfolding le_bytes
four-value d h =
    let spelt : le_bytes 4 d ≡ four d = simp div-div-eq-div-mul in
    ap le_value (sym spelt) ∙ value_of_bytes 4 d (omega arith)

-- a byte that stands for a short displacement
short_byte : (d : ℕ) → d < 2 ^ 32 → short d ≡ true → extended (d % 256) ≡ d
short_byte d h s = ⊎_elim low-case (λ a. ⊎_elim (λ b. absurd (middle a b)) (high-case a) (cases_lt d (2 ^ 32 - 128))) (cases_lt d 128)
  where
    low-case : d < 128 → extended (d % 256) ≡ d
    low-case a = let m : d % 256 ≡ d = omega arith in ap extended m ∙ cond-true _ _ _ (lt-ltb d 128 a)

    high-case : 128 ≤ d → 2 ^ 32 - 128 ≤ d → extended (d % 256) ≡ d
    high-case a b = let m : 128 ≤ d % 256 = omega arith in cond-false _ _ _ (le-ltb (d % 256) 128 m) ∙ omega arith

    middle : 128 ≤ d → d < 2 ^ 32 - 128 → ⊥
    middle a b = let z : short d ≡ false = rw (le-ltb d 128 a, lt-leb (2 ^ 32 - 128) d b) in let y : ◌≡◌ {A = Bool} true false = sym s ∙ z in let x : ◌≡◌ {A = ℕ} 0 1 = ap (λ t. cond t 0 1) y in absurd (omega arith)

-- a displacement after some bytes
pub displacement : (wide : Bool) (xs : List ℕ) (d : ℕ) (rest : List ℕ) → d < 2 ^ 32 → (wide ≡ false → short d ≡ true) → displaced wide (xs ++ (spelled wide d ++ rest)) (length xs) ≡ Some (d, length xs + length (spelled wide d))
displacement true xs d rest h f =
    let long : length xs + 4 ≤ length (xs ++ (four d ++ rest)) = omega (arith, length-append xs (four d ++ rest)) in
    cond-true _ _ _ (le-leb _ _ long) ∙ ap (λ l. Some (le_value (take 4 l), length xs + 4)) (drop_at xs (four d ++ rest) (length xs) refl) ∙ ap (λ v. Some (v, length xs + 4)) (four-value d h)
displacement false xs d rest h f =
    let long : length xs < length (xs ++ (d % 256 ∷ rest)) = omega (arith, length-append xs (d % 256 ∷ rest)) in
    cond-true _ _ _ (lt-ltb _ _ long) ∙ ap (λ b. Some (extended b, length xs + 1)) (get_or_at xs (d % 256) rest 0 (length xs) refl) ∙ ap (λ v. Some (v, length xs + 1)) (short_byte d h (f refl))

-- an access at RSP, by its bytes
memory_rsp : (b0 rex op m r d : ℕ) (wide : Bool) (rest : List ℕ) → m / 64 ≡ mode wide → m % 8 ≡ 4 → rex % 2 ≡ 0 → m / 8 % 8 + 8 * (rex / 4) ≡ r → d < 2 ^ 32 → (wide ≡ false → short d ≡ true) →
    memory_in rex op (b0 ∷ op ∷ m ∷ 36 ∷ (spelled wide d ++ rest)) ≡ ending (at_rsp_form op r d) (4 + length (spelled wide d))
memory_rsp b0 rex op m r d true rest e1 e2 e3 e4 h f = rw (e1, e2, e3, e4) (ap (λ o. formed o (at_rsp_form op r)) (displacement true (b0 ∷ op ∷ m ∷ 36 ∷ []) d rest h f))
memory_rsp b0 rex op m r d false rest e1 e2 e3 e4 h f = rw (e1, e2, e3, e4) (ap (λ o. formed o (at_rsp_form op r)) (displacement false (b0 ∷ op ∷ m ∷ 36 ∷ []) d rest h f))

-- an access at a frame register, by its bytes
memory_frame : (b0 rex op m r e d : ℕ) (wide : Bool) (rest : List ℕ) → m / 64 ≡ mode wide → m % 8 ≡ e → e ≢ 4 → m / 8 % 8 + 8 * (rex / 4) ≡ r → d < 2 ^ 32 → (wide ≡ false → short d ≡ true) →
    memory_in rex op (b0 ∷ op ∷ m ∷ (spelled wide d ++ rest)) ≡ ending (at_frame_form op r (e + 8 * (rex % 2)) d) (3 + length (spelled wide d))
memory_frame b0 rex op m r e d true rest e1 e2 ne e4 h f = rw (e1, e2, ne_eqb e 4 ne, e4) (ap (λ o. formed o (at_frame_form op r (e + 8 * (rex % 2)))) (displacement true (b0 ∷ op ∷ m ∷ []) d rest h f))
memory_frame b0 rex op m r e d false rest e1 e2 ne e4 h f = rw (e1, e2, ne_eqb e 4 ne, e4) (ap (λ o. formed o (at_frame_form op r (e + 8 * (rex % 2)))) (displacement false (b0 ∷ op ∷ m ∷ []) d rest h f))

pub high_cases : (r : ℕ) → ((r < 8) × (high r ≡ 0)) ⊎ ((8 ≤ r) × (high r ≡ 1))
high_cases r = ⊎_elim (λ h. inl (h, cond-true _ _ _ (lt-ltb r 8 h))) (λ h. inr (h, cond-false _ _ _ (le-ltb r 8 h))) (cases_lt r 8)

pub high_le : (r : ℕ) → high r ≤ 1
high_le r = ⊎_elim (λ h. omega (arith, h.1)) (λ h. omega (arith, h.1)) (high_cases r)

-- a register from its low bits and its high one
pub halves : (r : ℕ) → r < 16 → r % 8 + 8 * high r ≡ r
halves r h = ⊎_elim (λ c. omega (arith, c.0, c.1)) (λ c. omega (arith, c.0, c.1)) (high_cases r)

rexed_memory : (rex b0 op : ℕ) (bs : List ℕ) → rex / 2 % 2 ≡ 0 → eqb op 129 ≡ false → eqb op 131 ≡ false → eqb op 199 ≡ false → rexed rex (b0 ∷ op ∷ bs) ≡ memory_in rex op (b0 ∷ op ∷ bs)
rexed_memory rex b0 op bs e a b c = rw (e, a, b, c)

module _ (op d : ℕ) (wide : Bool) (rest : List ℕ) (a : eqb op 129 ≡ false) (b : eqb op 131 ≡ false) (c : eqb op 199 ≡ false) (h : d < 2 ^ 32) (f : wide ≡ false → short d ≡ true) where
  pub rsp_access : (r : ℕ) → r < 16 → decoded (at_rsp op wide r d ++ rest) ≡ ending (at_rsp_form op r d) (4 + length (spelled wide d))
  rsp_access r l =
      let hr : ℕ = high r in
      let one : hr ≤ 1 = high_le r in
      let b0 : ℕ = 72 + 4 * hr in
      let m : ℕ = modrm (mode wide) (r % 8) 4 in
      let tail : List ℕ = m ∷ 36 ∷ (spelled wide d ++ rest) in
      let rex : ℕ = b0 - 72 in
      let quarter : rex / 4 ≡ hr = omega arith in
      let is : m / 8 % 8 + 8 * (rex / 4) ≡ r = ap (λ q. m / 8 % 8 + 8 * q) quarter ∙ omega (arith, halves r l) in
      by_rex (b0 ∷ op ∷ tail) (omega arith) (omega arith)
      ∙ rexed_memory rex b0 op tail (omega arith) a b c
      ∙ memory_rsp b0 rex op m r d wide rest (omega arith) (omega arith) (omega arith) is h f

  pub frame_access : (r q : ℕ) → r < 16 → q < 16 → q % 8 ≢ 4 → decoded (at_frame op wide r q d ++ rest) ≡ ending (at_frame_form op r q d) (3 + length (spelled wide d))
  frame_access r q l k ne =
      let hr : ℕ = high r in
      let hq : ℕ = high q in
      let one : hr ≤ 1 = high_le r in
      let two : hq ≤ 1 = high_le q in
      let b0 : ℕ = 72 + 4 * hr + hq in
      let m : ℕ = modrm (mode wide) (r % 8) (q % 8) in
      let tail : List ℕ = m ∷ (spelled wide d ++ rest) in
      let rex : ℕ = b0 - 72 in
      let quarter : rex / 4 ≡ hr = omega arith in
      let odd : rex % 2 ≡ hq = omega arith in
      let is : m / 8 % 8 + 8 * (rex / 4) ≡ r = ap (λ x. m / 8 % 8 + 8 * x) quarter ∙ omega (arith, halves r l) in
      let base : q % 8 + 8 * (rex % 2) ≡ q = ap (λ x. q % 8 + 8 * x) odd ∙ halves q k in
      by_rex (b0 ∷ op ∷ tail) (omega arith) (omega arith)
      ∙ rexed_memory rex b0 op tail (omega arith) a b c
      ∙ memory_frame b0 rex op m r (q % 8) d wide rest (omega arith) (omega arith) ne is h f
      ∙ ap (λ x. ending (at_frame_form op r x d) (3 + length (spelled wide d))) base
