-- The codes of steps, decoded: each means its step.
use Rattle.std.proofs.Common.{◌≡◌, ℕ, ◌+◌, ◌-◌, ◌*◌, ◌/◌, ◌%◌, ◌^◌, ◌<◌, ◌≤◌, Bool, cond, eqb, leb, List, [], ◌∷◌, ◌++◌, length, get_or, Ok, Err, Result, refl, ap, ◌∙◌, ⊎_elim, arith}
use Rattle.std.proofs.lemmas.List.{length-append}
use Rattle.std.proofs.lemmas.Bool.{le-leb, lt-leb, cond-true, cond-false, cases_lt}
use Rattle.layout.proofs.Words.{value_of_bytes}
use Rattle.layout.specs.Words.{le_value, le_bytes}
use Rattle.x64.specs.Encodings.{four}
use Rattle.steps.specs.Kinds.{two}
use Rattle.infos.specs.Codes.{bind, width, meant, decoded_in}
use Rattle.infos.specs.declared.code.Code.{Code}
use Rattle.infos.specs.declared.code.Operation.{Operation}
use Rattle.infos.specs.declared.code.Operation.TheVariants.{Push as Pushed, Allocate as Allocated, SetFrame as FrameSet, Save as Saved}
use Rattle.plan.specs.Steps.{step_code}
use Rattle.plan.specs.declared.step.Step.{Step}
use Rattle.plan.specs.declared.step.Step.TheVariants.{Push, Allocate, SetFrame, Save}
use Rattle.plan.proofs.Accepted.{Fine, kept_below, kept_not_rsp}

-- the operation that a step's code is
abbrev pub operation : Step → Operation
operation (Push k) = Pushed k.register
operation (Allocate k) = Allocated k.size
operation (SetFrame k) = FrameSet
operation (Save k) = Saved k.register k.offset

abbrev pub code : ℕ → ℕ → Step → Code
code slot end s = record { slot = slot; offset = end; operation = operation s }

-- a code by its operation and its info
abbrev decoding : ℕ → List ℕ → ℕ → ℕ → Result ℕ ℕ → Result (Code × ℕ) ℕ
decoding slot bs op info w = bind w (λ n. cond (leb (2 * n) (length bs)) (Ok (record { slot = slot; offset = get_or bs 0 0; operation = meant op info bs }, n)) (Err 44))

decoded_by : (slot end b : ℕ) (rest : List ℕ) (op info n : ℕ) → b % 16 ≡ op → b / 16 ≡ info → width op info ≡ Ok n → 2 * n ≤ 2 + length rest →
    decoded_in slot (end ∷ b ∷ rest) ≡ Ok (record { slot = slot; offset = end; operation = meant op info (end ∷ b ∷ rest) }, n)
decoded_by slot end b rest op info n o i w h =
    let bs : List ℕ = end ∷ b ∷ rest in
    ap (λ q. decoding slot bs q (b / 16) (width q (b / 16))) o
    ∙ ap (λ q. decoding slot bs op q (width op q)) i
    ∙ ap (λ q. decoding slot bs op info q) w
    ∙ cond-true _ _ _ (le-leb (2 * n) (length bs) (omega arith))

-- a step's code is decoded as that step, and is used up
pub record Decodes (slot end : ℕ) (s : Step) (tail : List ℕ) : Type 0 where
  pub used : ℕ
  pub is : decoded_in slot (step_code end s ++ tail) ≡ Ok (code slot end s, used)
  pub size : 2 * used ≡ length (step_code end s)
  pub some : 1 ≤ used
  pub few : used ≤ 3

by_form : (slot end : ℕ) (s : Step) (tail : List ℕ) (b : ℕ) (rest : List ℕ) (op info n : ℕ) → step_code end s ≡ end ∷ b ∷ rest → b % 16 ≡ op → b / 16 ≡ info → width op info ≡ Ok n → 2 * n ≡ 2 + length rest →
    meant op info (end ∷ b ∷ (rest ++ tail)) ≡ operation s → 1 ≤ n → n ≤ 3 → Decodes slot end s tail
by_form slot end s tail b rest op info n shape o i w size means some few =
    record {
      used = n;
      is =
          ap (λ l. decoded_in slot (l ++ tail)) shape
          ∙ decoded_by slot end b (rest ++ tail) op info n o i w (omega (arith, size, length-append rest tail))
          ∙ ap (λ x. Ok (record { slot = slot; offset = end; operation = x }, n)) means;
      size = size ∙ omega (arith, ap length shape);
      some = some;
      few = few;
    }

two-value : (n : ℕ) → n < 65536 → le_value (two n) ≡ n
unfolding le_value
two-value n h = omega arith

pub four-value : (n : ℕ) → n < 2 ^ 32 → le_value (four n) ≡ n
unfolding le_bytes
four-value n h =
    let a : n / 65536 ≡ n / 256 / 256 = omega arith in
    let b : n / 16777216 ≡ n / 256 / 256 / 256 = omega arith in
    let same : four n ≡ le_bytes 4 n = ap (λ x. n % 256 ∷ n / 256 % 256 ∷ x % 256 ∷ n / 16777216 % 256 ∷ []) a ∙ ap (λ x. n % 256 ∷ n / 256 % 256 ∷ n / 256 / 256 % 256 ∷ x % 256 ∷ []) b in
    ap le_value same ∙ value_of_bytes 4 n (omega arith)

-- by kind
pub decodes : (slot end : ℕ) (used : Bool) (s : Step) (tail : List ℕ) → Fine used s → Decodes slot end s tail
decodes slot end used (Push k) tail h =
    let r : ℕ = k.register in
    by_form slot end (Push k) tail (16 * r) [] 0 r 1 refl (omega arith) (omega arith) (cond-false (eqb r 4) (Err 43) (Ok 1) (kept_not_rsp r h)) refl refl (omega arith) (omega arith)
decodes slot end used (Allocate k) tail h =
    let n : ℕ = k.size in
    let small : n ≤ 128 → Decodes slot end (Allocate k) tail = λ l.
    let same : 8 * (n / 8 - 1) + 8 ≡ n = omega (arith, h.0, h.2) in
    by_form slot end (Allocate k) tail (16 * (n / 8 - 1) + 2) [] 2 (n / 8 - 1) 1 (cond-true _ _ _ (le-leb n 128 l)) (omega arith) (omega arith) refl refl (ap Allocated same) (omega arith) (omega arith) in
    let middle : 128 < n → n ≤ 524280 → Decodes slot end (Allocate k) tail = λ g l.
    let same : 8 * le_value (two (n / 8)) ≡ n = ap (λ x. 8 * x) (two-value (n / 8) (omega arith)) ∙ omega (arith, h.2) in
    by_form slot end (Allocate k) tail 1 (two (n / 8)) 1 0 2 (cond-false _ _ _ (lt-leb n 128 g) ∙ cond-true _ _ _ (le-leb n 524280 l)) refl refl refl refl (ap Allocated same) (omega arith) (omega arith) in
    let large : 128 < n → 524280 < n → Decodes slot end (Allocate k) tail = λ g l.
    by_form slot end (Allocate k) tail 17 (four n) 1 1 3 (cond-false _ _ _ (lt-leb n 128 g) ∙ cond-false _ _ _ (lt-leb n 524280 l)) refl refl refl refl (ap Allocated (four-value n (omega (arith, h.1)))) (omega arith) (omega arith) in
    ⊎_elim (λ l. ⊎_elim (λ m. large l m) (λ m. middle l m) (cases_lt 524280 n)) (λ l. small l) (cases_lt 128 n)
decodes slot end used (SetFrame k) tail h = by_form slot end (SetFrame k) tail 3 [] 3 0 1 refl refl refl refl refl refl (omega arith) (omega arith)
decodes slot end used (Save k) tail h =
    let r : ℕ = k.register in
    let o : ℕ = k.offset in
    let low : r < 16 = kept_below r h.0 in
    let near : o ≤ 524280 → Decodes slot end (Save k) tail = λ l.
    let same : 8 * le_value (two (o / 8)) ≡ o = ap (λ x. 8 * x) (two-value (o / 8) (omega arith)) ∙ omega (arith, h.2) in
    by_form slot end (Save k) tail (16 * r + 4) (two (o / 8)) 4 r 2 (cond-true _ _ _ (le-leb o 524280 l)) (omega arith) (omega arith) (cond-false (eqb r 4) (Err 43) (Ok 2) (kept_not_rsp r h.0)) refl (ap (Saved r) same) (omega arith) (omega arith) in
    let far : 524280 < o → Decodes slot end (Save k) tail = λ l.
    by_form slot end (Save k) tail (16 * r + 5) (four o) 5 r 3 (cond-false _ _ _ (lt-leb o 524280 l)) (omega arith) (omega arith) (cond-false (eqb r 4) (Err 43) (Ok 3) (kept_not_rsp r h.0)) refl (ap (Saved r) (four-value o (omega (arith, h.1)))) (omega arith) (omega arith) in
    ⊎_elim (λ l. far l) (λ l. near l) (cases_lt 524280 o)
