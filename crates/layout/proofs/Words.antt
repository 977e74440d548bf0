-- Little-endian numbers of any width: read byte by byte, written, and read back.
use Rattle.std.proofs.Common.{◌≡◌, ℕ, zero, suc, ◌*◌, ◌/◌, ◌%◌, ◌^◌, ◌+◌, ◌<◌, ◌≤◌, List, [], ◌∷◌, length, get_or, take, drop, ◌++◌, Some, sym, refl, ap, ◌∙◌, pow-suc, arith}
use native.Mathlib.Nat.{div-div-eq-div-mul}
use Rattle.std.proofs.lemmas.Nat.{div_below}
use Rattle.std.proofs.lemmas.List.{drop_more, take_all, drop_at, take_at, length-append, length-take-le}
use Rattle.std.proofs.lemmas.Bool.{le-leb, cond-true}
use Rattle.layout.specs.Words.{le_value, le_bytes, word_at, overwritten}

-- the n bytes of a list from the place at + k on
abbrev pub bytes_from : ℕ → List ℕ → ℕ → ℕ → List ℕ
bytes_from zero bs at k = []
bytes_from (suc n) bs at k = get_or bs (at + k) 0 ∷ bytes_from n bs at (suc k)

part_is : (n : ℕ) (bs : List ℕ) (at k : ℕ) → at + k + n ≤ length bs → take n (drop (at + k) bs) ≡ bytes_from n bs at k
part_is zero bs at k h = refl
part_is (suc n) bs at k h =
    let here = drop_more bs (at + k) 0 (omega arith) in
    let next : at + k + 1 ≡ at + suc k = omega arith in
    let rest = ap (λ j. take n (drop j bs)) next ∙ part_is n bs at (suc k) (omega arith) in
    ap (take (suc n)) here ∙ ap (λ t. get_or bs (at + k) 0 ∷ t) rest

-- what the n bytes of a list spell
pub spelled : (n : ℕ) (bs : List ℕ) (v : ℕ) → length bs ≡ n → v ≡ le_value (bytes_from n bs 0 0) → v ≡ le_value bs
spelled n bs v h e = e ∙ sym (ap le_value (sym (take_all n bs (omega arith)) ∙ part_is n bs 0 0 (omega arith)))

-- the n bytes of a number above its d-th part
abbrev pub bytes_above : ℕ → ℕ → ℕ → List ℕ
bytes_above zero v d = []
bytes_above (suc n) v d = (v / d % 256) ∷ bytes_above n v (d * 256)

above_is : (n v d : ℕ) → bytes_above n v d ≡ le_bytes n (v / d)
unfolding le_bytes
above_is zero v d = refl
above_is (suc n) v d = ap (λ bs. (v / d % 256) ∷ bs) (above_is n v (d * 256) ∙ ap (le_bytes n) (sym (div-div-eq-div-mul v d 256)))

pub bytes_are : (n v : ℕ) → (v % 256) ∷ bytes_above n v 256 ≡ le_bytes (suc n) v
unfolding le_bytes
bytes_are n v = ap (λ bs. (v % 256) ∷ bs) (above_is n v 256)

pub length-le_bytes : (n v : ℕ) → length (le_bytes n v) ≡ n
unfolding le_bytes
length-le_bytes zero v = refl
length-le_bytes (suc n) v = ap suc (length-le_bytes n (v / 256))

pub value_of_bytes : (n v : ℕ) → v < 256 ^ n → le_value (le_bytes n v) ≡ v
unfolding le_bytes le_value
value_of_bytes zero v h = omega arith
value_of_bytes (suc n) v h =
    let below : v / 256 < 256 ^ n = div_below v 256 (256 ^ n) (omega arith) (rw pow-suc at h) in
    omega (arith, value_of_bytes n (v / 256) below)

-- what is read where a word stands
pub word_there : (n : ℕ) (front new rest : List ℕ) (at v : ℕ) → length front ≡ at → new ≡ le_bytes n v → v < 256 ^ n → word_at n (front ++ (new ++ rest)) at ≡ Some v
word_there n front new rest at v place spells small =
    let long : length new ≡ n = ap length spells ∙ length-le_bytes n v in
    let size : length (front ++ (new ++ rest)) ≡ at + (n + length rest) = simp (length-append) (omega arith) in
    let part : take n (drop at (front ++ (new ++ rest))) ≡ new = ap (take n) (drop_at front _ at place) ∙ take_at new _ n long in
    let fits : at + n ≤ length (front ++ (new ++ rest)) = omega arith in
    cond-true _ _ _ (le-leb _ _ fits) ∙ ap (λ l. Some (le_value l)) (part ∙ spells) ∙ ap Some (value_of_bytes n v small)

-- what is read where a word was written
pub word_back : (n : ℕ) (bs : List ℕ) (at v : ℕ) → v < 256 ^ n → at + n ≤ length bs → word_at n (overwritten bs at (le_bytes n v)) at ≡ Some v
word_back n bs at v small h = word_there n (take at bs) (le_bytes n v) (drop (at + length (le_bytes n v)) bs) at v (length-take-le at bs (omega arith)) refl small
