-- Pairs of hexadecimal digits, step by step.
use Rattle.std.proofs.Common.{◌≡◌, ℕ, zero, suc, ◌+◌, ◌*◌, ◌<◌, ◌≤◌, true, List, [], ◌∷◌, map, length, get_or, refl, ap, arith}
use Rattle.std.specs.List.{list_all}
use Rattle.std.specs.Simd.{first_chunks}
use Rattle.std.proofs.lemmas.Bool.{and_parts}
use Rattle.protocol.specs.Strings.{nibble_of, is_hex, paired}

-- the byte that a pair of digits writes
abbrev pub pair_byte : List ℕ → ℕ
pair_byte p = 16 * nibble_of (get_or p 0 0) + nibble_of (get_or p 1 0)

pub paired_chunks : (k : ℕ) (bs : List ℕ) → 2 * k ≤ length bs → length bs < 2 * k + 2 → paired bs ≡ map pair_byte (first_chunks 2 k bs)
paired_chunks zero [] low high = refl
paired_chunks zero (a ∷ []) low high = refl
paired_chunks zero (a ∷ b ∷ bs) low high = absurd (omega arith)
paired_chunks (suc k) [] low high = absurd (omega arith)
paired_chunks (suc k) (a ∷ []) low high = absurd (omega arith)
paired_chunks (suc k) (a ∷ b ∷ bs) low high = ap (λ ds. (16 * nibble_of a + nibble_of b) ∷ ds) (paired_chunks k bs (omega arith) (omega arith))

-- both digits of a pair are hexadecimal where all are
pub chunk_hex : (k i : ℕ) (bs : List ℕ) → i < k → 2 * k ≤ length bs → list_all is_hex bs ≡ true → (is_hex (get_or (get_or (first_chunks 2 k bs) i []) 0 0) ≡ true) × (is_hex (get_or (get_or (first_chunks 2 k bs) i []) 1 0) ≡ true)
chunk_hex zero i bs h low all = absurd (omega arith)
chunk_hex (suc k) i [] h low all = absurd (omega arith)
chunk_hex (suc k) i (a ∷ []) h low all = absurd (omega arith)
chunk_hex (suc k) zero (a ∷ b ∷ bs) h low all =
    let first = and_parts (is_hex a) (list_all is_hex (b ∷ bs)) all in
    (first.0, (and_parts (is_hex b) (list_all is_hex bs) first.1).0)
chunk_hex (suc k) (suc i) (a ∷ b ∷ bs) h low all =
    let first = and_parts (is_hex a) (list_all is_hex (b ∷ bs)) all in
    chunk_hex k i bs (omega arith) (omega arith) (and_parts (is_hex b) (list_all is_hex bs) first.1).1
