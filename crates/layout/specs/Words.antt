-- Little-endian numbers of any width in a list of bytes.
use Rattle.std.specs.Prelude.{ℕ, zero, suc, ◌+◌, ◌*◌, ◌/◌, ◌%◌, cond, List, [], ◌∷◌, ◌++◌, length, take, drop, Some, None, Option, nat_le}

-- the number that bytes spell, the lowest first
unfoldable pub le_value : List ℕ → ℕ
le_value [] = 0
le_value (b ∷ bs) = b + 256 * le_value bs

-- the n bytes that spell a number
unfoldable pub le_bytes : ℕ → ℕ → List ℕ
le_bytes zero v = []
le_bytes (suc n) v = (v % 256) ∷ le_bytes n (v / 256)

-- the number of n bytes at a place
abbrev pub le_at : ℕ → List ℕ → ℕ → ℕ
le_at n bs at = le_value (take n (drop at bs))

-- the same, if they lie in the list
abbrev pub word_at : ℕ → List ℕ → ℕ → Option ℕ
word_at n bs at = cond (nat_le (at + n) (length bs)) (Some (le_at n bs at)) None

-- the list with some bytes over those from a place on; the rest is as it was
abbrev pub overwritten : List ℕ → ℕ → List ℕ → List ℕ
overwritten bs at new = take at bs ++ (new ++ drop (at + length new) bs)

-- the list with a number of n bytes at a place, if they lie in it
abbrev pub with_word : ℕ → List ℕ → ℕ → ℕ → List ℕ
with_word n bs at v = cond (nat_le (at + n) (length bs)) (overwritten bs at (le_bytes n v)) bs
