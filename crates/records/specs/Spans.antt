-- Records with a first and a last position, in ascending order without overlap.
use Rattle.std.specs.Prelude.{ℕ, suc, Bool, true, cond, ◌&&◌, List, [], ◌∷◌, Some, None, Option, nat_le, nat_lt}

-- the record runs over the position
abbrev pub holds : {R : Type 0} → (R → ℕ) → (R → ℕ) → ℕ → R → Bool
holds first last at r = nat_le (first r) at && nat_le at (last r)

-- every record starts past the position
abbrev pub past : {R : Type 0} → (R → ℕ) → ℕ → List R → Bool
past first at [] = true
past first at (r ∷ rs) = nat_lt at (first r) && past first at rs

-- no record ends before it starts, and each starts past the end of those before it
abbrev pub ascending : {R : Type 0} → (R → ℕ) → (R → ℕ) → List R → Bool
ascending first last [] = true
ascending first last (r ∷ rs) = nat_le (first r) (last r) && (past first (last r) rs && ascending first last rs)

abbrev pub onward : Option ℕ → Option ℕ
onward None = None
onward (Some k) = Some (suc k)

-- the index of the first record that holds the position
abbrev pub found : {R : Type 0} → (R → ℕ) → (R → ℕ) → ℕ → List R → Option ℕ
found first last at [] = None
found first last at (r ∷ rs) = cond (holds first last at r) (Some 0) (onward (found first last at rs))
