-- A text cut at separators: the next part, and what is left after it.
use Rattle.std.specs.Prelude.{◌≡◌, ℕ, ◌+◌, Bool, cond, not, ◌&&◌, List, length, take, drop, Some, None, Option, ◌==◌, nat_lt, slice_index}
use Rattle.std.specs.List.{prefix_len}

-- the bytes before the first separator, or all of them
abbrev pub before : ℕ → List ℕ → ℕ
before s bs = prefix_len (λ b. not (b == s)) bs

-- the part at the front
abbrev pub front : ℕ → List ℕ → List ℕ
front s bs = take (before s bs) bs

-- what follows the first separator, if there is one
abbrev pub after : ℕ → List ℕ → Option (List ℕ)
after s bs = cond (nat_lt (before s bs) (length bs)) (Some (drop (before s bs + 1) bs)) None

-- what is still to be cut, if a part is left, and at which separator
pub record Uncut : Type 0 where
  pub rest : Option (List ℕ)
  pub separator : ℕ

-- from what was left to what is left, a part was handed out if there was one
abbrev pub Handed : ℕ → Option (List ℕ) → Option (List ℕ) → Option (List ℕ) → Type 0
Handed s None part left = (part ≡ None) × (left ≡ None)
Handed s (Some bs) part left = (part ≡ Some (front s bs)) × (left ≡ after s bs)

-- at most how many parts are left
abbrev pub still : Option (List ℕ) → ℕ
still None = 0
still (Some bs) = length bs + 1

-- the text is `-`
abbrev pub dash : List ℕ → Bool
dash bs = length bs == 1 && slice_index bs 0 == 45
