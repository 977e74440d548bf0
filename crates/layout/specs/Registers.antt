-- Which registers a call keeps, by number.
use Rattle.std.specs.Prelude.{ℕ, Bool, false, ◌&&◌, ◌||◌, List, [], ◌∷◌, ◌==◌, nat_le}

-- the number is in the list
abbrev pub among : List ℕ → ℕ → Bool
among [] r = false
among (x ∷ xs) r = r == x || among xs r

-- RBX, RBP, RSI, RDI, R12 to R15
abbrev pub preserved : ℕ → Bool
preserved r = among (3 ∷ 5 ∷ 6 ∷ 7 ∷ 12 ∷ 13 ∷ 14 ∷ 15 ∷ []) r

-- RAX, RCX, RDX, R8 to R11
abbrev pub volatile : ℕ → Bool
volatile r = among (0 ∷ 1 ∷ 2 ∷ 8 ∷ 9 ∷ 10 ∷ 11 ∷ []) r

-- XMM 6 to 15
abbrev pub xmm_preserved : ℕ → Bool
xmm_preserved r = nat_le 6 r && nat_le r 15
