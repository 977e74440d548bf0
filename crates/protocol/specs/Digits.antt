-- Numbers as they are written.
use Rattle.std.specs.Prelude.{ℕ, cond, List, [], ◌∷◌, map, ◌==◌}
use Rattle.std.specs.Char.{digit_char}
use Rattle.std.specs.Int.Digits.{digits_of}

-- the digits with no leading zero, and one zero for 0
abbrev pub figures : ℕ → ℕ → List ℕ
figures base n = cond (n == 0) (48 ∷ []) (map digit_char (digits_of base n))

abbrev pub decimal : ℕ → List ℕ
decimal n = figures 10 n

-- after `0x`
abbrev pub hexadecimal : ℕ → List ℕ
hexadecimal n = 48 ∷ 120 ∷ figures 16 n
