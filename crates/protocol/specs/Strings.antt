-- Byte strings: two lower-case hexadecimal digits a byte.
use Rattle.std.specs.Prelude.{ℕ, ◌+◌, ◌-◌, ◌*◌, ◌/◌, ◌%◌, Bool, cond, ◌&&◌, List, [], ◌∷◌, length, Ok, Err, Result, ◌==◌, nat_le, nat_lt}
use Rattle.std.specs.Char.{digit_char}
use Rattle.std.specs.List.{list_all}
use Rattle.protocol.specs.Cuts.{dash}
use Rattle.protocol.specs.declared.bad.Bad.{Bad}
use Rattle.protocol.specs.declared.bad.Bad.TheVariants.{MissingPart, NotHex, OddDigits}

-- the value of a lower-case hexadecimal digit, 16 at any other byte
abbrev pub nibble_of : ℕ → ℕ
nibble_of b = cond (nat_le 48 b && nat_le b 57) (b - 48) (cond (nat_le 97 b && nat_le b 102) (b - 87) 16)

abbrev pub is_hex : ℕ → Bool
is_hex b = nat_lt (nibble_of b) 16

-- the bytes that pairs of digits write
abbrev pub paired : List ℕ → List ℕ
paired [] = []
paired (a ∷ []) = []
paired (a ∷ b ∷ bs) = (16 * nibble_of a + nibble_of b) ∷ paired bs

-- `-` for no byte, else pairs of digits
abbrev pub byte_string : List ℕ → Result (List ℕ) Bad
byte_string bs = cond (dash bs) (Ok []) (cond (length bs == 0) (Err MissingPart) (cond (list_all is_hex bs) (cond (length bs % 2 == 0) (Ok (paired bs)) (Err OddDigits)) (Err NotHex)))

-- the digits of bytes, the higher half first
abbrev pub pairs : List ℕ → List ℕ
pairs [] = []
pairs (b ∷ bs) = digit_char (b / 16) ∷ digit_char (b % 16) ∷ pairs bs

abbrev pub string_of : List ℕ → List ℕ
string_of bs = cond (length bs == 0) (45 ∷ []) (pairs bs)
