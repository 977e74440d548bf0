-- Numbers as they are read.
use Rattle.std.specs.Prelude.{Option, ℕ, ◌+◌, ◌*◌, ◌^◌, Bool, cond, ◌&&◌, List, length, drop, ℤ, pos, neg_ℤ, Some, None, Ok, Err, Result, ◌==◌, nat_lt, slice_index}
use Rattle.std.specs.Str.Parse.{digits_value}
use Rattle.std.specs.Char.{digit_value}
use Rattle.std.specs.List.{list_all}
use Rattle.protocol.specs.declared.bad.Bad.{Bad}
use Rattle.protocol.specs.declared.bad.Bad.TheVariants.{NotANumber, TooLarge}

abbrev pub is_digit : ℕ → ℕ → Bool
is_digit radix b = nat_lt (digit_value b) radix

-- a number, where 128 bits hold it
abbrev pub held : ℕ → Option ℕ
held n = cond (nat_lt n (2 ^ 128)) (Some n) None

-- a number with one digit more behind it
abbrev pub longer : ℕ → ℕ → Option ℕ → Option ℕ
longer radix digit None = None
longer radix digit (Some n) = held (n * radix + digit)

-- one digit or more and nothing else, of a value below a limit
abbrev pub numeral_of : ℕ → ℕ → List ℕ → Result ℕ Bad
numeral_of limit radix bs = cond (nat_lt 0 (length bs) && list_all (is_digit radix) bs) (cond (nat_lt (digits_value radix bs) limit) (Ok (digits_value radix bs)) (Err TooLarge)) (Err NotANumber)

-- begins with `0x`
abbrev pub prefixed : List ℕ → Bool
prefixed bs = slice_index bs 0 == 48 && slice_index bs 1 == 120

-- hexadecimal after `0x`, else decimal
abbrev pub number_of : ℕ → List ℕ → Result ℕ Bad
number_of limit bs = cond (prefixed bs) (numeral_of limit 16 (drop 2 bs)) (numeral_of limit 10 bs)

-- a number as an integer
abbrev pub integer : (ℕ → ℤ) → Result ℕ Bad → Result ℤ Bad
integer f (Ok n) = Ok (f n)
integer f (Err e) = Err e

-- an integer of 32 bits, negative after `-`
abbrev pub signed_of : List ℕ → Result ℤ Bad
signed_of bs = cond (slice_index bs 0 == 45) (integer (λ n. neg_ℤ (pos n)) (number_of (2 ^ 31 + 1) (drop 1 bs))) (integer pos (number_of (2 ^ 31) bs))
