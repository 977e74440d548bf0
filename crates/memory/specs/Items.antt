-- Items of a memory: n bytes upward from a start.
use Rattle.std.specs.Prelude.{ℕ, zero, suc, ◌+◌, ◌^◌, cond, List, [], ◌∷◌, ◌++◌, Ok, Err, Result, nat_lt}
use Rattle.std.specs.Result.{result_map_both}
use Rattle.layout.specs.Words.{le_value}
use Rattle.memory.specs.Byte.{Byte, shown, lacking}
use Rattle.memory.specs.Refusals.{Fault}

abbrev pub seen : Byte → ℕ → Result ℕ Fault
seen (shown b) at = Ok b
seen lacking at = Err (record { number = 30; place = at })

-- byte i of the item: its address is a sum first, and then a read
abbrev pub item_byte : (ℕ → Byte) → ℕ → ℕ → Result ℕ Fault
item_byte shows start i = cond (nat_lt (start + i) (2 ^ 64)) (seen (shows (start + i)) (start + i)) (Err (record { number = 50; place = start }))

abbrev pub followed : Result (List ℕ) Fault → Result ℕ Fault → Result (List ℕ) Fault
followed (Err e) r = Err e
followed (Ok bs) (Err e) = Err e
followed (Ok bs) (Ok b) = Ok (bs ++ b ∷ [])

-- the first n bytes, or what stops the reading first
abbrev pub item_bytes : (ℕ → Byte) → ℕ → ℕ → Result (List ℕ) Fault
item_bytes shows start zero = Ok []
item_bytes shows start (suc n) = followed (item_bytes shows start n) (item_byte shows start n)

-- the number that n bytes spell
abbrev pub item : ℕ → (ℕ → Byte) → ℕ → Result ℕ Fault
item n shows start = result_map_both le_value (λ e. e) (item_bytes shows start n)
