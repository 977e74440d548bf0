-- The reading rule: what a read answers, from what the memory shows.
use Rattle.std.specs.Prelude.{ℕ, Ok, Err, Result}
use Rattle.layout.specs.declared.address.Address.{Address}
use Rattle.memory.specs.Byte.{Byte, shown, lacking}
use Rattle.memory.specs.declared.reading.Lacking.{Lacking}

abbrev pub answer : Byte → Address → Result ℕ Lacking
answer (shown b) at = Ok b
answer lacking at = Err (record { at = at })

abbrev pub read_number : Lacking → ℕ
read_number e = 30
