-- Encoding and decoding fit together.
use Rattle.std.specs.Prelude.{◌≡◌, ℕ, Bool, true, false, List, ◌++◌, length, Some}
use Rattle.x64.specs.Decodings.{decoded}
use Rattle.x64.specs.Encodings.{short, encode_as, displacement_of, well_formed}
use Rattle.x64.specs.declared.instruction.Instruction.{Instruction}

-- a form that an instruction has: its displacement in one byte only where it is short
abbrev pub Form : Bool → Instruction → Type 0
Form wide i = wide ≡ false → short (displacement_of i) ≡ true

-- decoding what was encoded gives the instruction and its length, whatever bytes follow
abbrev pub DecodesBack : Type 0
DecodesBack = (i : Instruction) (wide : Bool) (rest : List ℕ) → well_formed i ≡ true → Form wide i → decoded (encode_as wide i ++ rest) ≡ Some (i, length (encode_as wide i))

-- two instructions never have the same bytes in one form
abbrev pub EncodesApart : Type 0
EncodesApart = (i j : Instruction) (wide : Bool) → well_formed i ≡ true → well_formed j ≡ true → Form wide i → Form wide j → encode_as wide i ≡ encode_as wide j → i ≡ j
