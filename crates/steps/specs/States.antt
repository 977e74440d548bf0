-- Registers and a stack area, and what it means that a later state gives an earlier one back.
use Rattle.std.specs.Prelude.{◌≡◌, ℕ, ◌-◌, ◌^◌, ◌<◌, Bool, true, false, length, drop}
use Rattle.layout.specs.Registers.{preserved}
use Rattle.layout.specs.Words.{le_at}
use Rattle.x64.specs.Encodings.{encode}
use Rattle.x64.specs.declared.instruction.Instruction.{Instruction}
use Rattle.cpu.specs.Effects.{register_value, intended}
use Rattle.cpu.specs.Performance.{permitted_in, performed}
use Rattle.cpu.specs.Processors.{State}

abbrev pub value : State → ℕ → ℕ
value s r = register_value s.registers r

abbrev pub rsp : State → ℕ
rsp s = value s 4

-- the word at an address of the area
abbrev pub word : State → ℕ → ℕ
word s at = le_at 8 s.stack (at - s.low)

-- the state after an instruction that is not refused
abbrev pub after : Instruction → State → State
after i s = performed (intended i (length (encode i)) s.registers) s

abbrev pub allowed : Instruction → State → Bool
allowed i s = permitted_in (intended i (length (encode i)) s.registers) s

-- sixteen registers of 64 bits
abbrev pub Sixteen : State → Type 0
Sixteen s = (length s.registers.integer ≡ 16) × ((r : ℕ) → value s r < 2 ^ 64)

-- t has the RSP and the preserved registers of s, but for those in a set
abbrev pub GivesBack : (ℕ → Bool) → State → State → Type 0
GivesBack but s t = (rsp t ≡ rsp s) × ((r : ℕ) → preserved r ≡ true → but r ≡ false → value t r ≡ value s r)

-- t comes after e: the same RSP, area and bytes from there up, and preserved registers but for those in a set
abbrev pub Later : (ℕ → Bool) → State → State → Type 0
Later but e t =
    (length t.registers.integer ≡ 16) × (t.low ≡ e.low) × (rsp t ≡ rsp e) × (drop (rsp e - e.low) t.stack ≡ drop (rsp e - e.low) e.stack)
    × ((r : ℕ) → preserved r ≡ true → but r ≡ false → value t r ≡ value e r)
