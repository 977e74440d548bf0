-- A processor as a value, and as a place that keeps its area.
use Rattle.std.specs.Prelude.{ℕ, List}
use Rattle.layout.specs.declared.registers.Registers.{Registers}
use Rattle.cpu.specs.declared.processor.Area.{Area}
use Rattle.cpu.specs.declared.processor.Processor.{Processor}

-- a register set, and a stack area from its first address on
pub record State : Type 0 where
  pub registers : Registers
  pub low : ℕ
  pub stack : List ℕ

abbrev pub state_of : Processor → State
state_of p = record { registers = p.registers; low = p.low; stack = p.stack.now }

-- the same processor over the same lent bytes, with another state
abbrev pub in_state : Processor → State → Processor
in_state p s = record { registers = s.registers; low = s.low; stack = record { ref_ptr = p.stack.ref_ptr; ghost_name = p.stack.ghost_name; now = s.stack } }

-- the same but for its registers
abbrev pub with_registers : Processor → Registers → Processor
with_registers p regs = record { registers = regs; low = p.low; stack = p.stack }

-- registers over an area that is only read
abbrev pub state : Registers → Area → State
state regs area = record { registers = regs; low = area.low; stack = area.bytes.now }
