-- What carrying an intent out leaves in the registers and in the stack area, whose first address is low.
use Rattle.std.specs.Prelude.{ℕ, ◌+◌, ◌-◌, Bool, true, ◌&&◌, cond, List, length, Some, None, Option, nat_le, slice_set}
use Rattle.layout.specs.Words.{le_at, with_word}
use Rattle.layout.specs.declared.registers.Registers.{Registers}
use Rattle.cpu.specs.declared.intent.Access.{Access}
use Rattle.cpu.specs.declared.intent.Access.TheVariants as access
use Rattle.cpu.specs.declared.intent.Change.{Change}
use Rattle.cpu.specs.declared.intent.Intent.{Intent}
use Rattle.cpu.specs.declared.processor.Area.{Area}
use Rattle.cpu.specs.declared.processor.OutsideStack.{OutsideStack}
use Rattle.cpu.specs.Effects.{place}
use Rattle.cpu.specs.Processors.{State}

abbrev pub stack_number : OutsideStack → ℕ
stack_number e = 62

-- RSP may stand from the first address of the area up to its end
abbrev pub settles : ℕ → ℕ → ℕ → Bool
settles low size rsp = nat_le low rsp && nat_le rsp (low + size)

-- the eight bytes lie in the area
abbrev pub holds_word : ℕ → ℕ → ℕ → Bool
holds_word low size at = nat_le low at && nat_le (at + 8) (low + size)

abbrev pub accessible : Option Access → ℕ → ℕ → Bool
accessible None low size = true
accessible (Some a) low size = holds_word low size (place a)

abbrev pub permitted : Intent → ℕ → ℕ → Bool
permitted it low size = accessible it.access low size && settles low size it.rsp

-- the eight bytes lie in an area that is only read
abbrev pub in_area : Area → ℕ → Bool
in_area area at = holds_word area.low (length area.bytes.now) at

-- the word at an address of such an area, if it lies there
abbrev pub word_in : Area → ℕ → Option ℕ
word_in area at = cond (in_area area at) (Some (le_at 8 area.bytes.now (at - area.low))) None

-- the area of a state has the word accessed
abbrev pub accessible_in : Option Access → State → Bool
accessible_in a s = accessible a s.low (length s.stack)

-- a state in which an intent is not refused
abbrev pub permitted_in : Intent → State → Bool
permitted_in it s = permitted it s.low (length s.stack)

abbrev pub with_register : Registers → ℕ → ℕ → Registers
with_register regs r v = record { rip = regs.rip; integer = slice_set regs.integer r v; xmm = regs.xmm }

abbrev pub with_rip : Registers → ℕ → Registers
with_rip regs at = record { rip = record { 0 = at }; integer = regs.integer; xmm = regs.xmm }

abbrev pub changed : Option Change → Registers → Registers
changed None regs = regs
changed (Some c) regs = with_register regs c.register c.value

abbrev pub loaded : Option Access → ℕ → List ℕ → Registers → Registers
loaded None low stack regs = regs
loaded (Some (access.Store at v)) low stack regs = regs
loaded (Some (access.Load at r)) low stack regs = with_register regs r (le_at 8 stack (at - low))
loaded (Some (access.Return at)) low stack regs = with_rip regs (le_at 8 stack (at - low))

abbrev pub loading : Intent → ℕ → List ℕ → Registers → Registers
loading it low stack regs = loaded it.access low stack (with_rip regs it.rip)

abbrev pub registers_after : Intent → ℕ → Registers → List ℕ → Registers
registers_after it low regs stack = with_register (loading it low stack (changed it.change regs)) 4 it.rsp

abbrev pub stored : Option Access → ℕ → List ℕ → List ℕ
stored None low stack = stack
stored (Some (access.Store at v)) low stack = with_word 8 stack (at - low) v
stored (Some (access.Load at r)) low stack = stack
stored (Some (access.Return at)) low stack = stack

abbrev pub stack_after : Intent → ℕ → List ℕ → List ℕ
stack_after it low stack = stored it.access low stack

-- the state after an intent that is not refused
abbrev pub performed : Intent → State → State
performed it s = record { registers = registers_after it s.low s.registers s.stack; low = s.low; stack = stack_after it s.low s.stack }
