-- What an instruction does: its access, the register it changes, and RSP and RIP after it. Sums wrap.
use Rattle.std.specs.Prelude.{ℕ, ◌+◌, ◌-◌, ◌%◌, ◌^◌, cond, Some, None, Option, nat_lt, slice_index}
use Rattle.layout.specs.declared.registers.Registers.{Registers}
use Rattle.x64.specs.declared.instruction.Instruction.{Instruction}
use Rattle.x64.specs.declared.instruction.Instruction.TheVariants.{Push, Pop, SubRsp, AddRsp, StoreAtRsp, LoadAtRsp, LeaAtRsp, StoreAtFrame, LoadAtFrame, LeaRspAtFrame, Set, Nop, Call, Ret}
use Rattle.cpu.specs.declared.intent.Access.{Access}
use Rattle.cpu.specs.declared.intent.Access.TheVariants as access
use Rattle.cpu.specs.declared.intent.Intent.{Intent}

-- 32 signed bits as 64
abbrev pub signed : ℕ → ℕ
signed d = cond (nat_lt d (2 ^ 31)) d (d + (2 ^ 64 - 2 ^ 32))

abbrev pub moved : ℕ → ℕ → ℕ
moved from d = (from + signed d) % 2 ^ 64

abbrev pub moved_back : ℕ → ℕ → ℕ
moved_back from d = (from + (2 ^ 64 - signed d)) % 2 ^ 64

abbrev pub register_value : Registers → ℕ → ℕ
register_value regs r = slice_index regs.integer r

abbrev pub below : ℕ → ℕ
below rsp = (rsp + (2 ^ 64 - 8)) % 2 ^ 64

abbrev pub above : ℕ → ℕ
above rsp = (rsp + 8) % 2 ^ 64

-- the address of the word accessed
abbrev pub place : Access → ℕ
place (access.Store at v) = at
place (access.Load at r) = at
place (access.Return at) = at

-- no register but RSP and what is loaded
abbrev pub simply : Option Access → ℕ → ℕ → Intent
simply a rsp rip = record { access = a; change = None; rsp = rsp; rip = rip }

abbrev pub setting : ℕ → ℕ → ℕ → ℕ → Intent
setting r v rsp rip = record { access = None; change = Some (record { register = r; value = v }); rsp = rsp; rip = rip }

abbrev pub does : Instruction → Registers → ℕ → ℕ → Intent
does (Push r) regs rsp next = simply (Some (access.Store (below rsp) (register_value regs r))) (below rsp) next
does (Pop r) regs rsp next = simply (Some (access.Load rsp r)) (above rsp) next
does (SubRsp d) regs rsp next = simply None (moved_back rsp d) next
does (AddRsp d) regs rsp next = simply None (moved rsp d) next
does (StoreAtRsp r d) regs rsp next = simply (Some (access.Store (moved rsp d) (register_value regs r))) rsp next
does (LoadAtRsp r d) regs rsp next = simply (Some (access.Load (moved rsp d) r)) rsp next
does (LeaAtRsp r d) regs rsp next = setting r (moved rsp d) rsp next
does (StoreAtFrame r f d) regs rsp next = simply (Some (access.Store (moved (register_value regs f) d) (register_value regs r))) rsp next
does (LoadAtFrame r f d) regs rsp next = simply (Some (access.Load (moved (register_value regs f) d) r)) rsp next
does (LeaRspAtFrame f d) regs rsp next = simply None (moved (register_value regs f) d) next
does (Set r d) regs rsp next = setting r (signed d) rsp next
does Nop regs rsp next = simply None rsp next
does (Call d) regs rsp next = simply (Some (access.Store (below rsp) next)) (below rsp) (moved next d)
does Ret regs rsp next = simply (Some (access.Return rsp)) (above rsp) next

-- an instruction of so many bytes at RIP
abbrev pub intended : Instruction → ℕ → Registers → Intent
intended i n regs = does i regs (register_value regs 4) ((regs.rip.0 + n) % 2 ^ 64)
