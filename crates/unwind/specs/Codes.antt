-- What undoing a code does.
use Rattle.std.specs.Prelude.{ℕ, ◌-◌, cond, List, [], ◌∷◌, Ok, Err, Result, nat_le, slice_set}
use Rattle.std.specs.Result.{result_map_both}
use Rattle.layout.specs.declared.registers.Registers.{Registers}
use Rattle.memory.specs.Byte.{Byte}
use Rattle.memory.specs.Items.{item}
use Rattle.memory.specs.Refusals.{Fault, item_fault}
use Rattle.cpu.specs.Effects.{register_value}
use Rattle.cpu.specs.Performance.{with_register}
use Rattle.infos.specs.declared.code.Code.{Code}
use Rattle.infos.specs.declared.code.Operation.{Operation}
use Rattle.infos.specs.declared.code.Operation.TheVariants.{Push, Allocate, SetFrame, Save, SaveXmm}
use Rattle.infos.specs.Codes.{bind}
use Rattle.unwind.specs.declared.code.Saves.{Saves}
use Rattle.unwind.specs.declared.code.CodeFault.{CodeFault}
use Rattle.unwind.specs.Undoing.{sum_at, rsp, popped}

-- a difference that has to be an address; its place is its first value
abbrev pub difference_at : ℕ → ℕ → Result ℕ Fault
difference_at a n = cond (nat_le n a) (Ok (a - n)) (Err (record { number = 50; place = a }))

abbrev pub with_xmm : Registers → ℕ → ℕ → Registers
with_xmm regs r v = record { rip = regs.rip; integer = regs.integer; xmm = slice_set regs.xmm r v }

-- the item of n bytes above the base of saves
abbrev pub saved : ℕ → (ℕ → Byte) → ℕ → ℕ → Result ℕ Fault
saved n shows base o = bind (sum_at base o) (λ a. item n shows a)

-- an operation undone
abbrev pub code_undone : (ℕ → Byte) → Saves → Operation → Registers → Result Registers Fault
code_undone shows v (Push r) regs = popped shows r regs
code_undone shows v (Allocate n) regs = bind (sum_at (rsp regs) n) (λ t. Ok (with_register regs 4 t))
code_undone shows v SetFrame regs = bind (difference_at (register_value regs v.frame) v.offset) (λ t. Ok (with_register regs 4 t))
code_undone shows v (Save r at) regs = bind (saved 8 shows v.base at) (λ w. Ok (with_register regs r w))
code_undone shows v (SaveXmm r at) regs = bind (saved 16 shows v.base at) (λ w. Ok (with_xmm regs r w))

-- what is wrong, and the first slot of the code at work
pub record SlotFault : Type 0 where
  pub fault : Fault
  pub slot : ℕ

abbrev pub in_slot : {X : Type 0} → ℕ → Result X Fault → Result X SlotFault
in_slot slot r = result_map_both (λ x. x) (λ e. record { fault = e; slot = slot }) r

abbrev pub code_fault : CodeFault → SlotFault
code_fault e = record { fault = item_fault e.fault; slot = e.slot }

-- the codes undone in order whose prologue offset is at most the limit
unfoldable pub codes_undone : (ℕ → Byte) → Saves → ℕ → List Code → Registers → Result Registers SlotFault
codes_undone shows v limit [] regs = Ok regs
codes_undone shows v limit (c ∷ cs) regs =
    cond (nat_le c.offset limit)
    (bind (in_slot c.slot (code_undone shows v c.operation regs)) (λ t. codes_undone shows v limit cs t))
    (codes_undone shows v limit cs regs)
