-- The base that a function's saves are measured from.
use Rattle.std.specs.Prelude.{ℕ, Bool, true, false, cond, not, ◌&&◌, ◌||◌, List, Ok, Result, ◌==◌, nat_le, nat_lt}
use Rattle.std.specs.List.{list_any}
use Rattle.layout.specs.declared.registers.Registers.{Registers}
use Rattle.memory.specs.Refusals.{Fault}
use Rattle.cpu.specs.Effects.{register_value}
use Rattle.infos.specs.Infos.{InfoOf, TailOf, nothing, handler, chained}
use Rattle.infos.specs.declared.code.Code.{Code}
use Rattle.infos.specs.declared.code.Operation.{Operation}
use Rattle.infos.specs.declared.code.Operation.TheVariants.{Push, Allocate, SetFrame, Save, SaveXmm}
use Rattle.unwind.specs.Codes.{difference_at}
use Rattle.unwind.specs.Undoing.{rsp}

abbrev pub sets_frame : Operation → Bool
sets_frame SetFrame = true
sets_frame (Push r) = false
sets_frame (Allocate n) = false
sets_frame (Save r o) = false
sets_frame (SaveXmm r o) = false

-- a set-frame at an offset up to this one
abbrev pub set_by : ℕ → Code → Bool
set_by o c = sets_frame c.operation && nat_le c.offset o

abbrev pub frame_is_set : ℕ → List Code → Bool
frame_is_set o cs = list_any (set_by o) cs

abbrev pub is_chained : TailOf → Bool
is_chained nothing = false
is_chained (handler r d) = false
is_chained (chained e) = true

-- RSP, or the frame register less its offset where it is set already: past the prologue, in a chained part, or by a code
abbrev pub base : InfoOf → List Code → ℕ → Registers → Result ℕ Fault
base i cs o regs =
    cond (i.frame_register == 0 || (not (is_chained i.tail) && nat_lt o i.prologue && not (frame_is_set o cs)))
    (Ok (rsp regs))
    (difference_at (register_value regs i.frame_register) i.frame_offset)
