-- The rules for one step, by the steps before it, and for one operation.
use Rattle.std.specs.Prelude.{ℕ, ◌+◌, ◌*◌, ◌%◌, Bool, true, false, cond, not, ◌&&◌, ◌||◌, List, Ok, Err, Result, ◌==◌, nat_le, nat_lt}
use Rattle.std.specs.List.{list_any}
use Rattle.layout.specs.Registers.{preserved, volatile}
use Rattle.plan.specs.Operations.{pattern}
use Rattle.plan.specs.Steps.{step_of, keeps, pushes, frames, sets_frame, saves_at, other_than_push, pushed, block}
use Rattle.plan.specs.declared.step.Step.{Step}
use Rattle.plan.specs.declared.step.Step.TheVariants.{Push, Allocate, SetFrame, Save}
use Rattle.plan.specs.declared.text.OperationRecord.{OperationRecord}
use Rattle.plan.specs.declared.text.StepRecord.{StepRecord}

-- a kind from 0 to 3, a pushed or saved register that calls preserve, and 0 in a field not in use
abbrev pub known : StepRecord → Bool
known r =
    cond (r.kind == 0) (preserved r.register && r.number == 0)
    (cond (r.kind == 1) (r.register == 0)
    (cond (r.kind == 2) true
    (r.kind == 3 && preserved r.register)))

-- the register is pushed or saved before
abbrev pub repeated : List Step → Step → Bool
repeated before (Push k) = list_any (keeps k.register) before
repeated before (Allocate k) = false
repeated before (SetFrame k) = false
repeated before (Save k) = list_any (keeps k.register) before

-- pushes, at most one allocate, and then at most one set-frame, of a pushed register other than 12, and saves
abbrev pub in_order : List Step → Step → Bool
in_order before (Push k) = not (list_any other_than_push before)
in_order before (Allocate k) = not (list_any other_than_push before)
in_order before (SetFrame k) = not (list_any sets_frame before) && (not (k.register == 12) && list_any (pushes k.register) before)
in_order before (Save k) = true

-- a slot of its own inside the block, from 32 up in a function that calls
abbrev pub slot_fits : Bool → List Step → ℕ → Bool
slot_fits calls before o = o % 8 == 0 && (nat_le (o + 8) (block before) && (not (list_any (saves_at o) before) && (not calls || nat_le 32 o)))

-- a size from 8 to 2,097,152 by 8; an offset from 0 to 240 by 16; a slot
abbrev pub number_fits : Bool → List Step → Step → Bool
number_fits calls before (Push k) = true
number_fits calls before (Allocate k) = nat_le 8 k.size && (nat_le k.size 2097152 && k.size % 8 == 0)
number_fits calls before (SetFrame k) = nat_le k.offset 240 && k.offset % 16 == 0
number_fits calls before (Save k) = slot_fits calls before k.offset

-- 13, 14, 15 in this order
abbrev pub shape_verdict : Bool → List Step → Step → Result (Unit {0}) ℕ
shape_verdict calls before s =
    cond (repeated before s) (Err 13)
    (cond (in_order before s)
    (cond (number_fits calls before s) (Ok tt) (Err 15))
    (Err 14))

-- 12 and then the others
abbrev pub step_verdict : Bool → List Step → StepRecord → Result (Unit {0}) ℕ
step_verdict calls before r = cond (known r) (shape_verdict calls before (step_of r)) (Err 12)

-- in a function that calls, RSP is a multiple of 16 below the block, which has room for the callee's home words
abbrev pub aligned : Bool → List Step → Bool
aligned calls ss = not calls || ((8 * pushed ss + block ss) % 16 == 8 && nat_le 32 (block ss))

-- a register that an operation may set: volatile, pushed or saved, but not the frame register
abbrev pub settable : List Step → ℕ → Bool
settable ss r = (volatile r || list_any (keeps r) ss) && not (list_any (frames r) ss)

-- in a module of n functions
abbrev pub operation_good : ℕ → List Step → OperationRecord → Bool
operation_good n ss r =
    cond (r.kind == 0) (r.first == 0 && pattern r.number == 0)
    (cond (r.kind == 1) (settable ss r.first)
    (cond (r.kind == 2) (r.first == 0 && (nat_le 16 (pattern r.number) && (nat_le (pattern r.number) 65520 && (pattern r.number % 16 == 0 && list_any sets_frame ss))))
    (r.kind == 3 && (nat_lt r.first n && pattern r.number == 0))))
