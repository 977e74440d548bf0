-- The code of a compiled function.
use Rattle.std.specs.Prelude.{ℕ, ◌+◌, ◌-◌, ◌%◌, ◌^◌, cond, List, [], ◌∷◌, ◌++◌, map, length, Some, None, Option, ◌==◌, slice_index}
use Rattle.x64.specs.Encodings.{encode}
use Rattle.x64.specs.declared.instruction.Instruction.{Instruction}
use Rattle.x64.specs.declared.instruction.Instruction.TheVariants.{Pop, SubRsp, AddRsp, LoadAtRsp, LoadAtFrame, LeaRspAtFrame, Set as SetRegister, Nop as DoNothing, Call as CallBy, Ret}
use Rattle.steps.specs.declared.save.SaveStep.{SaveStep}
use Rattle.steps.specs.declared.set_frame.SetFrameStep.{SetFrameStep}
use Rattle.plan.specs.Functions.{Function}
use Rattle.plan.specs.Operations.{operation_of}
use Rattle.plan.specs.Steps.{step_of, step_instruction, block, frame}
use Rattle.plan.specs.declared.operation.Operation.{Operation}
use Rattle.plan.specs.declared.operation.Operation.TheVariants.{Nop, Set, Reserve, Call}
use Rattle.plan.specs.declared.step.Step.{Step}
use Rattle.plan.specs.declared.step.Step.TheVariants.{Push, Allocate, SetFrame, Save}

-- the bytes of instructions, one after another
unfoldable pub bytes : List Instruction → List ℕ
bytes [] = []
bytes (i ∷ is) = encode i ++ bytes is

-- a difference as 32 signed bits
abbrev pub less : ℕ → ℕ → ℕ
less a b = (2 ^ 32 + a - b) % 2 ^ 32

-- what each step gives, first to last and last to first
unfoldable pub forward : (Step → List Instruction) → List Step → List Instruction
forward g [] = []
forward g (s ∷ ss) = g s ++ forward g ss

unfoldable pub backward : (Step → List Instruction) → List Step → List Instruction
backward g [] = []
backward g (s ∷ ss) = backward g ss ++ g s

abbrev pub entering : Step → List Instruction
entering s = step_instruction s ∷ []

-- the prologue
abbrev pub enter : List Step → List Instruction
enter ss = forward entering ss

-- an operation at an RVA, in a module whose functions start at these
abbrev pub operation_instruction : List ℕ → ℕ → Operation → Instruction
operation_instruction starts at Nop = DoNothing
operation_instruction starts at (Set r v) = SetRegister r v
operation_instruction starts at (Reserve n) = SubRsp n
operation_instruction starts at (Call f) = CallBy (less (slice_index starts f) (at + 5))

-- the body from an RVA on
unfoldable pub work : List ℕ → ℕ → List Operation → List Instruction
work starts at [] = []
work starts at (o ∷ os) =
    let i = operation_instruction starts at o in
    i ∷ work starts (at + length (encode i)) os

-- a save is loaded from its slot, by the frame register where there is one
abbrev pub load_of : Option SetFrameStep → SaveStep → Instruction
load_of None k = LoadAtRsp k.register k.offset
load_of (Some f) k = LoadAtFrame k.register f.register (less k.offset f.offset)

abbrev pub loading : Option SetFrameStep → Step → List Instruction
loading f (Push k) = []
loading f (Allocate k) = []
loading f (SetFrame k) = []
loading f (Save k) = load_of f k ∷ []

-- RSP goes to the block's end
abbrev pub leave_by : Option SetFrameStep → ℕ → List Instruction
leave_by None size = cond (size == 0) [] (AddRsp size ∷ [])
leave_by (Some f) size = LeaRspAtFrame f.register (less size f.offset) ∷ []

abbrev pub popping : Step → List Instruction
popping (Push k) = Pop k.register ∷ []
popping (Allocate k) = []
popping (SetFrame k) = []
popping (Save k) = []

-- loads of the saves, and the epilogue
abbrev pub leave : List Step → List Instruction
leave ss = backward (loading (frame ss)) ss ++ (leave_by (frame ss) (block ss) ++ (backward popping ss ++ Ret ∷ []))

-- a function at an RVA
abbrev pub instructions : List ℕ → ℕ → List Step → List Operation → List Instruction
instructions starts at ss os = enter ss ++ (work starts (at + length (bytes (enter ss))) os ++ leave ss)

abbrev pub steps_of : Function → List Step
steps_of f = map step_of f.steps

abbrev pub function_bytes : List ℕ → ℕ → Function → List ℕ
function_bytes starts at f = bytes (instructions starts at (steps_of f) (map operation_of f.operations))

-- the same at any RVA: a call has 5 bytes wherever it goes
abbrev pub function_size : Function → ℕ
function_size f = length (function_bytes [] 0 f)
