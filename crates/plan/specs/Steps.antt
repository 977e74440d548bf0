-- The steps of a prologue, and what they lay out together.
use Rattle.std.specs.Prelude.{◌≡◌, ℕ, ◌+◌, ◌%◌, ◌<◌, ◌≤◌, Bool, true, false, cond, List, [], ◌∷◌, Some, None, Option, ◌==◌, min}
use Rattle.layout.specs.Registers.{preserved}
use Rattle.x64.specs.declared.instruction.Instruction.{Instruction}
use Rattle.x64.specs.declared.instruction.Instruction.TheVariants.{Push as PushRegister, SubRsp, StoreAtRsp, LeaAtRsp}
use Rattle.steps.specs.Kinds.{push_code, allocate_code, frame_code, save_code}
use Rattle.steps.specs.declared.set_frame.SetFrameStep.{SetFrameStep}
use Rattle.plan.specs.declared.step.Step.{Step}
use Rattle.plan.specs.declared.step.Step.TheVariants.{Push, Allocate, SetFrame, Save}
use Rattle.plan.specs.declared.text.StepRecord.{StepRecord}

-- a step's record
abbrev pub step : ℕ → ℕ → ℕ → StepRecord
step kind register number = record { kind = kind; register = register; number = number }

-- what a record means; a frame offset above 255, which no check accepts, counts as 255
abbrev pub step_of : StepRecord → Step
step_of r =
    cond (r.kind == 0) (Push (record { register = r.register }))
    (cond (r.kind == 1) (Allocate (record { size = r.number }))
    (cond (r.kind == 2) (SetFrame (record { register = r.register; offset = min r.number 255 }))
    (Save (record { register = r.register; offset = r.number }))))

abbrev pub step_instruction : Step → Instruction
step_instruction (Push k) = PushRegister k.register
step_instruction (Allocate k) = SubRsp k.size
step_instruction (SetFrame k) = LeaAtRsp k.register k.offset
step_instruction (Save k) = StoreAtRsp k.register k.offset

-- the unwind code of a step whose instruction ends at a prologue offset
abbrev pub step_code : ℕ → Step → List ℕ
step_code end (Push k) = push_code k.register end
step_code end (Allocate k) = allocate_code k.size end
step_code end (SetFrame k) = frame_code end
step_code end (Save k) = save_code k.register k.offset end

-- a step that there can be
abbrev pub Sound : Step → Type 0
Sound (Push k) = (preserved k.register ≡ true) × (k.register < 16)
Sound (Allocate k) = (8 ≤ k.size) × (k.size ≤ 2097152) × (k.size % 8 ≡ 0)
Sound (SetFrame k) = (preserved k.register ≡ true) × (k.register < 16) × (k.offset ≤ 240)
Sound (Save k) = (preserved k.register ≡ true) × (k.register < 16) × (k.offset ≤ 2097152) × (k.offset % 8 ≡ 0)

abbrev pub AllSound : List Step → Type 0
AllSound [] = Unit
AllSound (s ∷ ss) = Sound s × AllSound ss

-- keeps the register: pushes or saves it
abbrev pub keeps : ℕ → Step → Bool
keeps r (Push k) = k.register == r
keeps r (Allocate k) = false
keeps r (SetFrame k) = false
keeps r (Save k) = k.register == r

abbrev pub pushes : ℕ → Step → Bool
pushes r (Push k) = k.register == r
pushes r (Allocate k) = false
pushes r (SetFrame k) = false
pushes r (Save k) = false

-- makes the register the frame register
abbrev pub frames : ℕ → Step → Bool
frames r (Push k) = false
frames r (Allocate k) = false
frames r (SetFrame k) = k.register == r
frames r (Save k) = false

abbrev pub sets_frame : Step → Bool
sets_frame (Push k) = false
sets_frame (Allocate k) = false
sets_frame (SetFrame k) = true
sets_frame (Save k) = false

abbrev pub saves_at : ℕ → Step → Bool
saves_at o (Push k) = false
saves_at o (Allocate k) = false
saves_at o (SetFrame k) = false
saves_at o (Save k) = k.offset == o

abbrev pub other_than_push : Step → Bool
other_than_push (Push k) = false
other_than_push (Allocate k) = true
other_than_push (SetFrame k) = true
other_than_push (Save k) = true

-- how many registers are pushed
unfoldable pub pushed : List Step → ℕ
pushed [] = 0
pushed (Push k ∷ ss) = 1 + pushed ss
pushed (Allocate k ∷ ss) = pushed ss
pushed (SetFrame k ∷ ss) = pushed ss
pushed (Save k ∷ ss) = pushed ss

-- the size of the allocated block, 0 where there is none
unfoldable pub block : List Step → ℕ
block [] = 0
block (Push k ∷ ss) = block ss
block (Allocate k ∷ ss) = k.size
block (SetFrame k ∷ ss) = block ss
block (Save k ∷ ss) = block ss

-- the frame register with its offset
unfoldable pub frame : List Step → Option SetFrameStep
frame [] = None
frame (Push k ∷ ss) = frame ss
frame (Allocate k ∷ ss) = frame ss
frame (SetFrame k ∷ ss) = Some k
frame (Save k ∷ ss) = frame ss
