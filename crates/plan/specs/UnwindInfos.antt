-- The unwind info of a compiled function.
use Rattle.std.specs.Prelude.{ℕ, ◌+◌, ◌*◌, ◌/◌, ◌%◌, cond, List, [], ◌∷◌, ◌++◌, length, Some, None, Option, ◌==◌}
use Rattle.x64.specs.Encodings.{encode}
use Rattle.steps.specs.declared.set_frame.SetFrameStep.{SetFrameStep}
use Rattle.plan.specs.Steps.{step_instruction, step_code, frame}
use Rattle.plan.specs.declared.step.Step.{Step}
use Rattle.plan.specs.Bodies.{bytes, enter}

-- the codes of steps, last to first, each with its instruction's end; the first instruction starts at this prologue offset
unfoldable pub codes : ℕ → List Step → List ℕ
codes from [] = []
codes from (s ∷ ss) =
    let end = from + length (encode (step_instruction s)) in
    codes end ss ++ step_code end s

-- the frame register and its offset / 16, 0 where there is none
abbrev pub frame_byte : Option SetFrameStep → ℕ
frame_byte None = 0
frame_byte (Some f) = f.register + 16 * (f.offset / 16)

-- slots are padded to an even count
abbrev pub pad : ℕ → List ℕ
pad size = cond (size % 4 == 0) [] (0 ∷ 0 ∷ [])

-- version 1 without flags, prologue size, slot count, frame register; the codes; a pad
abbrev pub info_bytes : List Step → List ℕ
info_bytes ss =
    let cs = codes 0 ss in
    (1 ∷ length (bytes (enter ss)) ∷ length cs / 2 ∷ frame_byte (frame ss) ∷ []) ++ (cs ++ pad (length cs))
