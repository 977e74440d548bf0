-- Worked examples, in one list: what the definitions give on the left, the bytes on the right.
use Rattle.std.specs.Prelude.{◌≡◌, ℕ, List, [], ◌∷◌, pos}
use Rattle.x64.specs.Encodings.{encode}
use Rattle.plan.specs.Functions.{Text, functions_of}
use Rattle.plan.specs.Layouts.{code, infos, table}
use Rattle.plan.specs.Steps.{step, step_of, step_instruction, step_code}

-- push RBP, push RBX, allocate 56, set RBP as frame register at 32, save RSI at 40; one nop
abbrev pub worked : Text
worked =
    record {
      counts = record { steps = 5; operations = 1 } ∷ [];
      steps = step 0 5 0 ∷ step 0 3 0 ∷ step 1 0 56 ∷ step 2 5 32 ∷ step 3 6 40 ∷ [];
      operations = record { kind = 0; first = 0; number = pos 0 } ∷ [];
    }

-- an allocate's instruction, and its code where that ends at an offset
abbrev pub allocating : ℕ → List ℕ
allocating size = encode (step_instruction (step_of (step 1 0 size)))

abbrev pub allocated : ℕ → ℕ → List ℕ
allocated size end = step_code end (step_of (step 1 0 size))

abbrev pub worked_code : List ℕ
worked_code = 85 ∷ 83 ∷ 72 ∷ 131 ∷ 236 ∷ 56 ∷ 72 ∷ 141 ∷ 108 ∷ 36 ∷ 32 ∷ 72 ∷ 137 ∷ 116 ∷ 36 ∷ 40 ∷ 144 ∷ 72 ∷ 139 ∷ 117 ∷ 8 ∷ 72 ∷ 141 ∷ 101 ∷ 24 ∷ 91 ∷ 93 ∷ 195 ∷ []

abbrev pub worked_info : List ℕ
worked_info = 1 ∷ 16 ∷ 6 ∷ 37 ∷ 16 ∷ 100 ∷ 5 ∷ 0 ∷ 11 ∷ 3 ∷ 6 ∷ 98 ∷ 2 ∷ 48 ∷ 1 ∷ 80 ∷ []

abbrev pub worked_entry : List ℕ
worked_entry = 0 ∷ 16 ∷ 0 ∷ 0 ∷ 28 ∷ 16 ∷ 0 ∷ 0 ∷ 0 ∷ 32 ∷ 0 ∷ 0 ∷ []

abbrev pub WorkedExamples : Type 0
WorkedExamples =
    code (functions_of worked) ∷ infos (functions_of worked) ∷ table (functions_of worked)
    ∷ allocating 120 ∷ allocated 120 4
    ∷ allocating 128 ∷ allocated 128 7
    ∷ allocating 524280 ∷ allocated 524280 7
    ∷ allocating 524288 ∷ allocated 524288 7
    ∷ []
    ≡
    worked_code ∷ worked_info ∷ worked_entry
    ∷ (72 ∷ 131 ∷ 236 ∷ 120 ∷ []) ∷ (4 ∷ 226 ∷ [])
    ∷ (72 ∷ 129 ∷ 236 ∷ 128 ∷ 0 ∷ 0 ∷ 0 ∷ []) ∷ (7 ∷ 242 ∷ [])
    ∷ (72 ∷ 129 ∷ 236 ∷ 248 ∷ 255 ∷ 7 ∷ 0 ∷ []) ∷ (7 ∷ 1 ∷ 255 ∷ 255 ∷ [])
    ∷ (72 ∷ 129 ∷ 236 ∷ 0 ∷ 0 ∷ 8 ∷ 0 ∷ []) ∷ (7 ∷ 17 ∷ 0 ∷ 0 ∷ 8 ∷ 0 ∷ [])
    ∷ []
