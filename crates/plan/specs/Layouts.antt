-- Where functions and infos of a module lie, and its bytes.
use Rattle.std.specs.Prelude.{ℕ, ◌+◌, ◌-◌, ◌*◌, ◌/◌, List, [], ◌∷◌, ◌++◌, length, replicate}
use Rattle.x64.specs.Encodings.{four}
use Rattle.plan.specs.Functions.{Function}
use Rattle.plan.specs.Bodies.{steps_of, function_bytes, function_size}
use Rattle.plan.specs.UnwindInfos.{info_bytes}

-- the first multiple of n from x up
abbrev pub up : ℕ → ℕ → ℕ
up n x = (x + (n - 1)) / n * n

-- where functions start, the first at the first multiple of 16 from an RVA up
unfoldable pub starts_from : ℕ → List Function → List ℕ
starts_from at [] = []
starts_from at (f ∷ fs) = up 16 at ∷ starts_from (up 16 at + function_size f) fs

abbrev pub starts : List Function → List ℕ
starts fs = starts_from 4096 fs

-- the gap before the next function
abbrev pub gap : ℕ → List ℕ
gap at = replicate (up 16 at - at) 204

-- the code from an RVA on
unfoldable pub code_from : List ℕ → ℕ → List Function → List ℕ
code_from to at [] = []
code_from to at (f ∷ fs) = gap at ++ (function_bytes to (up 16 at) f ++ code_from to (up 16 at + function_size f) fs)

abbrev pub code : List Function → List ℕ
code fs = code_from (starts fs) 4096 fs

-- the infos follow the code from a multiple of 4096 on
abbrev pub info_start : List Function → ℕ
info_start fs = 4096 + up 4096 (length (code fs))

unfoldable pub infos : List Function → List ℕ
infos [] = []
infos (f ∷ fs) = info_bytes (steps_of f) ++ infos fs

abbrev pub entry : ℕ → ℕ → ℕ → List ℕ
entry begin end info = four begin ++ (four end ++ four info)

-- the entries of functions from an RVA on, whose infos lie from another on
unfoldable pub table_from : ℕ → ℕ → List Function → List ℕ
table_from at info [] = []
table_from at info (f ∷ fs) = entry (up 16 at) (up 16 at + function_size f) info ++ table_from (up 16 at + function_size f) (info + length (info_bytes (steps_of f))) fs

abbrev pub table : List Function → List ℕ
table fs = table_from 4096 (info_start fs) fs

-- the module ends where its last info ends
abbrev pub module_size : List Function → ℕ
module_size fs = info_start fs + length (infos fs)
