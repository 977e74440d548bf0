-- Unwind codes, as their slots say.
use Rattle.std.specs.Prelude.{ℕ, ◌+◌, ◌*◌, ◌/◌, ◌%◌, cond, List, length, drop, Ok, Err, Result, ◌==◌, nat_le, nat_lt, slice_index}
use Rattle.layout.specs.Words.{le_at}
use Rattle.infos.specs.declared.code.Code.{Code}
use Rattle.infos.specs.declared.code.Operation.{Operation}
use Rattle.infos.specs.declared.code.Operation.TheVariants.{Push, Allocate, SetFrame, Save, SaveXmm}

-- one answer after another: the first refusal is the answer
abbrev pub bind : {X Y E : Type 0} → Result X E → (X → Result Y E) → Result Y E
bind (Ok x) f = f x
bind (Err e) f = Err e

-- register 4 is refused
abbrev pub register : ℕ → ℕ → Result ℕ ℕ
register r n = cond (r == 4) (Err 43) (Ok n)

-- how many slots a code takes, by its operation and its info
abbrev pub width : ℕ → ℕ → Result ℕ ℕ
width op info =
    cond (op == 0) (register info 1)
    (cond (op == 1) (cond (info == 0) (Ok 2) (cond (info == 1) (Ok 3) (Err 43)))
    (cond (op == 2) (Ok 1)
    (cond (op == 3) (Ok 1)
    (cond (op == 4) (register info 2)
    (cond (op == 5) (register info 3)
    (cond (op == 8) (Ok 2)
    (cond (op == 9) (Ok 3)
    (Err 43))))))))

-- what a code means that is not refused; its value stands from byte 2 on
abbrev pub meant : ℕ → ℕ → List ℕ → Operation
meant op info bs =
    cond (op == 0) (Push info)
    (cond (op == 1) (Allocate (cond (info == 0) (8 * le_at 2 bs 2) (le_at 4 bs 2)))
    (cond (op == 2) (Allocate (8 * info + 8))
    (cond (op == 3) SetFrame
    (cond (op == 4) (Save info (8 * le_at 2 bs 2))
    (cond (op == 5) (Save info (le_at 4 bs 2))
    (cond (op == 8) (SaveXmm info (16 * le_at 2 bs 2))
    (SaveXmm info (le_at 4 bs 2))))))))

-- the code that two bytes or more begin with, and how many slots it takes
abbrev pub decoded_in : ℕ → List ℕ → Result (Code × ℕ) ℕ
decoded_in slot bs =
    let op = slice_index bs 1 % 16 in
    let info = slice_index bs 1 / 16 in
    bind (width op info) (λ n. cond (nat_le (2 * n) (length bs)) (Ok (record { slot = slot; offset = slice_index bs 0; operation = meant op info bs }, n)) (Err 44))

-- the code at a slot
abbrev pub code_at : List ℕ → ℕ → Result (Code × ℕ) ℕ
code_at ss slot = cond (nat_lt slot (length ss / 2)) (decoded_in slot (drop (2 * slot) ss)) (Err 44)
