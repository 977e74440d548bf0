-- The undoing and the code of each kind of step.
use Rattle.std.specs.Prelude.{ℕ, ◌+◌, ◌-◌, ◌*◌, ◌/◌, ◌%◌, ◌^◌, Bool, cond, ◌&&◌, List, [], ◌∷◌, length, nat_le, nat_lt}
use Rattle.x64.specs.Encodings.{four}
use Rattle.cpu.specs.Performance.{holds_word, with_register}
use Rattle.cpu.specs.Processors.{State}
use Rattle.steps.specs.States.{value, rsp, word}

abbrev pub with_value : State → ℕ → ℕ → State
with_value s r v = record { registers = with_register s.registers r v; low = s.low; stack = s.stack }

-- the word lies in the area
abbrev pub readable : State → ℕ → Bool
readable s at = holds_word s.low (length s.stack) at

-- register := word at RSP; RSP += 8
abbrev pub undo_push : ℕ → State → State
undo_push r s = with_value (with_value s r (word s (rsp s))) 4 (rsp s + 8)

abbrev pub can_undo_push : State → Bool
can_undo_push s = nat_lt (rsp s + 8) (2 ^ 64) && readable s (rsp s)

-- RSP += size
abbrev pub undo_allocate : ℕ → State → State
undo_allocate n s = with_value s 4 (rsp s + n)

abbrev pub can_undo_allocate : ℕ → State → Bool
can_undo_allocate n s = nat_lt (rsp s + n) (2 ^ 64)

-- RSP := frame register - frame offset
abbrev pub undo_frame : ℕ → ℕ → State → State
undo_frame f o s = with_value s 4 (value s f - o)

abbrev pub can_undo_frame : ℕ → ℕ → State → Bool
can_undo_frame f o s = nat_le o (value s f)

-- register := word at RSP + offset
abbrev pub undo_save : ℕ → ℕ → State → State
undo_save r o s = with_value s r (word s (rsp s + o))

abbrev pub can_undo_save : ℕ → State → Bool
can_undo_save o s = nat_lt (rsp s + o) (2 ^ 64) && readable s (rsp s + o)

-- the codes, with the prologue offset of the instruction's end, in their shortest form
abbrev pub push_code : ℕ → ℕ → List ℕ
push_code r end = end ∷ 16 * r ∷ []

abbrev pub two : ℕ → List ℕ
two n = n % 256 ∷ n / 256 ∷ []

abbrev pub allocate_code : ℕ → ℕ → List ℕ
allocate_code n end =
    cond (nat_le n 128) (end ∷ (16 * (n / 8 - 1) + 2) ∷ [])
    (cond (nat_le n 524280) (end ∷ 1 ∷ two (n / 8))
    (end ∷ 17 ∷ four n))

abbrev pub frame_code : ℕ → List ℕ
frame_code end = end ∷ 3 ∷ []

abbrev pub save_code : ℕ → ℕ → ℕ → List ℕ
save_code r o end = cond (nat_le o 524280) (end ∷ (16 * r + 4) ∷ two (o / 8)) (end ∷ (16 * r + 5) ∷ four o)
