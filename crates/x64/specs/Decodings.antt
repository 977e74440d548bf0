-- The instruction that bytes begin with. A byte past the end counts as 0, which begins no form.
use Rattle.std.specs.Prelude.{ℕ, ◌+◌, ◌-◌, ◌*◌, ◌/◌, ◌%◌, ◌^◌, Bool, true, cond, ◌&&◌, ◌||◌, List, length, Some, None, Option, ◌==◌, nat_eq, nat_le, nat_lt, slice_index, slice_index_or}
use Rattle.layout.specs.Words.{le_at}
use Rattle.x64.specs.declared.instruction.Instruction.{Instruction}
use Rattle.x64.specs.declared.instruction.Instruction.TheVariants.{Push, Pop, SubRsp, AddRsp, StoreAtRsp, LoadAtRsp, LeaAtRsp, StoreAtFrame, LoadAtFrame, LeaRspAtFrame, Set, Nop, Call, Ret}

-- a signed byte as 32 signed bits
abbrev pub extended : ℕ → ℕ
extended b = cond (nat_lt b 128) b (b + (2 ^ 32 - 256))

-- the displacement at a place, of four bytes or one, and where it ends
abbrev pub displaced : Bool → List ℕ → ℕ → Option (ℕ × ℕ)
displaced wide bs at =
    cond wide
    (cond (nat_le (at + 4) (length bs)) (Some (le_at 4 bs at, at + 4)) None)
    (cond (nat_lt at (length bs)) (Some (extended (slice_index bs at), at + 1)) None)

-- the instruction that a displacement makes, with where it ends
abbrev pub ending : Option Instruction → ℕ → Option (Instruction × ℕ)
ending None n = None
ending (Some i) n = Some (i, n)

abbrev pub formed : Option (ℕ × ℕ) → (ℕ → Option Instruction) → Option (Instruction × ℕ)
formed None f = None
formed (Some p) f = ending (f p.0) p.1

-- push or pop of one of eight registers, of which the first has the number given
abbrev pub push_or_pop : ℕ → ℕ → Option Instruction
push_or_pop first b =
    cond (nat_le 80 b && nat_lt b 88) (Some (Push (first + (b - 80))))
    (cond (nat_le 88 b && nat_lt b 96) (Some (Pop (first + (b - 88))))
    None)

-- one byte
abbrev pub plain : ℕ → Option Instruction
plain b =
    cond (b == 144) (Some Nop)
    (cond (b == 195) (Some Ret)
    (cond (b == 84 || b == 92) None
    (push_or_pop 0 b)))

-- the byte after 41
abbrev pub upper_plain : ℕ → Option Instruction
upper_plain b = push_or_pop 8 b

abbrev pub rsp_form : ℕ → ℕ → Option Instruction
rsp_form g d = cond (g == 236) (Some (SubRsp d)) (cond (g == 196) (Some (AddRsp d)) None)

abbrev pub set_form : ℕ → ℕ → Option Instruction
set_form r d = cond (r == 4) None (Some (Set r d))

abbrev pub at_rsp_form : ℕ → ℕ → ℕ → Option Instruction
at_rsp_form op r d =
    cond (r == 4) None
    (cond (op == 137) (Some (StoreAtRsp r d))
    (cond (op == 139) (Some (LoadAtRsp r d))
    (cond (op == 141) (Some (LeaAtRsp r d))
    None)))

abbrev pub at_frame_form : ℕ → ℕ → ℕ → ℕ → Option Instruction
at_frame_form op r f d =
    cond (r == 4) (cond (op == 141) (Some (LeaRspAtFrame f d)) None)
    (cond (op == 137) (Some (StoreAtFrame r f d))
    (cond (op == 139) (Some (LoadAtFrame r f d))
    None))

-- an access at RSP or at a frame register: the third byte has mode, register and base
abbrev pub memory_in : ℕ → ℕ → List ℕ → Option (Instruction × ℕ)
memory_in rex op bs =
    let m = slice_index_or bs 2 0 in
    let wide = nat_eq (m / 64) 2 in
    let r = m / 8 % 8 + 8 * (rex / 4) in
    cond (wide || m / 64 == 1)
    (cond (m % 8 == 4)
    (cond (rex % 2 == 0 && slice_index bs 3 == 36) (formed (displaced wide bs 4) (at_rsp_form op r)) None)
    (formed (displaced wide bs 3) (at_frame_form op r (m % 8 + 8 * (rex % 2)))))
    None

abbrev pub set_in : ℕ → List ℕ → Option (Instruction × ℕ)
set_in rex bs =
    let m = slice_index_or bs 2 0 in
    cond (nat_le 192 m && (nat_lt m 200 && nat_lt rex 2)) (formed (displaced true bs 3) (set_form (m - 192 + 8 * rex))) None

-- after 48 to 4F, of which the low three bits are given
abbrev pub rexed : ℕ → List ℕ → Option (Instruction × ℕ)
rexed rex bs =
    let op = slice_index_or bs 1 0 in
    cond (rex / 2 % 2 == 0)
    (cond (op == 129 || op == 131) (cond (rex == 0) (formed (displaced (op == 129) bs 3) (rsp_form (slice_index bs 2))) None)
    (cond (op == 199) (set_in rex bs)
    (memory_in rex op bs)))
    None

-- the instruction, and how many bytes it has
unfoldable pub decoded : List ℕ → Option (Instruction × ℕ)
decoded bs =
    let b = slice_index_or bs 0 0 in
    cond (b == 232) (formed (displaced true bs 1) (λ d. Some (Call d)))
    (cond (b == 65) (ending (upper_plain (slice_index bs 1)) 2)
    (cond (nat_le 72 b && nat_lt b 80) (rexed (b - 72) bs)
    (ending (plain b) 1)))
