-- The bytes of an instruction.
use Rattle.std.specs.Prelude.{ℕ, ◌+◌, ◌-◌, ◌*◌, ◌/◌, ◌%◌, ◌^◌, Bool, true, cond, not, ◌&&◌, ◌||◌, List, [], ◌∷◌, ◌==◌, nat_le, nat_lt}
use Rattle.x64.specs.declared.instruction.Instruction.{Instruction}
use Rattle.x64.specs.declared.instruction.Instruction.TheVariants.{Push, Pop, SubRsp, AddRsp, StoreAtRsp, LoadAtRsp, LeaAtRsp, StoreAtFrame, LoadAtFrame, LeaRspAtFrame, Set, Nop, Call, Ret}

-- the byte 64m + 8g + e
abbrev pub modrm : ℕ → ℕ → ℕ → ℕ
modrm m g e = 64 * m + 8 * g + e

-- the low three bits of a register's number, and 1 for the upper eight
abbrev pub low : ℕ → ℕ
low r = r % 8

abbrev pub high : ℕ → ℕ
high r = cond (nat_lt r 8) 0 1

-- from -128 to 127, as 32 signed bits
abbrev pub short : ℕ → Bool
short d = nat_lt d 128 || nat_le (2 ^ 32 - 128) d

abbrev pub four : ℕ → List ℕ
four d = d % 256 ∷ d / 256 % 256 ∷ d / 65536 % 256 ∷ d / 16777216 % 256 ∷ []

-- a displacement in four bytes or in one, and the mode that says which
abbrev pub spelled : Bool → ℕ → List ℕ
spelled wide d = cond wide (four d) (d % 256 ∷ [])

abbrev pub mode : Bool → ℕ
mode wide = cond wide 2 1

abbrev pub one_register : ℕ → ℕ → List ℕ
one_register op r = cond (nat_lt r 8) ((op + low r) ∷ []) (65 ∷ (op + low r) ∷ [])

abbrev pub on_rsp : ℕ → Bool → ℕ → List ℕ
on_rsp op wide d = 72 ∷ cond wide 129 131 ∷ op ∷ spelled wide d

abbrev pub at_rsp : ℕ → Bool → ℕ → ℕ → List ℕ
at_rsp op wide r d = (72 + 4 * high r) ∷ op ∷ modrm (mode wide) (low r) 4 ∷ 36 ∷ spelled wide d

abbrev pub at_frame : ℕ → Bool → ℕ → ℕ → ℕ → List ℕ
at_frame op wide r f d = (72 + 4 * high r + high f) ∷ op ∷ modrm (mode wide) (low r) (low f) ∷ spelled wide d

-- an instruction with its displacement in four bytes or in one, where it has one that can be either
abbrev pub encode_as : Bool → Instruction → List ℕ
encode_as wide (Push r) = one_register 80 r
encode_as wide (Pop r) = one_register 88 r
encode_as wide (SubRsp d) = on_rsp 236 wide d
encode_as wide (AddRsp d) = on_rsp 196 wide d
encode_as wide (StoreAtRsp r d) = at_rsp 137 wide r d
encode_as wide (LoadAtRsp r d) = at_rsp 139 wide r d
encode_as wide (LeaAtRsp r d) = at_rsp 141 wide r d
encode_as wide (StoreAtFrame r f d) = at_frame 137 wide r f d
encode_as wide (LoadAtFrame r f d) = at_frame 139 wide r f d
encode_as wide (LeaRspAtFrame f d) = at_frame 141 wide 4 f d
encode_as wide (Set r d) = (72 + high r) ∷ 199 ∷ modrm 3 0 (low r) ∷ four d
encode_as wide Nop = 144 ∷ []
encode_as wide (Call d) = 232 ∷ four d
encode_as wide Ret = 195 ∷ []

-- the displacement that may take one byte, 0 where there is none
abbrev pub displacement_of : Instruction → ℕ
displacement_of (Push r) = 0
displacement_of (Pop r) = 0
displacement_of (SubRsp d) = d
displacement_of (AddRsp d) = d
displacement_of (StoreAtRsp r d) = d
displacement_of (LoadAtRsp r d) = d
displacement_of (LeaAtRsp r d) = d
displacement_of (StoreAtFrame r f d) = d
displacement_of (LoadAtFrame r f d) = d
displacement_of (LeaRspAtFrame f d) = d
displacement_of (Set r d) = 0
displacement_of Nop = 0
displacement_of (Call d) = 0
displacement_of Ret = 0

-- the shortest form
abbrev pub encode : Instruction → List ℕ
encode i = encode_as (not (short (displacement_of i))) i

-- a register that an instruction can name, and one that it can address by
abbrev pub nameable : ℕ → Bool
nameable r = nat_lt r 16 && not (r == 4)

abbrev pub addressing : ℕ → Bool
addressing f = nat_lt f 16 && not (low f == 4)

-- its registers are such, and its numbers have 32 bits
abbrev pub well_formed : Instruction → Bool
well_formed (Push r) = nameable r
well_formed (Pop r) = nameable r
well_formed (SubRsp d) = nat_lt d (2 ^ 32)
well_formed (AddRsp d) = nat_lt d (2 ^ 32)
well_formed (StoreAtRsp r d) = nameable r && nat_lt d (2 ^ 32)
well_formed (LoadAtRsp r d) = nameable r && nat_lt d (2 ^ 32)
well_formed (LeaAtRsp r d) = nameable r && nat_lt d (2 ^ 32)
well_formed (StoreAtFrame r f d) = nameable r && (addressing f && nat_lt d (2 ^ 32))
well_formed (LoadAtFrame r f d) = nameable r && (addressing f && nat_lt d (2 ^ 32))
well_formed (LeaRspAtFrame f d) = addressing f && nat_lt d (2 ^ 32)
well_formed (Set r d) = nameable r && nat_lt d (2 ^ 32)
well_formed Nop = true
well_formed (Call d) = nat_lt d (2 ^ 32)
well_formed Ret = true
