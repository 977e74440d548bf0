-- The bytes of an epilogue, one by one.
use Rattle.std.specs.Prelude.{ℕ, zero, suc, ◌+◌, ◌-◌, ◌*◌, ◌/◌, ◌%◌, ◌^◌, Bool, true, false, cond, not, ◌&&◌, List, [], ◌∷◌, Ok, Err, Result, Some, None, Option, is_some, ◌==◌, nat_le, nat_lt}
use Rattle.std.specs.Option.{option_map}
use Rattle.std.specs.Result.{result_map_both}
use Rattle.x64.specs.Decodings.{extended}
use Rattle.memory.specs.Byte.{Byte, shown, lacking}
use Rattle.unwind.specs.declared.epilogue.Action.{Action}
use Rattle.unwind.specs.declared.epilogue.Action.TheVariants.{Move, Pop}
use Rattle.unwind.specs.declared.epilogue.Part.{Part}
use Rattle.unwind.specs.declared.epilogue.Part.TheVariants.{First, Low, High, Add, Lea, Short, Long, Pops, Upper, Repeat}
use Rattle.unwind.specs.declared.epilogue.Next.{Next}
use Rattle.unwind.specs.declared.epilogue.Next.TheVariants.{On, Whole, Found, Misfit}

-- 58 to 5F pop the registers from 0 on, but 5C; 41 and C3 and F3 begin a pop of an upper register and a close
abbrev pub pop_or_close : ℕ → Next
pop_or_close b =
    cond (nat_le 88 b && nat_lt b 96 && not (b == 92)) (Whole (Pop (b - 88)) Pops)
    (cond (b == 65) (On Upper)
    (cond (b == 195) Found
    (cond (b == 243) (On Repeat)
    Misfit)))

-- a lea's byte, by the low three bits of the frame register
abbrev pub lea_byte : ℕ → ℕ → Next
lea_byte f b = cond (b == 96 + f % 8) (On (Short f)) (cond (b == 160 + f % 8) (On (Long f 4 0)) Misfit)

-- a byte of four, the lowest first
abbrev pub long_byte : ℕ → ℕ → ℕ → ℕ → Next
long_byte r left v b =
    let w = v / 256 + b * 2 ^ 24 in
    cond (nat_le left 1) (Whole (Move r w) Pops) (On (Long r (left - 1) w))

-- what one more byte makes of what was read, in a function with frame register f, or 0 for none
abbrev pub next : ℕ → Part → ℕ → Next
next f First b = cond (b == 72) (On Low) (cond (b == 73 && nat_le 8 f && not (f % 8 == 4)) (On High) (pop_or_close b))
next f Low b =
    cond (b == 131) (On (Add false))
    (cond (b == 129) (On (Add true))
    (cond (b == 141 && nat_lt 0 f && nat_lt f 8 && not (f == 4)) (On Lea)
    Misfit))
next f High b = cond (b == 141) (On Lea) Misfit
next f (Add wide) b = cond (b == 196) (On (cond wide (Long 4 4 0) (Short 4))) Misfit
next f Lea b = lea_byte f b
next f (Short r) b = Whole (Move r (extended b)) Pops
next f (Long r left v) b = long_byte r left v b
next f Pops b = pop_or_close b
next f Upper b = cond (nat_le 88 b && nat_lt b 96) (Whole (Pop (b - 80)) Pops) Misfit
next f Repeat b = cond (b == 195) Found Misfit

-- what is told of a byte, or the address where it is lacking
abbrev pub read_at : {X : Type 0} → Byte → ℕ → (ℕ → Result X ℕ) → Result X ℕ
read_at (shown b) at k = k b
read_at lacking at k = Err at

-- an epilogue goes on with this
abbrev pub going_on : Next → (Part → Result (Option (List Action)) ℕ) → Result (Option (List Action)) ℕ
going_on (On p) k = k p
going_on (Whole a p) k = result_map_both (option_map (λ rest. a ∷ rest)) (λ e. e) (k p)
going_on Found k = Ok (Some [])
going_on Misfit k = Ok None

-- what an epilogue does whose bytes go on at an address, none if there is no epilogue, or the first address that is lacking
unfoldable pub actions : ℕ → Part → ℕ → ℕ → (ℕ → Byte) → Result (Option (List Action)) ℕ
actions f p at zero shows = Ok None
actions f p at (suc left) shows = read_at (shows at) at (λ b. going_on (next f p b) (λ q. actions f q (at + 1) left shows))

-- whether there is one
abbrev pub found : Result (Option (List Action)) ℕ → Result Bool ℕ
found r = result_map_both is_some (λ e. e) r

-- what it does, if there is one
abbrev pub listed : Result (Option (List Action)) ℕ → List Action
listed (Ok (Some xs)) = xs
listed (Ok None) = []
listed (Err e) = []
