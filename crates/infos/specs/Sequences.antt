-- The codes of an info in array order, each good by those before it.
use Rattle.std.specs.Prelude.{ℕ, zero, suc, ◌+◌, ◌*◌, Bool, true, false, cond, ◌&&◌, ◌||◌, List, [], ◌∷◌, length, drop, Some, Ok, Err, Result, ◌==◌, nat_le}
use Rattle.infos.specs.Codes.{bind, decoded_in}
use Rattle.infos.specs.Refusals.{InfoFault, at_slot}
use Rattle.infos.specs.declared.code.Code.{Code}
use Rattle.infos.specs.declared.code.Operation.{Operation}
use Rattle.infos.specs.declared.code.Operation.TheVariants.{Push, Allocate, SetFrame, Save, SaveXmm}
use Rattle.infos.specs.declared.sequence.Progress.{Progress}

abbrev pub sets_frame : Operation → Bool
sets_frame SetFrame = true
sets_frame (Push r) = false
sets_frame (Allocate n) = false
sets_frame (Save r o) = false
sets_frame (SaveXmm r o) = false

-- what holds after one more code: one set frame at most, and only with a frame register; offsets never rise
abbrev pub admitted : ℕ → Progress → Code → Result Progress ℕ
admitted frame s c =
    cond (sets_frame c.operation && (s.frame_set || frame == 0)) (Err 43)
    (cond (nat_le c.offset s.limit) (Ok (record { limit = c.offset; frame_set = s.frame_set || sets_frame c.operation })) (Err 45))

-- the codes that bytes from a slot on hold, of which there are no more than the fuel
unfoldable pub codes_from : ℕ → ℕ → Progress → ℕ → List ℕ → Result (List Code) InfoFault
codes_from zero frame s slot bs = Ok []
codes_from (suc fuel) frame s slot bs =
    cond (nat_le 2 (length bs))
    (bind (at_slot (Some slot) (decoded_in slot bs)) (λ p. bind (at_slot (Some slot) (admitted frame s p.0)) (λ t. bind (codes_from fuel frame t (slot + p.1) (drop (2 * p.1) bs)) (λ cs. Ok (p.0 ∷ cs)))))
    (Ok [])

abbrev pub before_codes : ℕ → Progress
before_codes prologue = record { limit = prologue; frame_set = false }

-- the codes of an info with a prologue of that size and that frame register, or the first refusal
unfoldable pub codes_of : ℕ → ℕ → List ℕ → Result (List Code) InfoFault
codes_of prologue frame ss = codes_from (length ss) frame (before_codes prologue) 0 ss

-- the code that bytes at a slot begin with, how many slots it takes, and what holds after it
abbrev pub taken : ℕ → Progress → ℕ → List ℕ → Result ((Code × ℕ) × Progress) InfoFault
taken frame s slot bs = bind (at_slot (Some slot) (decoded_in slot bs)) (λ p. bind (at_slot (Some slot) (admitted frame s p.0)) (λ t. Ok (p, t)))

-- a code that was taken with what follows it, or its refusal, which nothing follows
abbrev pub followed : Result ((Code × ℕ) × Progress) InfoFault → ((Code × ℕ) × Progress → List (Result Code InfoFault)) → List (Result Code InfoFault)
followed (Ok p) f = Ok p.0.0 ∷ f p
followed (Err e) f = Err e ∷ []

-- the same codes one by one, up to the first refusal
unfoldable pub outcomes : ℕ → ℕ → Progress → ℕ → List ℕ → List (Result Code InfoFault)
outcomes zero frame s slot bs = []
outcomes (suc fuel) frame s slot bs =
    cond (nat_le 2 (length bs)) (followed (taken frame s slot bs) (λ p. outcomes fuel frame p.1 (slot + p.0.1) (drop (2 * p.0.1) bs))) []

-- what answers one by one come to: the first refusal is the answer
abbrev pub gathered : {X : Type 0} → List (Result X InfoFault) → Result (List X) InfoFault
gathered [] = Ok []
gathered (r ∷ rs) = bind r (λ x. bind (gathered rs) (λ xs. Ok (x ∷ xs)))

abbrev pub counted : Result (List Code) InfoFault → Result ℕ InfoFault
counted r = bind r (λ cs. Ok (length cs))
