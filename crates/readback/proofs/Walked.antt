-- The codes of a function's steps, walked from the first slot to the last.
use Rattle.std.proofs.Common.{◌≡◌, ℕ, ◌+◌, ◌*◌, ◌≤◌, Bool, true, false, ◌||◌, eqb, List, [], ◌∷◌, ◌++◌, map, length, Some, None, Ok, Option, Result, sym, refl, ap, ◌∙◌, subst, arith}
use Rattle.std.proofs.lemmas.List.{append-nil, append_assoc, length-append, drop_at}
use Rattle.std.proofs.lemmas.Bool.{le-leb, cond-true, false≢true, or_from}
use Rattle.x64.specs.Encodings.{encode}
use Rattle.steps.specs.declared.set_frame.SetFrameStep.{SetFrameStep}
use Rattle.infos.proofs.Slots.{Left, start, step, ended}
use Rattle.infos.specs.Codes.{bind}
use Rattle.infos.specs.Refusals.{InfoFault, at_slot}
use Rattle.infos.specs.Sequences.{admitted, before_codes, codes_of}
use Rattle.infos.specs.declared.code.Code.{Code}
use Rattle.plan.specs.Bodies.{bytes, enter, forward}
use Rattle.plan.specs.Steps.{step as step-record, step_code, step_instruction, sets_frame}
use Rattle.plan.specs.UnwindInfos.{codes}
use Rattle.plan.specs.declared.step.Step.{Step}
use Rattle.plan.specs.declared.step.Step.TheVariants.{Push, Allocate, SetFrame, Save}
use Rattle.plan.specs.declared.text.StepRecord.{StepRecord}
use Rattle.readback.specs.Readings.{step_of_code, steps_of_codes}
use Rattle.plan.proofs.Accepted.{Fine, Framed, Fines, record_of, kept_not_zero}
use Rattle.readback.proofs.Decoded.{decodes, code}
use Rattle.readback.proofs.Passes.{no_steps, steps_push}
use Rattle.readback.proofs.Progresses.{Progress}

-- the frame register and offset of an info
abbrev pub frame_number : Option SetFrameStep → ℕ
frame_number None = 0
frame_number (Some k) = k.register

abbrev pub frame_place : Option SetFrameStep → ℕ
frame_place None = 0
frame_place (Some k) = k.offset

-- whether the codes so far set the frame
abbrev set_after : List Step → Bool
set_after [] = false
set_after (s ∷ ss) = set_after ss || sets_frame s

module _ (f : Option SetFrameStep) where
  meaning : (slot end : ℕ) (s : Step) → Framed f s → step_of_code (frame_number f) (frame_place f) (code slot end s) ≡ Ok (record_of s)
  meaning slot end (Push k) h = refl
  meaning slot end (Allocate k) h = refl
  meaning slot end (SetFrame k) h = ap (λ x. Ok (step-record 2 (frame_number x) (frame_place x))) h
  meaning slot end (Save k) h = refl

  named : (used : Bool) (s : Step) → Fine used s → Framed f s → sets_frame s ≡ true → eqb (frame_number f) 0 ≡ false
  named used (Push k) h g e = absurd (false≢true e)
  named used (Allocate k) h g e = absurd (false≢true e)
  named used (SetFrame k) h g e = ap (λ x. eqb (frame_number x) 0) g ∙ kept_not_zero k.register h.0
  named used (Save k) h g e = absurd (false≢true e)

  not_again : (s : Step) → Fine true s → sets_frame s ≡ false
  not_again (Push k) h = refl
  not_again (Allocate k) h = refl
  not_again (SetFrame k) h = absurd (false≢true (sym h.3))
  not_again (Save k) h = refl

  once : (ss : List Step) → Fines f true ss → set_after ss ≡ false
  once [] h = refl
  once (s ∷ ss) h = or_from (set_after ss) (sets_frame s) (once ss h.2) (not_again s h.0)

-- a code in its place
admits : (frame : ℕ) (p : Progress) (slot end : ℕ) (s : Step) → end ≤ p.limit → (sets_frame s ≡ true → (p.frame_set ≡ false) × (eqb frame 0 ≡ false)) →
    admitted frame p (code slot end s) ≡ Ok (record { limit = end; frame_set = p.frame_set || sets_frame s })
admits frame p slot end (Push k) l h = cond-true _ _ _ (le-leb end p.limit l)
admits frame p slot end (Allocate k) l h = cond-true _ _ _ (le-leb end p.limit l)
admits frame p slot end (SetFrame k) l h =
    let g = h refl in
    rw (g.0, g.1, le-leb end p.limit l)
admits frame p slot end (Save k) l h = cond-true _ _ _ (le-leb end p.limit l)

or_true : (used b : Bool) → b ≡ true → (used || b) ≡ true
or_true true b e = refl
or_true false b e = e

module _ (all : Result (List Code) InfoFault) (f : Option SetFrameStep) where
  -- the codes of these steps are read, and the tail is left
  record Walked (ss : List Step) (from : ℕ) (tail : List ℕ) (qs : List StepRecord) : Type 0 where
    progress : Progress
    slot : ℕ
    done : List Code
    left : Left all (frame_number f) progress slot tail done
    steps : steps_of_codes (frame_number f) (frame_place f) done ≡ Ok (map record_of ss ++ qs)
    limit : from ≤ progress.limit
    set : progress.frame_set ≡ set_after ss

  -- one more code, that of a step before those read
  one : (used : Bool) (s : Step) (ss : List Step) (end : ℕ) (tail : List ℕ) (qs : List StepRecord) → Fines f used (s ∷ ss) → Walked ss end (step_code end s ++ tail) qs → Walked (s ∷ ss) end tail qs
  one used s ss end tail qs h w =
      let d = decodes w.slot end used s tail h.0 in
      let c : Code = code w.slot end s in
      let frame : ℕ = frame_number f in
      let new : Progress = record { limit = end; frame_set = w.progress.frame_set || sets_frame s } in
      let long : 2 ≤ length (step_code end s ++ tail) = omega (arith, length-append (step_code end s) tail, d.size, d.some) in
      let free : (sets_frame s ≡ true → (w.progress.frame_set ≡ false) × (eqb frame 0 ≡ false)) =
      λ e. (w.set ∙ once f ss (subst (λ u. Fines f u ss) (or_true used (sets_frame s) e) h.2), named f used s h.0 h.1 e) in
      let more = step w.left long new d.used c d.some (ap (at_slot (Some w.slot)) d.is) (ap (at_slot (Some w.slot)) (admits frame w.progress w.slot end s w.limit free)) in
      record {
        progress = new;
        slot = w.slot + d.used;
        done = w.done ++ c ∷ [];
        left = subst (λ l. Left all frame new (w.slot + d.used) l (w.done ++ c ∷ [])) (drop_at (step_code end s) tail (2 * d.used) (sym d.size)) more;
        steps = steps_push frame (frame_place f) w.done c (map record_of ss ++ qs) (record_of s) w.steps (meaning f w.slot end s h.1);
        limit = omega arith;
        set = ap (λ b. b || sets_frame s) w.set;
      }

  lower : (ss : List Step) (from end : ℕ) (tail : List ℕ) (qs : List StepRecord) → from ≤ end → Walked ss end tail qs → Walked ss from tail qs
  lower ss from end tail qs h w = record { progress = w.progress; slot = w.slot; done = w.done; left = w.left; steps = w.steps; limit = omega (arith, h, w.limit); set = w.set }

  walk : (used : Bool) (from : ℕ) (ss : List Step) (tail : List ℕ) (p : Progress) (slot : ℕ) (done : List Code) (qs : List StepRecord) → Fines f used ss → Left all (frame_number f) p slot (codes from ss ++ tail) done →
      steps_of_codes (frame_number f) (frame_place f) done ≡ Ok qs → p.frame_set ≡ false → from + length (bytes (enter ss)) ≤ p.limit → Walked ss from tail qs
  unfolding codes bytes forward
  walk used from [] tail p slot done qs h l a b room = record { progress = p; slot = slot; done = done; left = l; steps = a; limit = omega arith; set = b }
  walk used from (s ∷ ss) tail p slot done qs h l a b room =
      let size : ℕ = length (encode (step_instruction s)) in
      let end : ℕ = from + size in
      let l' = subst (λ bs. Left all (frame_number f) p slot bs done) (append_assoc (codes end ss) (step_code end s) tail) l in
      let room' : end + length (bytes (enter ss)) ≤ p.limit = omega (arith, room, length-append (encode (step_instruction s)) (bytes (enter ss))) in
      lower (s ∷ ss) from end tail qs (omega arith) (one used s ss end tail qs h (walk (used || sets_frame s) end ss (step_code end s ++ tail) p slot done qs h.2 l' a b room'))

-- the codes of a function's steps are good, and mean the steps
pub walked : (f : Option SetFrameStep) (ss : List Step) (prologue : ℕ) → Fines f false ss → length (bytes (enter ss)) ≤ prologue → bind (codes_of prologue (frame_number f) (codes 0 ss)) (steps_of_codes (frame_number f) (frame_place f)) ≡ Ok (map record_of ss)
walked f ss prologue h room =
    let all = codes_of prologue (frame_number f) (codes 0 ss) in
    let begin = subst (λ bs. Left all (frame_number f) (before_codes prologue) 0 bs []) (sym (append-nil (codes 0 ss))) (start prologue (frame_number f) (codes 0 ss)) in
    let w = walk all f false 0 ss [] (before_codes prologue) 0 [] [] h begin (no_steps (frame_number f) (frame_place f)) refl (omega arith) in
    ap (λ r. bind r (steps_of_codes (frame_number f) (frame_place f))) (ended w.left (omega arith)) ∙ w.steps ∙ ap Ok (append-nil (map record_of ss))

-- their slots are whole, and at most three for each step
pub slots_whole : (f : Option SetFrameStep) (used : Bool) (from : ℕ) (ss : List Step) → Fines f used ss → (n : ℕ) × (2 * n ≡ length (codes from ss)) × (n ≤ 3 * length ss)
unfolding codes
slots_whole f used from [] h = (0, refl, omega arith)
slots_whole f used from (s ∷ ss) h =
    let end : ℕ = from + length (encode (step_instruction s)) in
    let more = slots_whole f (used || sets_frame s) end ss h.2 in
    let d = decodes 0 end used s [] h.0 in
    (more.0 + d.used, omega (arith, more.1, d.size, length-append (codes end ss) (step_code end s)), omega (arith, more.2, d.few))
