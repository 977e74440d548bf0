-- The info of a function in an area, read back.
use Rattle.std.proofs.Common.{◌≡◌, ℕ, ◌+◌, ◌-◌, ◌*◌, ◌/◌, ◌%◌, ◌<◌, ◌≤◌, Bool, false, cond, eqb, List, [], ◌∷◌, ◌++◌, map, length, take, None, Ok, Err, Option, Result, sym, refl, ap, ◌∙◌, ⊎_elim, arith}
use native.Mathlib.Nat.{add-mul-mod_self_left}
use Rattle.std.proofs.lemmas.List.{append_assoc, length-append, drop_at, take_at}
use Rattle.std.proofs.lemmas.Bool.{le-leb, eq-eqb, and_from, cond-true, cond-false, cases_eq, ne_eqb}
use Rattle.steps.specs.declared.set_frame.SetFrameStep.{SetFrameStep}
use Rattle.infos.specs.Codes.{bind}
use Rattle.infos.specs.Infos.{InfoOf, nothing, padded, header_in, located, info_at}
use Rattle.infos.specs.Refusals.{InfoFault, fault_at, outside}
use Rattle.infos.specs.Sequences.{codes_of}
use Rattle.infos.specs.declared.code.Code.{Code}
use Rattle.plan.specs.Bodies.{bytes, enter}
use Rattle.plan.specs.Steps.{frame}
use Rattle.plan.specs.UnwindInfos.{codes, frame_byte, pad, info_bytes}
use Rattle.plan.specs.declared.step.Step.{Step}
use Rattle.plan.specs.declared.step.Step.TheVariants.{Push, Allocate, SetFrame, Save}
use Rattle.tables.specs.declared.entry.Entry.{Entry}
use Rattle.readback.specs.Readings.{steps_in, steps_of_codes, function_steps}
use Rattle.plan.proofs.Accepted.{Fines, record_of, kept_below, kept_not_rsp}
use Rattle.readback.proofs.Walked.{frame_number, frame_place, walked, slots_whole}

-- the pad makes the slots even
quarter : (n : ℕ) → 2 * n % 4 ≡ 2 * (n % 2)
quarter n =
    let split : 2 * n ≡ 2 * (n % 2) + 4 * (n / 2) = omega arith in
    ap (λ x. x % 4) split ∙ add-mul-mod_self_left (2 * (n % 2)) 4 (n / 2) ∙ omega arith

pad-size : (n : ℕ) → length (pad (2 * n)) ≡ 2 * (n % 2)
pad-size n =
    let q : 2 * n % 4 ≡ 2 * (n % 2) = quarter n in
    ⊎_elim (λ e. ap length (cond-true _ _ _ (eq-eqb (2 * n % 4) 0 e)) ∙ omega (arith, e, q)) (λ e. ap length (cond-false _ _ _ (ne_eqb (2 * n % 4) 0 e)) ∙ omega (arith, e, q)) (cases_eq (2 * n % 4) 0)

-- the frame register and offset, in one byte and out of it
abbrev Framing : Option SetFrameStep → Type 0
Framing f = (frame_byte f % 16 ≡ frame_number f) × (frame_byte f / 16 * 16 ≡ frame_place f) × (eqb (frame_number f) 4 ≡ false)

first_frame : (g : Option SetFrameStep) (used : Bool) (ss : List Step) → Fines g used ss → Framing (frame ss)
unfolding frame
first_frame g used [] h = (refl, refl, refl)
first_frame g used (Push k ∷ ss) h = first_frame g _ ss h.2
first_frame g used (Allocate k ∷ ss) h = first_frame g _ ss h.2
first_frame g used (SetFrame k ∷ ss) h =
    let low : k.register < 16 = kept_below k.register h.0.0 in
    (omega arith, omega (arith, h.0.2), kept_not_rsp k.register h.0.0)
first_frame g used (Save k ∷ ss) h = first_frame g _ ss h.2

module _ (ss : List Step) (h : Fines (frame ss) false ss) where
  abbrev cs : List ℕ
  cs = codes 0 ss

  abbrev f : Option SetFrameStep
  f = frame ss

  abbrev prologue : ℕ
  prologue = length (bytes (enter ss))

  whole : 2 * (length cs / 2) ≡ length cs
  whole = omega (arith, (slots_whole f false 0 ss h).1)

  padding : length (pad (length cs)) ≡ 2 * (length cs / 2 % 2)
  padding = ap (λ n. length (pad n)) (sym whole) ∙ pad-size (length cs / 2)

  info_length : length (info_bytes ss) ≡ 4 + (length cs + length (pad (length cs)))
  info_length = omega (arith, length-append cs (pad (length cs)))

  pub info_whole : length (info_bytes ss) % 4 ≡ 0
  info_whole = omega (arith, info_length, padding, whole)

  pub info_short : length ss ≤ 10 → length (info_bytes ss) ≤ 100
  info_short few = omega (arith, info_length, padding, (slots_whole f false 0 ss h).1, (slots_whole f false 0 ss h).2)

  -- the info with its parts
  abbrev own : ℕ → InfoOf
  own at = record { flags = 0; prologue = prologue; count = length cs / 2; frame_register = frame_number f; frame_offset = frame_place f; place = at + 4; slots = cs; tail = nothing }

  header : (at : ℕ) (tail : List ℕ) → header_in at (info_bytes ss ++ tail) ≡ Ok (own at)
  header at tail =
      let b : ℕ = frame_byte f in
      let n : ℕ = length cs / 2 in
      let rest : List ℕ = (cs ++ pad (length cs)) ++ tail in
      let frames = first_frame f false ss h in
      let fits : 4 + 2 * padded n + 0 ≤ 4 + length rest = omega (arith, length-append (cs ++ pad (length cs)) tail, length-append cs (pad (length cs)), padding, whole) in
      let slots : take (2 * n) rest ≡ cs = ap (λ k. take k rest) whole ∙ ap (take (length cs)) (append_assoc cs (pad (length cs)) tail) ∙ take_at cs (pad (length cs) ++ tail) (length cs) refl in
      let made : ℕ → ℕ → List ℕ → Result InfoOf ℕ = λ register offset l. Ok (record { flags = 0; prologue = prologue; count = n; frame_register = register; frame_offset = offset; place = at + 4; slots = l; tail = nothing }) in
      cond-true _ _ _ (le-leb (4 + 2 * padded n + 0) (length (info_bytes ss ++ tail)) (omega (arith, fits)))
      ∙ cond-false _ _ _ (ap (λ r. eqb r 4) frames.0 ∙ frames.2)
      ∙ ap (λ r. made r (b / 16 * 16) (take (2 * n) rest)) frames.0
      ∙ ap (λ o. made (frame_number f) o (take (2 * n) rest)) frames.1
      ∙ ap (made (frame_number f) (frame_place f)) slots

  steps_own : (at : ℕ) → steps_in (own at) ≡ Ok (map record_of ss)
  steps_own at = walked f ss prologue h (omega arith)

  codes_own : (at : ℕ) (r : Result (List Code) InfoFault) → bind r (steps_of_codes (frame_number f) (frame_place f)) ≡ Ok (map record_of ss) → bind r (λ _. Ok (own at)) ≡ Ok (own at)
  codes_own at (Ok cs) e = refl
  codes_own at (Err d) e = let z : ◌≡◌ {A = ℕ} 0 1 = cc in absurd (omega arith)

  module _ (front tail : List ℕ) (start rva : ℕ) (at : rva ≡ start + length front) (even : rva % 4 ≡ 0) where
    abbrev area : List ℕ
    area = front ++ (info_bytes ss ++ tail)

    place : rva - start ≡ length front
    place = omega arith

    located-own : located area start rva ≡ Ok (own (rva - start))
    located-own =
        let room : rva - start + 4 ≤ length area = omega (arith, length-append front (info_bytes ss ++ tail), length-append (info_bytes ss) tail, info_length) in
        cond-true _ _ _ (and_from _ _ (eq-eqb (rva % 4) 0 even) (and_from _ _ (le-leb start rva (omega arith)) (le-leb (rva - start + 4) (length area) room)))
        ∙ ap (header_in (rva - start)) (drop_at front (info_bytes ss ++ tail) (rva - start) (sym place))
        ∙ header (rva - start) tail

    info-own : info_at area start rva ≡ Ok (own (rva - start))
    info-own =
        ap (λ r. bind (outside r) (λ i. bind (codes_of i.prologue i.frame_register i.slots) (λ _. Ok i))) located-own ∙ codes_own (rva - start) (codes_of prologue (frame_number f) cs) (steps_own (rva - start))

    pub steps_back : (e : Entry) → e.info.0 ≡ rva → function_steps area start e ≡ Ok (map record_of ss)
    steps_back e is =
        ap (λ q. bind (info_at area start q) (λ i. cond (eqb i.flags 0) (steps_in i) (Err (fault_at None 42)))) is
        ∙ ap (λ r. bind r (λ i. cond (eqb i.flags 0) (steps_in i) (Err (fault_at None 42)))) info-own
        ∙ steps_own (rva - start)
