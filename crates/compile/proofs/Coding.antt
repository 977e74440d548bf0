-- The codes of steps, step by step.
use Rattle.std.proofs.Common.{◌≡◌, ℕ, ◌+◌, ◌-◌, ◌/◌, ◌<◌, ◌≤◌, Bool, true, false, cond, leb, List, [], ◌∷◌, ◌++◌, map, length, Option, sym, refl, ap, ◌∙◌, subst, arith}
use Rattle.std.specs.List.{sum_by}
use Rattle.std.proofs.lemmas.List.{length-append, append_assoc, append-nil, map-append}
use Rattle.std.proofs.lemmas.List.Sums.{sum_by-cons}
use Rattle.layout.specs.Cursors.{HasRoom, wrote}
use Rattle.layout.specs.declared.cursor.Cursor.{Cursor}
use Rattle.layout.proofs.Cursors.{Rest, begin, recast, room, step, finish}
use Rattle.x64.specs.Encodings.{encode, four}
use Rattle.steps.specs.Kinds.{two}
use Rattle.steps.specs.declared.set_frame.SetFrameStep.{SetFrameStep}
use Rattle.plan.specs.Bodies.{bytes, forward, enter, entering}
use Rattle.plan.specs.Steps.{AllSound, step_of, step_instruction, step_code, frame, Sound}
use Rattle.plan.specs.UnwindInfos.{codes, frame_byte, pad, info_bytes}
use Rattle.plan.specs.declared.step.Step.{Step}
use Rattle.plan.specs.declared.step.Step.TheVariants.{Push, Allocate, SetFrame, Save}
use Rattle.plan.specs.declared.text.StepRecord.{StepRecord}
use Rattle.body.proofs.Bytes.{bytes-append, one}

three_ways : (a b : Bool) (end x y n m : ℕ) → length (cond a (end ∷ x ∷ []) (cond b (end ∷ y ∷ two n) (end ∷ 17 ∷ four m))) ≡ length (cond a (0 ∷ x ∷ []) (cond b (0 ∷ y ∷ two n) (0 ∷ 17 ∷ four m)))
three_ways true b end x y n m = refl
three_ways false true end x y n m = refl
three_ways false false end x y n m = refl

two_ways : (a : Bool) (end x y n m : ℕ) → length (cond a (end ∷ x ∷ two n) (end ∷ y ∷ four m)) ≡ length (cond a (0 ∷ x ∷ two n) (0 ∷ y ∷ four m))
two_ways true end x y n m = refl
two_ways false end x y n m = refl

-- a code's size does not hang on its offset
code-length : (end : ℕ) (s : Step) → length (step_code end s) ≡ length (step_code 0 s)
code-length end (Push k) = refl
code-length end (Allocate k) = three_ways (leb k.size 128) (leb k.size 524280) end _ _ _ _
code-length end (SetFrame k) = refl
code-length end (Save k) = two_ways (leb k.offset 524280) end _ _ _ _

-- how many bytes the code of a record's step has
abbrev pub code_bytes : StepRecord → ℕ
code_bytes r = length (step_code 0 (step_of r))

pub codes_sized : (from : ℕ) (rs : List StepRecord) → length (codes from (map step_of rs)) ≡ sum_by code_bytes rs
unfolding codes
codes_sized from [] = refl
codes_sized from (r ∷ rs) =
    let end = from + length (encode (step_instruction (step_of r))) in
    let a = length-append (codes end (map step_of rs)) (step_code end (step_of r)) in
    let b = codes_sized end rs in
    let c = code-length end (step_of r) in
    omega (arith, a, b, c, sum_by-cons code_bytes r rs)

enter-cons : (s : Step) (ss : List Step) → length (bytes (enter (s ∷ ss))) ≡ length (encode (step_instruction s)) + length (bytes (enter ss))
unfolding forward
enter-cons s ss =
    let a = ap length (bytes-append (entering s) (enter ss)) in
    let b = length-append (bytes (entering s)) (bytes (enter ss)) in
    let c = ap length (one (step_instruction s)) in
    omega (arith, a, b, c)

pub enter_push : (ss : List Step) (s : Step) → length (bytes (enter (ss ++ s ∷ []))) ≡ length (bytes (enter ss)) + length (encode (step_instruction s))
unfolding forward bytes
enter_push [] s = omega (arith, enter-cons s [])
enter_push (x ∷ ss) s =
    let a = enter-cons x (ss ++ s ∷ []) in
    let b = enter-cons x ss in
    let c = enter_push ss s in
    omega (arith, a, b, c)

codes_push : (from : ℕ) (ss : List Step) (s : Step) → codes from (ss ++ s ∷ []) ≡ step_code (from + length (bytes (enter ss)) + length (encode (step_instruction s))) s ++ codes from ss
unfolding codes forward bytes
codes_push from [] s =
    let place : from + length (encode (step_instruction s)) ≡ from + length (bytes (enter [])) + length (encode (step_instruction s)) = omega arith in
    ap (λ e. step_code e s) place ∙ sym (append-nil _)
codes_push from (x ∷ ss) s =
    let end = from + length (encode (step_instruction x)) in
    let place : end + length (bytes (enter ss)) + length (encode (step_instruction s)) ≡ from + length (bytes (enter (x ∷ ss))) + length (encode (step_instruction s)) = omega (arith, enter-cons x ss) in
    ap (λ l. l ++ step_code end x) (codes_push end ss s)
    ∙ append_assoc (step_code (end + length (bytes (enter ss)) + length (encode (step_instruction s))) s) (codes end ss) (step_code end x)
    ∙ ap (λ e. step_code e s ++ (codes end ss ++ step_code end x)) place

sound_push : (ss : List Step) (s : Step) → AllSound (ss ++ s ∷ []) → AllSound ss × Sound s
sound_push [] s a = (tt, a.0)
sound_push (x ∷ ss) s a = let p = sound_push ss s a.1 in ((a.0, p.0), p.1)

-- what is left to write, where the codes of these steps are left, last to first
pub record Coded (c₀ : Cursor) (whole : List ℕ) (c : Cursor) (end : ℕ) (left : List StepRecord) : Type 0 where
  pub sound : AllSound (map step_of left)
  pub rest : Rest c₀ whole c (codes 0 (map step_of left))
  pub place : end ≡ length (bytes (enter (map step_of left)))
  pub low : end < 256

pub coded_none : (c : Cursor) (rs : List StepRecord) → HasRoom c (codes 0 (map step_of rs)) → AllSound (map step_of rs) → (end : ℕ) → end ≡ length (bytes (enter (map step_of rs))) → end < 256
    → Coded c (codes 0 (map step_of rs)) c end rs
coded_none c rs h a end e low = record { sound = a; rest = begin c (codes 0 (map step_of rs)) h; place = e; low = low }

-- the next step from the back: what writing its code asks for, and what is left then
pub record Turn (c₀ : Cursor) (whole : List ℕ) (c : Cursor) (end : ℕ) (later : List StepRecord) (s : Step) : Type 0 where
  pub sound : Sound s
  pub has_room : HasRoom c (step_code end s)
  pub fits : length (encode (step_instruction s)) ≤ end
  pub on : (d : Cursor) → d ≡ wrote c (step_code end s) → (n : ℕ) → n ≡ length (encode (step_instruction s)) → Coded c₀ whole d (end - n) later

module _ {c₀ : Cursor} {whole : List ℕ} {c : Cursor} {end : ℕ} {left : List StepRecord} (w : Coded c₀ whole c end left) (later : List StepRecord) (r : StepRecord) (cons : left ≡ later ++ r ∷ []) (s : Step) (e : s ≡ step_of r) where
  steps_are : map step_of left ≡ map step_of later ++ s ∷ []
  steps_are = ap (map step_of) cons ∙ map-append step_of later (r ∷ []) ∙ ap (λ x. map step_of later ++ x ∷ []) (sym e)

  sounds : AllSound (map step_of later) × Sound s
  sounds = sound_push (map step_of later) s (subst AllSound steps_are w.sound)

  ends : end ≡ length (bytes (enter (map step_of later))) + length (encode (step_instruction s))
  ends = w.place ∙ ap (λ l. length (bytes (enter l))) steps_are ∙ enter_push (map step_of later) s

  code-next : Rest c₀ whole c (step_code end s ++ codes 0 (map step_of later))
  code-next =
      let place : 0 + length (bytes (enter (map step_of later))) + length (encode (step_instruction s)) ≡ end = omega (arith, ends) in
      recast w.rest (ap (codes 0) steps_are ∙ codes_push 0 (map step_of later) s ∙ ap (λ k. step_code k s ++ codes 0 (map step_of later)) place)

  pub coded_turn : Turn c₀ whole c end later s
  coded_turn = record {
    sound = sounds.1;
    has_room = room _ _ code-next;
    fits = omega (arith, ends);
    on = λ d q n h. record { sound = sounds.0; rest = step _ _ code-next d q; place = omega (arith, ends, h); low = omega (arith, w.low) };
  }

pub coded_all : {c₀ : Cursor} {whole : List ℕ} {c : Cursor} {end : ℕ} (left : List StepRecord) → Coded c₀ whole c end left → length left ≡ 0 → c ≡ wrote c₀ whole
unfolding codes
coded_all [] w none = finish w.rest
coded_all (r ∷ left) w none = absurd (omega (arith, none))

-- the frame register and its offset make a byte
pub frame-fits : (ss : List Step) → AllSound ss → frame_byte (frame ss) < 256
unfolding frame
frame-fits [] a = omega arith
frame-fits (Push k ∷ ss) a = frame-fits ss a.1
frame-fits (Allocate k ∷ ss) a = frame-fits ss a.1
frame-fits (SetFrame k ∷ ss) a = omega (arith, a.0.1, a.0.2)
frame-fits (Save k ∷ ss) a = frame-fits ss a.1

-- an info in the form in which it is written: a header first
module _ (c : Cursor) (ss : List Step) (h : HasRoom c (info_bytes ss)) (prologue size : ℕ) (p : prologue ≡ length (bytes (enter ss))) (n : size ≡ length (codes 0 ss))
    (fr : Option SetFrameStep) (e : fr ≡ frame ss) (byte : ℕ) (f : byte ≡ frame_byte fr) where
  abbrev header : List ℕ
  header = 1 ∷ prologue ∷ size / 2 ∷ byte ∷ []

  in_parts : Rest c (info_bytes ss) c (header ++ (codes 0 ss ++ pad size))
  in_parts =
      recast (begin c (info_bytes ss) h)
      (ap (λ k. (1 ∷ k ∷ length (codes 0 ss) / 2 ∷ frame_byte (frame ss) ∷ []) ++ (codes 0 ss ++ pad (length (codes 0 ss)))) (sym p)
      ∙ ap (λ k. (1 ∷ prologue ∷ k / 2 ∷ frame_byte (frame ss) ∷ []) ++ (codes 0 ss ++ pad k)) (sym n)
      ∙ ap (λ k. (1 ∷ prologue ∷ size / 2 ∷ k ∷ []) ++ (codes 0 ss ++ pad size)) (sym (f ∙ ap frame_byte e)))

  pub header_room : HasRoom c header
  header_room = room header (codes 0 ss ++ pad size) in_parts

  pub headed : (d : Cursor) → d ≡ wrote c header → Rest c (info_bytes ss) d (codes 0 ss ++ pad size)
  headed d q = step header (codes 0 ss ++ pad size) in_parts d q

pub info_length : (ss : List Step) (size : ℕ) → size ≡ length (codes 0 ss) → length (info_bytes ss) ≡ 4 + size + length (pad size)
info_length ss size n =
    let a = length-append (codes 0 ss) (pad (length (codes 0 ss))) in
    let b = ap (λ k. length (pad k)) n in
    omega (arith, a, b, n)
