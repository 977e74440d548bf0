-- Codes read one after another: what is left of the slots gives what is left of the answer.
use Rattle.std.proofs.Common.{◌≡◌, ℕ, zero, suc, ◌+◌, ◌*◌, ◌<◌, ◌≤◌, List, [], ◌∷◌, ◌++◌, length, drop, Some, Ok, Err, Result, sym, refl, ap, ◌∙◌, arith}
use Rattle.std.proofs.lemmas.List.{length-drop, append_assoc, append-nil}
use Rattle.std.proofs.lemmas.Bool.{le-leb, lt-leb}
use Rattle.infos.specs.Codes.{bind, decoded_in}
use Rattle.infos.specs.Refusals.{InfoFault, at_slot}
use Rattle.infos.specs.Sequences.{admitted, codes_from, codes_of, before_codes}
use Rattle.infos.specs.declared.code.Code.{Code}
use Rattle.infos.specs.declared.sequence.Progress.{Progress}

abbrev Codes : Type 0
Codes = Result (List Code) InfoFault

-- codes in front of an answer
abbrev pub prefixed : List Code → Codes → Codes
prefixed ds r = bind r (λ cs. Ok (ds ++ cs))

-- with the codes done read, the bytes from a slot on and the progress give the rest of the answer
pub record Left (all : Codes) (frame : ℕ) (s : Progress) (slot : ℕ) (bs : List ℕ) (done : List Code) : Type 0 where
  pub fuel : ℕ
  pub enough : length bs ≤ fuel
  pub same : all ≡ prefixed done (codes_from fuel frame s slot bs)

prefixed_more : (ds : List Code) (c : Code) (r : Codes) → prefixed ds (bind r (λ cs. Ok (c ∷ cs))) ≡ prefixed (ds ++ c ∷ []) r
prefixed_more ds c (Ok cs) = ap Ok (sym (append_assoc ds (c ∷ []) cs))
prefixed_more ds c (Err e) = refl

prefixed_none : (r : Codes) → r ≡ prefixed [] r
prefixed_none (Ok cs) = refl
prefixed_none (Err e) = refl

-- before the first code
pub start : (prologue frame : ℕ) (bs : List ℕ) → Left (codes_of prologue frame bs) frame (before_codes prologue) 0 bs []
unfolding codes_of
start prologue frame bs = record { fuel = length bs; enough = omega arith; same = prefixed_none (codes_from (length bs) frame (before_codes prologue) 0 bs) }

-- one turn of the recursion
module _ (k frame : ℕ) (s : Progress) (slot : ℕ) (bs : List ℕ) (h : 2 ≤ length bs) where
  turn_step : (t : Progress) (used : ℕ) (c : Code) → at_slot (Some slot) (decoded_in slot bs) ≡ Ok (c, used) → at_slot (Some slot) (admitted frame s c) ≡ Ok t →
      codes_from (suc k) frame s slot bs ≡ bind (codes_from k frame t (slot + used) (drop (2 * used) bs)) (λ cs. Ok (c ∷ cs))
  unfolding codes_from
  turn_step t used c d a = rw (le-leb 2 (length bs) h, d, a)

ended_at : (k frame : ℕ) (s : Progress) (slot : ℕ) (bs : List ℕ) (done : List Code) → length bs < 2 → prefixed done (codes_from k frame s slot bs) ≡ Ok done
unfolding codes_from
ended_at zero frame s slot bs done h = rw (append-nil done)
ended_at (suc k) frame s slot bs done h = rw (lt-leb 2 (length bs) h, append-nil done)

module _ (all : Codes) (frame : ℕ) (s : Progress) (slot : ℕ) (bs : List ℕ) (done : List Code) where
  step_at : (k : ℕ) → length bs ≤ k → all ≡ prefixed done (codes_from k frame s slot bs) → 2 ≤ length bs → (t : Progress) (used : ℕ) (c : Code) → 1 ≤ used →
      at_slot (Some slot) (decoded_in slot bs) ≡ Ok (c, used) → at_slot (Some slot) (admitted frame s c) ≡ Ok t → Left all frame t (slot + used) (drop (2 * used) bs) (done ++ c ∷ [])
  step_at zero l e h t used c u d a = absurd (omega arith)
  step_at (suc k) l e h t used c u d a =
      record {
        fuel = k;
        enough = omega (arith, length-drop (2 * used) bs);
        same = e ∙ ap (prefixed done) (turn_step k frame s slot bs h t used c d a) ∙ prefixed_more done c (codes_from k frame t (slot + used) (drop (2 * used) bs));
      }

module _ {all : Codes} {frame : ℕ} {s : Progress} {slot : ℕ} {bs : List ℕ} {done : List Code} (l : Left all frame s slot bs done) where
  -- one more code
  pub step : 2 ≤ length bs → (t : Progress) (used : ℕ) (c : Code) → 1 ≤ used → at_slot (Some slot) (decoded_in slot bs) ≡ Ok (c, used) → at_slot (Some slot) (admitted frame s c) ≡ Ok t →
      Left all frame t (slot + used) (drop (2 * used) bs) (done ++ c ∷ [])
  step h t used c u d a = step_at all frame s slot bs done l.fuel l.enough l.same h t used c u d a

  -- no slot left
  pub ended : length bs < 2 → all ≡ Ok done
  ended h = l.same ∙ ended_at l.fuel frame s slot bs done h
