-- The records while one function after another is written.
use Rattle.std.proofs.Common.{◌≡◌, ℕ, ◌+◌, ◌<◌, ◌≤◌, true, List, [], ◌∷◌, ◌++◌, map, length, get_or, take, drop, set, is_ok, Ok, Result, sym, refl, ap, ◌∙◌, arith}
use Rattle.std.proofs.lemmas.List.{append-nil, append_assoc, length-append, length-map, length_push, map_push}
use Rattle.infos.specs.Refusals.{InfoFault}
use Rattle.plan.specs.declared.text.Counts.{Counts}
use Rattle.plan.specs.declared.text.StepRecord.{StepRecord}
use Rattle.tables.proofs.Fill.{put_next}
use Rattle.tables.specs.declared.entry.Entry.{Entry}
use Rattle.readback.specs.Readings.{function_steps, read_steps, joint, found, counts_of}
use Rattle.readback.proofs.Passes.{found_is, read_more, read_all, first_left, joint-nil, joint-append, joint_push, write_more}

module _ (area : List ℕ) (start : ℕ) (es : List Entry) where
  abbrev all : Result (List (List StepRecord)) InfoFault
  all = read_steps area start es

  -- k functions are written, with so many steps
  pub record Written (k at : ℕ) (fs oldf : List Counts) (ss olds : List StepRecord) : Type 0 where
    pub done : List (List StepRecord)
    pub rest : List (List StepRecord)
    pub functions_done : length done ≡ k
    pub steps_done : length (joint done) ≡ at
    pub whole : found all ≡ done ++ rest
    pub left : read_steps area start (drop k es) ≡ Ok rest
    pub functions_are : fs ≡ map counts_of done ++ drop k oldf
    pub steps_are : ss ≡ joint done ++ drop at olds

  pub written_none : (oldf : List Counts) (olds : List StepRecord) → is_ok all ≡ true → Written 0 0 oldf oldf olds olds
  written_none oldf olds ok =
      record {
        done = [];
        rest = found all;
        functions_done = refl;
        steps_done = ap length joint-nil;
        whole = refl;
        left = found_is all ok;
        functions_are = refl;
        steps_are = sym (ap (λ l. l ++ olds) joint-nil);
      }

  module _ (k at : ℕ) (fs oldf : List Counts) (ss olds : List StepRecord) (w : Written k at fs oldf ss olds) where
    module _ (h : k < length es) (d : Entry) where
      abbrev own : Result (List StepRecord) InfoFault
      own = function_steps area start (get_or es k d)

      next : (s : List StepRecord) × (others : List (List StepRecord)) × (own ≡ Ok s) × (read_steps area start (drop (k + 1) es) ≡ Ok others) × (w.rest ≡ s ∷ others)
      next = first_left own (read_steps area start (drop (k + 1) es)) w.rest (sym w.left ∙ read_more area start es k d h)

      all_is : found all ≡ (w.done ++ next.0 ∷ []) ++ next.1
      all_is = w.whole ∙ ap (λ l. w.done ++ l) next.4 ∙ sym (append_assoc w.done (next.0 ∷ []) next.1)

      pub own_good : is_ok own ≡ true
      own_good = ap is_ok next.2

      own_is : found own ≡ next.0
      own_is = ap found next.2

      pub own_fits : at + length (found own) ≤ length (joint (found all))
      own_fits =
          let n : length (found own) ≡ length next.0 = ap length own_is in
          let whole : length (joint (found all)) ≡ length (joint w.done ++ next.0) + length (joint next.1) = ap (λ l. length (joint l)) all_is ∙ ap length (joint-append (w.done ++ next.0 ∷ []) next.1) ∙ length-append (joint (w.done ++ next.0 ∷ [])) (joint next.1) ∙ ap (λ l. length l + length (joint next.1)) (joint_push w.done next.0) in
          let front : length (joint w.done ++ next.0) ≡ length (joint w.done) + length next.0 = length-append (joint w.done) next.0 in
          let done : length (joint w.done) ≡ at = w.steps_done in
          omega arith

      pub written_more : (n : ℕ) (after : List StepRecord) → k < length oldf → n ≡ length (found own) → after ≡ take at ss ++ (found own ++ drop (at + length (found own)) ss) →
          Written (k + 1) (at + n) (set fs k (record { steps = n; operations = 0 })) oldf after olds
      written_more n after room count is =
          let s : List StepRecord = next.0 in
          let size : n ≡ length s = count ∙ ap length own_is in
          let counts : Counts = record { steps = n; operations = 0 } in
          let put = put_next (map counts_of w.done) oldf k counts (length-map w.done counts_of ∙ w.functions_done) room in
          record {
            done = w.done ++ s ∷ [];
            rest = next.1;
            functions_done = length_push w.done s ∙ ap (λ m. m + 1) w.functions_done;
            steps_done = ap length (joint_push w.done s) ∙ length-append (joint w.done) s ∙ ap (λ m. m + length s) w.steps_done ∙ ap (λ m. at + m) (sym size);
            whole = all_is;
            left = next.3;
            functions_are = ap (λ l. set l k counts) w.functions_are ∙ put ∙ ap (λ m. (map counts_of w.done ++ record { steps = m; operations = 0 } ∷ []) ++ drop (k + 1) oldf) size ∙ ap (λ l. l ++ drop (k + 1) oldf) (sym (map_push counts_of w.done s));
            steps_are =
                is ∙ ap (λ x. take at ss ++ (x ++ drop (at + length x) ss)) own_is
                ∙ ap (λ l. take at l ++ (s ++ drop (at + length s) l)) w.steps_are
                ∙ write_more (joint w.done) olds s at w.steps_done
                ∙ ap (λ l. l ++ drop (at + length s) olds) (sym (joint_push w.done s))
                ∙ ap (λ m. joint (w.done ++ s ∷ []) ++ drop (at + m) olds) (sym size);
          }

    -- all are written
    pub written_all : length es ≤ k → k ≤ length es → (fs ≡ map counts_of (found all) ++ drop (length es) oldf) × (ss ≡ joint (found all) ++ drop (length (joint (found all))) olds)
    written_all h g =
        let none : w.rest ≡ [] = ap found (sym w.left ∙ read_all area start es k h) in
        let whole : found all ≡ w.done = w.whole ∙ ap (λ l. w.done ++ l) none ∙ append-nil w.done in
        let same : k ≡ length es = omega arith in
        let size : at ≡ length (joint (found all)) = sym w.steps_done ∙ ap (λ l. length (joint l)) (sym whole) in (
          w.functions_are ∙ ap (λ l. map counts_of l ++ drop k oldf) (sym whole) ∙ ap (λ m. map counts_of (found all) ++ drop m oldf) same,
          w.steps_are ∙ ap (λ l. joint l ++ drop at olds) (sym whole) ∙ ap (λ m. joint (found all) ++ drop m olds) size,
        )
