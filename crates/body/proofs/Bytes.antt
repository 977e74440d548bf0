-- The bytes of instructions, by parts.
use Rattle.std.proofs.Common.{◌≡◌, ℕ, suc, ◌+◌, ◌*◌, ◌≤◌, List, [], ◌∷◌, ◌++◌, map, length, reverse, get_or, drop, Some, None, Option, Bor, sym, refl, ap, ◌∙◌, subst, arith}
use Rattle.std.specs.Iterator.{AlwaysYields, Yields}
use Rattle.std.specs.Iterator.Adapters.{map_source, map_callee, filter_map_source, filter_map_callee, filter_map_steps, rev_source, rev_steps}
use Rattle.std.specs.List.{filter_map, cons_option, sum_by}
use Rattle.std.specs.Option.{MatchOption, option_to_list}
use Rattle.std.specs.Slice.Iter.{iter_rest, iter_steps_back}
use Rattle.std.proofs.Math.Seq.{split_at}
use Rattle.std.proofs.lemmas.Iterator.{YieldsList, YieldsList-from_slice, YieldsList-from_map, maps}
use Rattle.std.proofs.lemmas.Iterator.Adapters.{YieldsList-from_rev_slice}
use Rattle.std.proofs.lemmas.Iterator.Consumers.{YieldsList-from_filter_map, YieldsList-so_far, YieldsList-turn, YieldsList-end}
use Rattle.std.proofs.lemmas.List.{append_assoc, append-nil, length-append, length-map, map-append, map-id, reverse-append}
use Rattle.std.proofs.lemmas.List.Sums.{sum_by-cons}
use Rattle.layout.specs.declared.cursor.Cursor.{Cursor}
use Rattle.layout.specs.Cursors.{HasRoom, wrote}
use Rattle.layout.proofs.Cursors.{room-first, room-rest, wrote-append}
use Rattle.x64.specs.Encodings.{encode}
use Rattle.x64.specs.declared.instruction.Instruction.{Instruction}
use Rattle.plan.proofs.Sizes.{bytes-short}
use Rattle.plan.specs.Bodies.{bytes, forward, backward, enter, entering, loading, popping}
use Rattle.plan.specs.Steps.{step_of, step_instruction}
use Rattle.plan.specs.declared.step.Step.{Step}
use Rattle.plan.specs.declared.step.Step.TheVariants.{Push, Allocate, SetFrame, Save}
use Rattle.plan.specs.declared.text.StepRecord.{StepRecord}
use Rattle.steps.specs.declared.set_frame.SetFrameStep.{SetFrameStep}
use denote.Param.Members.{Mut, Called}
use Rattle.std.specs.declared.iter.FilterMap.{FilterMap}
use Rattle.std.specs.declared.iter.Rev.{Rev}
use Rattle.std.specs.declared.iter.Map.{Map}
use Rattle.std.proofs.iter.Yields.{fronts}
use Rattle.std.proofs.Common.{Iter}

pub bytes-append : (is js : List Instruction) → bytes (is ++ js) ≡ bytes is ++ bytes js
unfolding bytes
bytes-append [] js = refl
bytes-append (i ∷ is) js = ap (λ l. encode i ++ l) (bytes-append is js) ∙ sym (append_assoc (encode i) (bytes is) (bytes js))

pub one : (i : Instruction) → bytes (i ∷ []) ≡ encode i
unfolding bytes
one i = append-nil (encode i)

pub none : bytes [] ≡ []
unfolding bytes
none = refl

-- one instruction or none has as many bytes
pub listed_size : (o : Option Instruction) (is : List Instruction) → option_to_list o ≡ is → (n : ℕ) → MatchOption o (n ≡ 0) (λ i. n ≡ length (encode i)) → n ≡ length (bytes is)
listed_size None is e n h = h ∙ ap length (sym none ∙ ap bytes e)
listed_size (Some i) is e n h = h ∙ ap length (sym (one i) ∙ ap bytes e)

abbrev pub instruction_size : Instruction → ℕ
instruction_size i = length (encode i)

pub bytes_sized : (is : List Instruction) → length (bytes is) ≡ sum_by instruction_size is
unfolding bytes
bytes_sized [] = refl
bytes_sized (i ∷ is) = length-append (encode i) (bytes is) ∙ ap (λ n. length (encode i) + n) (bytes_sized is) ∙ sym (sum_by-cons instruction_size i is)

forward-append : (g : Step → List Instruction) (xs ys : List Step) → forward g (xs ++ ys) ≡ forward g xs ++ forward g ys
unfolding forward
forward-append g [] ys = refl
forward-append g (x ∷ xs) ys = ap (λ l. g x ++ l) (forward-append g xs ys) ∙ sym (append_assoc (g x) (forward g xs) (forward g ys))

-- either direction has as many bytes
pub same_length : (g : Step → List Instruction) (ss : List Step) → length (bytes (backward g ss)) ≡ length (bytes (forward g ss))
unfolding backward forward
same_length g [] = refl
same_length g (s ∷ ss) =
    ap length (bytes-append (backward g ss) (g s)) ∙ length-append (bytes (backward g ss)) (bytes (g s))
    ∙ ap (λ n. n + length (bytes (g s))) (same_length g ss)
    ∙ omega (arith, ap length (bytes-append (g s) (forward g ss)), length-append (bytes (g s)) (bytes (forward g ss)))

-- with one instruction at most for each step, there are no more than steps
forward-count : (g : Step → List Instruction) → ((s : Step) → length (g s) ≤ 1) → (ss : List Step) → length (forward g ss) ≤ length ss
unfolding forward
forward-count g h [] = omega arith
forward-count g h (s ∷ ss) = omega (arith, length-append (g s) (forward g ss), h s, forward-count g h ss)

-- a part of one instruction at most for each step: no more of them than records, with 8 bytes at most for each
module _ (g : Step → List Instruction) (h : (s : Step) → length (g s) ≤ 1) (rs : List StepRecord) where
  pub part_few : length (forward g (map step_of rs)) ≤ length rs
  part_few = omega (arith, forward-count g h (map step_of rs), length-map rs step_of)

  pub part_short : length (bytes (forward g (map step_of rs))) ≤ 8 * length rs
  part_short = omega (arith, bytes-short (forward g (map step_of rs)), part_few)

-- last to first is first to last of the reverse
backward_reversed : (g : Step → List Instruction) (rs : List StepRecord) → backward g (map step_of rs) ≡ forward g (map step_of (reverse rs))
unfolding forward backward
backward_reversed g [] = refl
backward_reversed g (r ∷ rs) =
    ap (λ l. l ++ g (step_of r)) (backward_reversed g rs)
    ∙ ap (λ l. forward g (map step_of (reverse rs)) ++ l) (sym (append-nil (g (step_of r))))
    ∙ sym (forward-append g (map step_of (reverse rs)) (step_of r ∷ []))
    ∙ ap (forward g) (sym (map-append step_of (reverse rs) (r ∷ [])))
    ∙ ap (λ l. forward g (map step_of l)) (sym (reverse-append (r ∷ []) rs))

-- the prologue, one instruction for each step
enters : (rs : List StepRecord) → map (λ r. step_instruction (step_of r)) rs ≡ forward entering (map step_of rs)
unfolding forward
enters [] = refl
enters (r ∷ rs) = ap (λ l. step_instruction (step_of r) ∷ l) (enters rs)

pub yields_enter : {F : Type 0} (called : Mut F (Bor StepRecord × Unit {0}) Instruction) {f : F} (s : Map (Iter StepRecord) F) (rs : List StepRecord) → iter_rest (map_source s) ≡ rs → map_callee s ≡ f
    → ((x : Bor StepRecord) (i : Instruction) (q : F) → Called called f (x, tt) i q → (q ≡ f) × (i ≡ step_instruction (step_of x.now)))
    → AlwaysYields (maps fronts called) (λ i. i) s (enter (map step_of rs))
yields_enter called s rs e c k =
    subst (AlwaysYields (maps fronts called) (λ i. i) s) (enters rs) (YieldsList-from_map called (λ r. step_instruction (step_of r)) (YieldsList-from_slice rs e) c k).runs

-- the first instruction of a list
abbrev first : List Instruction → Option Instruction
first [] = None
first (i ∷ is) = Some i

first_listed : (o : Option Instruction) (is : List Instruction) → option_to_list o ≡ is → o ≡ first is
first_listed None is e = ap first e
first_listed (Some i) is e = ap first e

pub loads_one : (f : Option SetFrameStep) (s : Step) → option_to_list (first (loading f s)) ≡ loading f s
loads_one f (Push k) = refl
loads_one f (Allocate k) = refl
loads_one f (SetFrame k) = refl
loads_one f (Save k) = refl

pub pops_one : (s : Step) → option_to_list (first (popping s)) ≡ popping s
pops_one (Push k) = refl
pops_one (Allocate k) = refl
pops_one (SetFrame k) = refl
pops_one (Save k) = refl

cons_listed : (o : Option Instruction) (is : List Instruction) → cons_option o is ≡ option_to_list o ++ is
cons_listed None is = refl
cons_listed (Some i) is = refl

-- what g gives for steps, one instruction at most for each
module _ (g : Step → List Instruction) (h : (s : Step) → option_to_list (first (g s)) ≡ g s) where
  given : (rs : List StepRecord) → filter_map (λ r. first (g (step_of r))) rs ≡ forward g (map step_of rs)
  unfolding forward
  given [] = refl
  given (r ∷ rs) =
      cons_listed (first (g (step_of r))) (filter_map (λ x. first (g (step_of x))) rs)
      ∙ ap (λ l. l ++ filter_map (λ x. first (g (step_of x))) rs) (h (step_of r))
      ∙ ap (λ l. g (step_of r) ++ l) (given rs)

  -- for each step from the first on
  pub yields_front : {F : Type 0} (called : Mut F (Bor StepRecord × Unit {0}) (Option Instruction)) {f : F} (s : FilterMap (Iter StepRecord) F) (rs : List StepRecord) → iter_rest (filter_map_source s) ≡ rs → filter_map_callee s ≡ f
      → ((x : Bor StepRecord) (r : Option Instruction) (q : F) → Called called f (x, tt) r q → (q ≡ f) × (option_to_list r ≡ g (step_of x.now)))
      → AlwaysYields (filter_map_steps fronts called) (λ i. i) s (forward g (map step_of rs))
  yields_front called {f} s rs e c k =
      subst (AlwaysYields (filter_map_steps fronts called) (λ i. i) s) (given rs)
      (YieldsList-from_filter_map called (λ r. first (g (step_of r))) (YieldsList-from_slice rs e) c (λ x r q p. let y = k x r q p in (y.0, first_listed _ _ y.1))).runs

  pub yields_back : {F : Type 0} (called : Mut F (Bor StepRecord × Unit {0}) (Option Instruction)) {f : F} (s : FilterMap (Rev (Iter StepRecord)) F) (rs : List StepRecord) → iter_rest (rev_source (filter_map_source s)) ≡ rs → filter_map_callee s ≡ f
      → ((x : Bor StepRecord) (r : Option Instruction) (q : F) → Called called f (x, tt) r q → (q ≡ f) × (option_to_list r ≡ g (step_of x.now)))
      → AlwaysYields (filter_map_steps (rev_steps iter_steps_back) called) (λ i. i) s (backward g (map step_of rs))
  yields_back called {f} s rs e c k =
      subst (AlwaysYields (filter_map_steps (rev_steps iter_steps_back) called) (λ i. i) s) (given (reverse rs) ∙ sym (backward_reversed g rs))
      (YieldsList-from_filter_map called (λ r. first (g (step_of r))) (YieldsList-from_rev_slice rs e) c (λ x r q p. let y = k x r q p in (y.0, first_listed _ _ y.1))).runs

-- a part's instructions written one by one: those yielded by now are written
module _ {S : Type 0} (steps : S → Option Instruction → S → Type 0) (s : S) (is : List Instruction) (all : AlwaysYields steps (λ i. i) s is) (xs : List Instruction) (t : S) (y : Yields steps s xs t) where
  road : YieldsList steps (λ i. i) s is
  road = record { runs = all }

  pub all_yielded : (r : Option Instruction) (u : S) → r ≡ None → steps t r u → xs ≡ is
  all_yielded r u e n = sym (map-id xs) ∙ (YieldsList-end road xs t y r u e n).0

  module _ (r : Option Instruction) (u : S) (x : Instruction) (e : r ≡ Some x) (n : steps t r u) where
    abbrev later : List Instruction
    later = drop (suc (length xs)) is

    in_order : is ≡ xs ++ (x ∷ later)
    in_order =
        let turn = YieldsList-turn road xs t y r u x e n in
        split_at is (length xs) x turn.0
        ∙ ap (λ l. l ++ (get_or is (length xs) x ∷ later)) (sym (sym (map-id xs) ∙ YieldsList-so_far road xs t y))
        ∙ ap (λ i. xs ++ (i ∷ later)) (sym turn.1)

    module _ (c : Cursor) (h : HasRoom c (bytes is)) (d : Cursor) (w : d ≡ wrote c (bytes xs)) where
      room_all : HasRoom c (bytes xs ++ (encode x ++ bytes later))
      unfolding bytes
      room_all = subst (HasRoom c) (ap bytes in_order ∙ bytes-append xs (x ∷ later)) h

      pub room_next : HasRoom d (encode x)
      room_next = subst (λ k. HasRoom k (encode x)) (sym w) (room-first (wrote c (bytes xs)) (encode x) (bytes later) (room-rest c (bytes xs) (encode x ++ bytes later) room_all))

      pub wrote_next : (z : Cursor) → z ≡ wrote d (encode x) → z ≡ wrote c (bytes (xs ++ x ∷ []))
      wrote_next z q =
          q ∙ ap (λ k. wrote k (encode x)) w ∙ wrote-append c (bytes xs) (encode x) (room-first c (bytes xs) (encode x ++ bytes later) room_all)
          ∙ ap (wrote c) (ap (λ l. bytes xs ++ l) (sym (one x)) ∙ sym (bytes-append xs (x ∷ [])))
