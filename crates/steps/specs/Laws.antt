-- Undoing after the effect, with any later state in between.
use Rattle.std.specs.Prelude.{◌≡◌, ℕ, ◌+◌, ◌-◌, ◌%◌, ◌^◌, ◌<◌, ◌≤◌, Bool, true, false, ◌||◌, ◌≢◌, List, length, Some, take, drop, set, ◌==◌, nat_le, slice_index, slice_set, refl}
use Rattle.std.proofs.Common.{sym, ap, ◌∙◌, ⊎_elim, arith}
use Rattle.std.proofs.lemmas.List.{get_or-set_same, get_or-set_other, length-set, drop-drop}
use Rattle.std.proofs.lemmas.Bool.{and_parts, leb-true, le-leb, lt-ltb, ne_eqb, cases_eq, cond-true, true≢false, or_parts, eqb-false}
use Rattle.layout.specs.Registers.{preserved}
use Rattle.layout.specs.Words.{le_value, le_bytes, le_at, overwritten, with_word}
use Rattle.layout.proofs.Cursors.{length-overwritten}
use Rattle.layout.proofs.Words.{word_back, length-le_bytes}
use Rattle.x64.specs.declared.instruction.Instruction.TheVariants.{Push, SubRsp, LeaAtRsp, StoreAtRsp}
use Rattle.cpu.specs.Effects.{below, moved, signed}
use Rattle.cpu.specs.Performance.{settles}
use Rattle.steps.specs.Kinds.{readable, undo_push, undo_allocate, undo_frame, undo_save}
use Rattle.cpu.specs.Processors.{State}
use Rattle.steps.specs.States.{value, rsp, word, after, allowed, Sixteen, GivesBack, Later}

-- RSP is no preserved register
not_rsp : (r : ℕ) → preserved r ≡ true → r ≢ 4
not_rsp r p e = true≢false (sym p ∙ ap preserved e)

-- the word where a word was put
put_back : (stack : List ℕ) (at v : ℕ) → at + 8 ≤ length stack → v < 2 ^ 64 → le_at 8 (with_word 8 stack at v) at ≡ v
put_back stack at v h small =
    let put : with_word 8 stack at v ≡ overwritten stack at (le_bytes 8 v) = cond-true _ _ _ (le-leb (at + 8) (length stack) h) in
    let new : List ℕ = le_bytes 8 v in
    let fits : at + 8 ≤ length (overwritten stack at new) = omega (arith, length-le_bytes 8 v, length-overwritten stack at new (omega (arith, length-le_bytes 8 v))) in
    let back : Some (le_at 8 (overwritten stack at new) at) ≡ Some v = sym (cond-true _ _ _ (le-leb _ _ fits)) ∙ word_back 8 stack at v (omega arith) h in
    ap (λ l. le_at 8 l at) put ∙ cc

-- a state comes after itself
pub at_once : (but : ℕ → Bool) (e : State) → length e.registers.integer ≡ 16 → Later but e e
at_once but e wide = (wide, refl, refl, refl, λ r p b. refl)

-- a state with fewer exceptions
pub but_none : (own : ℕ → Bool) (s u : State) → GivesBack (λ r. own r || false) s u → GivesBack own s u
but_none own s u g = (g.0, λ r p o. g.1 r p (ap (λ b. b || false) o))

-- a later state shows the word at RSP that was there
seen : {but : ℕ → Bool} (e t : State) → Later but e t → word t (rsp t) ≡ word e (rsp e)
seen e t later =
    let place : rsp t - t.low ≡ rsp e - e.low = omega (arith, later.1, later.2) in
    ap (λ i. le_at 8 t.stack i) place ∙ ap (λ l. le_value (take 8 l)) later.3

module _ (r : ℕ) (s : State) (p : preserved r ≡ true) (l : r < 16) (k : Sixteen s) (room : 8 ≤ rsp s) (ok : allowed (Push r) s ≡ true) where
  pushed_rsp : rsp (after (Push r) s) ≡ rsp s - 8
  pushed_rsp = get_or-set_same s.registers.integer 4 _ 0 (omega (arith, k.0)) ∙ omega (arith, k.1 4)

  spot : rsp (after (Push r) s) ≡ below (rsp s)
  spot = get_or-set_same s.registers.integer 4 _ 0 (omega (arith, k.0))

  pushed_word : word (after (Push r) s) (below (rsp s)) ≡ value s r
  pushed_word =
      let parts = and_parts (readable s (below (rsp s))) (settles s.low (length s.stack) (below (rsp s))) ok in
      let held = and_parts (nat_le s.low (below (rsp s))) (nat_le (below (rsp s) + 8) (s.low + length s.stack)) parts.0 in
      let a : s.low ≤ below (rsp s) = leb-true _ _ held.0 in
      let b : below (rsp s) + 8 ≤ s.low + length s.stack = leb-true _ _ held.1 in
      put_back s.stack (below (rsp s) - s.low) (value s r) (omega arith) (k.1 r)

  -- a push, undone later
  pub push_restores : (t : State) (lost : ℕ → Bool) → Later (λ q. (q == r) || lost q) (after (Push r) s) t → GivesBack lost s (undo_push r t)
  push_restores t lost later =
      let e : State = after (Push r) s in
      let low : rsp t ≡ rsp s - 8 = later.2 ∙ pushed_rsp in
      let wide : length t.registers.integer ≡ 16 = later.0 in
      let got : word t (rsp t) ≡ value s r = seen e t later ∙ ap (word e) spot ∙ pushed_word in
      let mid : List ℕ = set t.registers.integer r (word t (rsp t)) in
      let four : 4 < length mid = simp length-set (omega arith) in (
        get_or-set_same mid 4 (rsp t + 8) 0 four ∙ omega arith,
        λ q pq lq.
            let n : q ≢ 4 = not_rsp q pq in
            get_or-set_other mid 4 q (rsp t + 8) 0 n ∙ ⊎_elim
            (λ (e : q ≡ r). ap (λ x. slice_index mid x) e ∙ get_or-set_same t.registers.integer r (word t (rsp t)) 0 (omega arith) ∙ got ∙ ap (value s) (sym e))
            (λ (d : q ≡ r → ⊥). get_or-set_other t.registers.integer r q (word t (rsp t)) 0 d ∙ later.4 q pq (ap (λ b. b || lost q) (ne_eqb q r d) ∙ lq) ∙ get_or-set_other s.registers.integer 4 q _ 0 n)
            (cases_eq q r),
      )

-- an allocate, undone later
module _ (n : ℕ) (s : State) (small : n < 2 ^ 31) (k : Sixteen s) (room : n ≤ rsp s) where
  lowered_rsp : rsp (after (SubRsp n) s) ≡ rsp s - n
  lowered_rsp =
      let plain : signed n ≡ n = cond-true _ _ _ (lt-ltb n (2 ^ 31) small) in
      get_or-set_same s.registers.integer 4 _ 0 (omega (arith, k.0)) ∙ ap (λ d. (rsp s + (2 ^ 64 - d)) % 2 ^ 64) plain ∙ omega (arith, k.1 4)

  pub allocate_restores : (t : State) (lost : ℕ → Bool) → Later lost (after (SubRsp n) s) t → GivesBack lost s (undo_allocate n t)
  allocate_restores t lost later =
      let low : rsp t ≡ rsp s - n = later.2 ∙ lowered_rsp in
      let wide : length t.registers.integer ≡ 16 = later.0 in (
        get_or-set_same t.registers.integer 4 (rsp t + n) 0 (omega arith) ∙ omega arith,
        λ q pq lq.
            let ne : q ≢ 4 = not_rsp q pq in
            get_or-set_other t.registers.integer 4 q (rsp t + n) 0 ne ∙ later.4 q pq lq ∙ get_or-set_other s.registers.integer 4 q _ 0 ne,
      )

-- a set-frame, undone later
module _ (f o : ℕ) (s : State) (p : preserved f ≡ true) (l : f < 16) (small : o < 2 ^ 31) (k : Sixteen s) (room : rsp s + o < 2 ^ 64) where
  abbrev framed : List ℕ
  framed = slice_set s.registers.integer f (moved (rsp s) o)

  frame_value : value (after (LeaAtRsp f o) s) f ≡ rsp s + o
  frame_value =
      let plain : signed o ≡ o = cond-true _ _ _ (lt-ltb o (2 ^ 31) small) in
      get_or-set_other framed 4 f (rsp s) 0 (not_rsp f p) ∙ get_or-set_same s.registers.integer f (moved (rsp s) o) 0 (omega (arith, k.0)) ∙ ap (λ d. (rsp s + d) % 2 ^ 64) plain ∙ omega arith

  framed_rsp : rsp (after (LeaAtRsp f o) s) ≡ rsp s
  framed_rsp =
      let four : 4 < length framed = simp length-set (omega (arith, k.0)) in
      get_or-set_same framed 4 (rsp s) 0 four

  pub frame_restores : (t : State) (lost : ℕ → Bool) → lost f ≡ false → Later lost (after (LeaAtRsp f o) s) t → GivesBack (λ q. (q == f) || lost q) s (undo_frame f o t)
  frame_restores t lost keeps later =
      let wide : length t.registers.integer ≡ 16 = later.0 in
      let at : value t f ≡ rsp s + o = later.4 f p keeps ∙ frame_value in (
        get_or-set_same t.registers.integer 4 (value t f - o) 0 (omega arith) ∙ omega arith,
        λ q pq lq.
            let ne : q ≢ 4 = not_rsp q pq in
            let apart : ((q == f) ≡ false) × (lost q ≡ false) = or_parts (q == f) (lost q) lq in
            let other : q ≢ f = eqb-false q f apart.0 in
            get_or-set_other t.registers.integer 4 q (value t f - o) 0 ne ∙ later.4 q pq apart.1
            ∙ get_or-set_other framed 4 q (rsp s) 0 ne ∙ get_or-set_other s.registers.integer f q (moved (rsp s) o) 0 other,
      )

-- a later state shows the words above RSP that were there
seen_at : {but : ℕ → Bool} (e t : State) (o : ℕ) → e.low ≤ rsp e → Later but e t → word t (rsp t + o) ≡ word e (rsp e + o)
seen_at e t o in_area later =
    let i : ℕ = rsp e - e.low in
    let place : rsp t + o - t.low ≡ i + o = omega (arith, later.1, later.2) in
    let there : rsp e + o - e.low ≡ i + o = omega arith in
    ap (λ j. le_at 8 t.stack j) place ∙ ap (λ l. le_value (take 8 l)) (sym (drop-drop o i t.stack) ∙ ap (drop o) later.3 ∙ drop-drop o i e.stack) ∙ ap (λ j. le_at 8 e.stack j) (sym there)

-- a save, undone later
module _ (r o : ℕ) (s : State) (p : preserved r ≡ true) (l : r < 16) (small : o < 2 ^ 31) (k : Sixteen s) (room : rsp s + o < 2 ^ 64) (ok : allowed (StoreAtRsp r o) s ≡ true) where
  there : moved (rsp s) o ≡ rsp s + o
  there =
      let plain : signed o ≡ o = cond-true _ _ _ (lt-ltb o (2 ^ 31) small) in
      ap (λ d. (rsp s + d) % 2 ^ 64) plain ∙ omega arith

  saved_rsp : rsp (after (StoreAtRsp r o) s) ≡ rsp s
  saved_rsp = get_or-set_same s.registers.integer 4 (rsp s) 0 (omega (arith, k.0))

  areas : (s.low ≤ moved (rsp s) o) × (moved (rsp s) o + 8 ≤ s.low + length s.stack) × (s.low ≤ rsp s)
  areas =
      let parts = and_parts (readable s (moved (rsp s) o)) (settles s.low (length s.stack) (rsp s)) ok in
      let held = and_parts (nat_le s.low (moved (rsp s) o)) (nat_le (moved (rsp s) o + 8) (s.low + length s.stack)) parts.0 in
      let stands = and_parts (nat_le s.low (rsp s)) (nat_le (rsp s) (s.low + length s.stack)) parts.1 in
      (leb-true _ _ held.0, leb-true _ _ held.1, leb-true _ _ stands.0)

  saved_word : word (after (StoreAtRsp r o) s) (moved (rsp s) o) ≡ value s r
  saved_word = put_back s.stack (moved (rsp s) o - s.low) (value s r) (omega (arith, areas.0, areas.1)) (k.1 r)

  pub save_restores : (t : State) (lost : ℕ → Bool) → Later (λ q. (q == r) || lost q) (after (StoreAtRsp r o) s) t → GivesBack lost s (undo_save r o t)
  save_restores t lost later =
      let e : State = after (StoreAtRsp r o) s in
      let wide : length t.registers.integer ≡ 16 = later.0 in
      let stands : e.low ≤ rsp e = omega (arith, saved_rsp, areas.2) in
      let sum : rsp e + o ≡ moved (rsp s) o = ap (λ x. x + o) saved_rsp ∙ sym there in
      let got : word t (rsp t + o) ≡ value s r = seen_at e t o stands later ∙ ap (word e) sum ∙ saved_word in (
        get_or-set_other t.registers.integer r 4 (word t (rsp t + o)) 0 (λ x. not_rsp r p (sym x)) ∙ later.2 ∙ saved_rsp,
        λ q pq lq.
            let ne : q ≢ 4 = not_rsp q pq in
            ⊎_elim
            (λ (x : q ≡ r). ap (λ y. slice_index (slice_set t.registers.integer r (word t (rsp t + o))) y) x ∙ get_or-set_same t.registers.integer r (word t (rsp t + o)) 0 (omega arith) ∙ got ∙ ap (value s) (sym x))
            (λ (d : q ≡ r → ⊥). get_or-set_other t.registers.integer r q (word t (rsp t + o)) 0 d ∙ later.4 q pq (ap (λ b. b || lost q) (ne_eqb q r d) ∙ lq) ∙ get_or-set_other s.registers.integer 4 q (rsp s) 0 ne)
            (cases_eq q r),
      )
