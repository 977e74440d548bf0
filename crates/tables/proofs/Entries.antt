-- Entries in order: the steps of a check, and what the search makes of them.
use Rattle.std.proofs.Common.{◌≡◌, ℕ, zero, suc, ◌+◌, ◌-◌, ◌*◌, ◌/◌, ◌<◌, ◌≤◌, Bool, true, false, cond, ◌&&◌, ltb, leb, List, [], ◌∷◌, map, length, get_or, take, drop, Some, None, Option, IfSome, MatchOption, IsSomeAnd, refl, sym, ap, ◌∙◌, arith, add-zero}
use Rattle.std.proofs.lemmas.List.{get_or_default, length-drop, drop-drop}
use Rattle.std.proofs.lemmas.Bool.{and_parts, and_from, and_left, leb-true, ltb-true, le-leb, lt-ltb}
use Rattle.std.specs.List.{range_with_len}
use Rattle.std.specs.Iterator.{AlwaysYields, YieldsFirst}
use Rattle.std.proofs.lemmas.Iterator.Consumers.{YieldsList-from_first}
use Rattle.records.specs.Spans.{holds, past, ascending, onward, found}
use Rattle.layout.specs.Words.{le_value}
use Rattle.tables.specs.Entries.{rva, entry_at, entries_of, entry_first, entry_last, entry_good, entries_good, entry_holding}
use Rattle.tables.specs.Tables.{entries_left}
use Rattle.tables.specs.declared.entry.Entry.{Entry}
use Rattle.tables.specs.declared.table.TableEntries.{TableEntries}

-- an iterator that gives a list: one more of its items, and its end
module _ {S X : Type 0} (steps : S → Option X → S → Type 0) (s t : S) where
  one_more : (x : X) (all : List X) → AlwaysYields steps (λ e. e) s all → steps s (Some x) t → (rest : List X) × (all ≡ x ∷ rest) × AlwaysYields steps (λ e. e) t rest
  one_more x [] a h = absurd (a x t h)
  one_more x (y ∷ ys) a h = let p = a.1 x t h in (ys, ap (λ z. z ∷ ys) (sym p.0), p.1)

  no_more : (all : List X) → AlwaysYields steps (λ e. e) s all → steps s None t → all ≡ []
  no_more [] a h = refl
  no_more (y ∷ ys) a h = absurd (a.0 t h)

-- what is left of the entries that an iterator gives decides whether all are good
abbrev pub Undecided : {S : Type 0} → (S → Option Entry → S → Type 0) → S → S → ℕ → ℕ → Type 0
Undecided steps from s size floor =
    (all : List Entry) → AlwaysYields steps (λ e. e) from all → (rest : List Entry) × AlwaysYields steps (λ e. e) s rest × (entries_good size 0 all ≡ entries_good size floor rest)

module _ {S : Type 0} (steps : S → Option Entry → S → Type 0) (from s t : S) (size floor : ℕ) (u : Undecided steps from s size floor) where
  pub good_next : (e : Entry) → steps s (Some e) t → entry_good size floor e ≡ true → Undecided steps from t size e.end.0
  good_next e h good all a =
      let p = u all a in
      let q = one_more steps s t e p.0 p.1 h in
      (q.0, q.2, p.2 ∙ ap (entries_good size floor) q.1 ∙ ap (λ b. b && entries_good size e.end.0 q.0) good)

  pub good_stop : (e : Entry) → steps s (Some e) t → entry_good size floor e ≡ false → (all : List Entry) → AlwaysYields steps (λ e. e) from all → false ≡ entries_good size 0 all
  good_stop e h bad all a =
      let p = u all a in
      let q = one_more steps s t e p.0 p.1 h in
      sym (p.2 ∙ ap (entries_good size floor) q.1 ∙ and_left _ _ bad)

  pub good_end : steps s None t → (all : List Entry) → AlwaysYields steps (λ e. e) from all → true ≡ entries_good size 0 all
  good_end h all a =
      let p = u all a in
      sym (p.2 ∙ ap (entries_good size floor) (no_more steps s t p.0 p.1 h))

-- the entries past the first are those of the bytes past it
past_first : (bs : List ℕ) (k m : ℕ) → drop (12 * (k + 1) + m) bs ≡ drop (12 * k + m) (drop 12 bs)
past_first bs k m = let e : 12 * (k + 1) + m ≡ 12 + (12 * k + m) = omega arith in ap (λ j. drop j bs) e ∙ sym (drop-drop (12 * k + m) 12 bs)

next_entry : (bs : List ℕ) (k : ℕ) → entry_at bs (12 * (k + 1)) ≡ entry_at (drop 12 bs) (12 * k)
next_entry bs k =
    let words : List ℕ → List ℕ → List ℕ → Entry = λ a b c. record { begin = rva (le_value (take 4 a)); end = rva (le_value (take 4 b)); info = rva (le_value (take 4 c)) } in
    let first : drop (12 * (k + 1)) bs ≡ drop (12 * k) (drop 12 bs) = simp add-zero at (past_first bs k 0) in
    ap (λ a. words a (drop (12 * (k + 1) + 4) bs) (drop (12 * (k + 1) + 8) bs)) first
    ∙ ap (λ b. words (drop (12 * k) (drop 12 bs)) b (drop (12 * (k + 1) + 8) bs)) (past_first bs k 4)
    ∙ ap (words (drop (12 * k) (drop 12 bs)) (drop (12 * k + 4) (drop 12 bs))) (past_first bs k 8)

later_entries : (bs : List ℕ) (k n : ℕ) → map (λ i. entry_at bs (12 * i)) (range_with_len (k + 1) n) ≡ map (λ i. entry_at (drop 12 bs) (12 * i)) (range_with_len k n)
later_entries bs k zero = refl
later_entries bs k (suc n) = rw (next_entry bs k, later_entries bs (k + 1) n) refl

-- a table's first entry, and those of the bytes past it
pub entries-next : (bs : List ℕ) → 12 ≤ length bs → entries_of bs (length bs / 12) ≡ entry_at bs 0 ∷ entries_of (drop 12 bs) (length (drop 12 bs) / 12)
entries-next bs h =
    let n : length bs / 12 ≡ suc (length (drop 12 bs) / 12) = omega (arith, length-drop 12 bs) in
    rw n (ap (λ es. entry_at bs 0 ∷ es) (later_entries bs 0 (length (drop 12 bs) / 12)))

-- what the bytes of a table give
pub table_gives : (bs : List ℕ) (t : TableEntries) → t.bytes.now ≡ bs → AlwaysYields (YieldsFirst entries_left) (λ e. e) t (entries_of bs (length bs / 12))
table_gives bs t e = (YieldsList-from_first (λ e. e) entries_left _ (ap (λ b. entries_of b (length b / 12)) e)).runs

-- what a check of a table's bytes answered, where it is the answer for whatever they give
pub table_checked : (bs : List ℕ) (t : TableEntries) (size : ℕ) (good answer : Bool) → t.bytes.now ≡ bs → ((all : List Entry) → AlwaysYields (YieldsFirst entries_left) (λ e. e) t all → good ≡ entries_good size 0 all) → good ≡ answer →
    entries_good size 0 (entries_of bs (length bs / 12)) ≡ answer
table_checked bs t size good answer e said is = sym (said _ (table_gives bs t e)) ∙ is

-- good entries lie past their floor
good_past : (size floor m : ℕ) (es : List Entry) → m < floor → entries_good size floor es ≡ true → past entry_first m es ≡ true
good_past size floor m [] l g = refl
good_past size floor m (e ∷ es) l g =
    let p = and_parts (entry_good size floor e) (entries_good size e.end.0 es) g in
    let q = and_parts (ltb e.begin.0 e.end.0) (leb floor e.begin.0 && leb e.end.0 size) p.0 in
    let a : e.begin.0 < e.end.0 = ltb-true _ _ q.0 in
    let b : floor ≤ e.begin.0 = leb-true _ _ (and_parts (leb floor e.begin.0) (leb e.end.0 size) q.1).0 in
    and_from (ltb m e.begin.0) (past entry_first m es) (lt-ltb m e.begin.0 (omega arith)) (good_past size e.end.0 m es (omega arith) p.1)

-- good entries are in ascending order without overlap
pub good_ascending : (size floor : ℕ) (es : List Entry) → entries_good size floor es ≡ true → ascending entry_first entry_last es ≡ true
good_ascending size floor [] g = refl
good_ascending size floor (e ∷ es) g =
    let p = and_parts (entry_good size floor e) (entries_good size e.end.0 es) g in
    let a : e.begin.0 < e.end.0 = ltb-true _ _ (and_parts (ltb e.begin.0 e.end.0) _ p.0).0 in
    and_from (leb e.begin.0 (e.end.0 - 1)) _ (le-leb _ _ (omega arith))
    (and_from (past entry_first (e.end.0 - 1) es) (ascending entry_first entry_last es) (good_past size e.end.0 (e.end.0 - 1) es (omega arith) p.1) (good_ascending size e.end.0 es p.1))

-- the entry with an index that a search answered
abbrev pub entry_of : List Entry → Entry → Option ℕ → Option Entry
entry_of es d None = None
entry_of es d (Some i) = Some (get_or es i d)

shifted : (e d : Entry) (es : List Entry) (o : Option ℕ) → entry_of es d o ≡ entry_of (e ∷ es) d (onward o)
shifted e d es None = refl
shifted e d es (Some i) = refl

first_or : (e d : Entry) (es : List Entry) (b : Bool) (o : Option ℕ) → cond b (Some e) (entry_of es d o) ≡ entry_of (e ∷ es) d (cond b (Some 0) (onward o))
first_or e d es true o = refl
first_or e d es false o = shifted e d es o

pub holding_found : (at : ℕ) (es : List Entry) (d : Entry) → entry_holding at es ≡ entry_of es d (found entry_first entry_last at es)
holding_found at [] d = refl
holding_found at (e ∷ es) d =
    ap (cond (holds entry_first entry_last at e) (Some e)) (holding_found at es d) ∙ first_or e d es (holds entry_first entry_last at e) (found entry_first entry_last at es)

-- what a closure makes of an index that was found
pub mapped : (es : List Entry) (d : Entry) (P : ℕ → Entry → Type 0) (Q : ℕ → Type 0) (o : Option ℕ) (r : Option Entry) → MatchOption o (r ≡ None) (λ i. IsSomeAnd r (P i)) → IfSome o (λ i. (i < length es) × Q i) →
    ((i : ℕ) (e : Entry) → P i e → e ≡ get_or es i e) → r ≡ entry_of es d o
mapped es d P Q None r m h f = m
mapped es d P Q (Some i) (Some e) m h f = ap Some (f i e m ∙ get_or_default es i e d h.0)
mapped es d P Q (Some i) None m h f = absurd m
