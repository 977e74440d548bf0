-- A search among ascending records, and a test for their order, place by place.
use Rattle.std.proofs.Common.{◌≡◌, ℕ, zero, suc, ◌+◌, ◌<◌, ◌≤◌, Bool, true, false, ◌&&◌, ltb, leb, ◌⊎◌, List, [], ◌∷◌, length, get_or, Some, None, sym, refl, ap, ◌∙◌, subst, inl, inr, ⊎_elim, arith}
use Rattle.std.proofs.lemmas.List.{get_or_read}
use Rattle.std.proofs.lemmas.Bool.{and_parts, and_from, and_left, and_right, leb-true, ltb-true, lt-ltb, le-leb, lt-leb, cases_order, cond-true, cond-false, false≢true}
use Rattle.std.specs.List.{AllAdjacentBelow, IsAllAdjacentAnswer}
use Rattle.records.specs.Spans.{holds, past, ascending, onward, found}

not_true : (b : Bool) → (b ≡ true → ⊥) → false ≡ b
not_true true f = absurd (f refl)
not_true false f = refl

module _ {R : Type 0} (first last : R → ℕ) where
  past_at : (n : ℕ) (xs : List R) (i : ℕ) (d : R) → past first n xs ≡ true → i < length xs → n < first (get_or xs i d)
  past_at n [] i d p h = absurd (omega arith)
  past_at n (x ∷ xs) zero d p h = ltb-true n (first x) (and_parts (ltb n (first x)) (past first n xs) p).0
  past_at n (x ∷ xs) (suc i) d p h = past_at n xs i d (and_parts (ltb n (first x)) (past first n xs) p).1 (omega arith)

  -- what ascending says of a list's head
  pub asc_parts : (x : R) (xs : List R) → ascending first last (x ∷ xs) ≡ true → (first x ≤ last x) × (past first (last x) xs ≡ true) × (ascending first last xs ≡ true)
  asc_parts x xs a =
      let p = and_parts (leb (first x) (last x)) (past first (last x) xs && ascending first last xs) a in
      let q = and_parts (past first (last x) xs) (ascending first last xs) p.1 in
      (leb-true (first x) (last x) p.0, q.0, q.1)

  pub own : (xs : List R) (i : ℕ) (d : R) → ascending first last xs ≡ true → i < length xs → first (get_or xs i d) ≤ last (get_or xs i d)
  own [] i d a h = absurd (omega arith)
  own (x ∷ xs) zero d a h = (asc_parts x xs a).0
  own (x ∷ xs) (suc i) d a h = own xs i d (asc_parts x xs a).2 (omega arith)

  pub apart : (xs : List R) (i j : ℕ) (d : R) → ascending first last xs ≡ true → i < j → j < length xs → last (get_or xs i d) < first (get_or xs j d)
  apart [] i j d a l h = absurd (omega arith)
  apart (x ∷ xs) i zero d a l h = absurd (omega arith)
  apart (x ∷ xs) zero (suc j) d a l h = past_at (last x) xs j d (asc_parts x xs a).1 (omega arith)
  apart (x ∷ xs) (suc i) (suc j) d a l h = apart xs i j d (asc_parts x xs a).2 (omega arith) (omega arith)

  holds_not : (key : ℕ) (r : R) → (last r < key) ⊎ (key < first r) → holds first last key r ≡ false
  holds_not key r (inl h) = and_right (leb (first r) key) (leb key (last r)) (lt-leb key (last r) h)
  holds_not key r (inr h) = and_left (leb (first r) key) (leb key (last r)) (lt-leb (first r) key h)

  pub found_at : (key : ℕ) (xs : List R) (i : ℕ) (d : R) → ascending first last xs ≡ true → i < length xs → first (get_or xs i d) ≤ key → key ≤ last (get_or xs i d) → found first last key xs ≡ Some i
  found_at key [] i d a h p q = absurd (omega arith)
  found_at key (x ∷ xs) zero d a h p q = cond-true _ _ _ (and_from (leb (first x) key) (leb key (last x)) (le-leb _ _ p) (le-leb _ _ q))
  found_at key (x ∷ xs) (suc i) d a h p q =
      let before : last x < first (get_or xs i d) = apart (x ∷ xs) 0 (suc i) d a (omega arith) h in
      cond-false _ _ _ (holds_not key x (inl (omega arith))) ∙ ap onward (found_at key xs i d (asc_parts x xs a).2 (omega arith) p q)

  pub found_none : (key : ℕ) (xs : List R) → ((k : ℕ) (d : R) → k < length xs → (last (get_or xs k d) < key) ⊎ (key < first (get_or xs k d))) → found first last key xs ≡ None
  found_none key [] none = refl
  found_none key (x ∷ xs) none =
      cond-false _ _ _ (holds_not key x (none 0 x (omega arith))) ∙ ap onward (found_none key xs (λ k d h. none (suc k) d (omega arith)))

  -- what a record read at a place tells of that place, whatever the default
  pub held : (key : ℕ) (xs : List R) (i : ℕ) (x : R) → i < length xs → x ≡ get_or xs i x → first x ≤ key → key ≤ last x → (d : R) → (first (get_or xs i d) ≤ key) × (key ≤ last (get_or xs i d))
  held key xs i x h e p q d =
      let is = get_or_read xs i x h e d in
      (subst (λ y. first y ≤ key) is p, subst (λ y. key ≤ last y) is q)

  -- the records below `low` end before the key, and those from `high` on start past it
  abbrev pub Closing : List R → ℕ → ℕ → ℕ → Type 0
  Closing xs key low high = ((k : ℕ) (d : R) → k < low → last (get_or xs k d) < key) × ((k : ℕ) (d : R) → high ≤ k → k < length xs → key < first (get_or xs k d))

  pub closing_down : (xs : List R) (key low high i : ℕ) (x : R) → ascending first last xs ≡ true → i < length xs → x ≡ get_or xs i x → key < first x → Closing xs key low high → Closing xs key low i
  closing_down xs key low high i x a h e l c = (
    c.0,
    λ k d g m.
        let here : key < first (get_or xs i d) = subst (λ y. key < first y) (get_or_read xs i x h e d) l in
        ⊎_elim (λ (s : k ≡ i). subst (λ j. key < first (get_or xs j d)) (sym s) here)
        (⊎_elim (λ (s : k < i). absurd (omega arith))
        (λ (s : i < k). omega (arith, here, own xs i d a h, apart xs i k d a s m)))
        (cases_order k i),
  )

  pub closing_up : (xs : List R) (key low high i : ℕ) (x : R) → ascending first last xs ≡ true → i < length xs → x ≡ get_or xs i x → last x < key → Closing xs key low high → Closing xs key (i + 1) high
  closing_up xs key low high i x a h e l c = (
    λ k d g.
        let here : last (get_or xs i d) < key = subst (λ y. last y < key) (get_or_read xs i x h e d) l in
        ⊎_elim (λ (s : k ≡ i). subst (λ j. last (get_or xs j d) < key) (sym s) here)
        (⊎_elim (λ (s : k < i). omega (arith, here, own xs i d a h, apart xs k i d a s h))
        (λ (s : i < k). absurd (omega arith)))
        (cases_order k i),
    c.1,
  )

  pub past_lower : (m n : ℕ) (xs : List R) → m ≤ n → past first n xs ≡ true → past first m xs ≡ true
  past_lower m n [] h p = refl
  past_lower m n (x ∷ xs) h p =
      let q = and_parts (ltb n (first x)) (past first n xs) p in
      and_from (ltb m (first x)) (past first m xs) (lt-ltb m (first x) (omega (arith, ltb-true n (first x) q.0))) (past_lower m n xs h q.1)

  one_on : (k : ℕ) → suc k + 1 ≡ suc (k + 1)
  one_on k = omega arith

  -- whether the record at a place is whole
  abbrev pub Whole : List R → ℕ → Bool → Type 0
  Whole xs i b = (d : R) → leb (first (get_or xs i d)) (last (get_or xs i d)) ≡ b

  -- x is whole, and y starts past its end
  abbrev pub follows : R → R → Bool
  follows x y = leb (first x) (last x) && ltb (last x) (first y)

  abbrev Follows : List R → Type 0
  Follows xs = AllAdjacentBelow (λ x y. true ≡ follows x y) xs (length xs)

  -- the last record is whole, each other too, and it starts past the end of the one before it
  pub ascends : (xs : List R) (n : ℕ) → length xs ≡ n + 1 → Whole xs n true → Follows xs → ascending first last xs ≡ true
  ascends [] n e w f = absurd (omega (arith, e))
  ascends (x ∷ []) zero e w f = and_from _ _ (w x) refl
  ascends (x ∷ []) (suc n) e w f = absurd (omega (arith, e))
  ascends (x ∷ y ∷ ys) zero e w f = absurd (omega (arith, e))
  ascends (x ∷ y ∷ ys) (suc n) e w f =
      let here = and_parts (leb (first x) (last x)) (ltb (last x) (first y)) (sym (f 0 x (omega arith))) in
      let rest = ascends (y ∷ ys) n (omega (arith, e)) w (λ k d h. subst (λ j. true ≡ follows (get_or (y ∷ ys) k d) (get_or (x ∷ y ∷ ys) j d)) (one_on k) (f (suc k) d (omega arith))) in
      let p = asc_parts y ys rest in
      let l = ltb-true (last x) (first y) here.1 in
      let behind = past_lower (last x) (last y) ys (omega (arith, p.0)) p.1 in
      and_from _ _ here.0 (and_from _ _ (and_from _ _ here.1 behind) rest)

  falls : (xs : List R) → ascending first last xs ≡ true → (k : ℕ) × (k + 1 < length xs) × ((d : R) → false ≡ follows (get_or xs k d) (get_or xs (k + 1) d)) → ⊥
  falls [] a w = absurd (omega (arith, w.1))
  falls (x ∷ xs) a w =
      let whole = own (x ∷ xs) w.0 x a (omega (arith, w.1)) in
      let behind = apart (x ∷ xs) w.0 (w.0 + 1) x a (omega arith) w.1 in
      false≢true (w.2 x ∙ and_from _ _ (le-leb _ _ whole) (lt-ltb _ _ behind))

  -- so the test of the last and that of each with the next tell the order
  module _ (xs : List R) (n : ℕ) (long : length xs ≡ n + 1) where
    pub ordered : (r : Bool) → Whole xs n true → IsAllAdjacentAnswer (λ x y b. b ≡ follows x y) xs r → r ≡ ascending first last xs
    ordered true w f = sym (ascends xs n long w f)
    ordered false w f = not_true (ascending first last xs) (λ a. falls xs a f)

    pub unordered : (d : R) → Whole xs n false → false ≡ ascending first last xs
    unordered d w = not_true (ascending first last xs) (λ a. false≢true (sym (w d) ∙ le-leb _ _ (own xs n d a (omega (arith, long)))))
