-- A loop that writes one item after another over the first records, and leaves the rest.
use Rattle.std.proofs.Common.{◌≡◌, ℕ, ◌+◌, ◌<◌, ◌≤◌, List, [], ◌∷◌, ◌++◌, length, get_or, take, drop, set, refl, sym, ap, ◌∙◌, arith}
use Rattle.std.proofs.lemmas.List.{drop_more, take_more, set_at, append_assoc, length-drop, length-take-le, take_all}

-- one more element after p, over the rest of es
pub put_next : {X : Type 0} (p es : List X) (n : ℕ) (x : X) → length p ≡ n → n < length es →
    set (p ++ drop n es) n x ≡ (p ++ x ∷ []) ++ drop (n + 1) es
put_next p es n x l h = rw (drop_more es n x h, append_assoc) (set_at p (get_or es n x) (drop (n + 1) es) x n l)

-- the items that are left after some begin with x
module _ {X : Type 0} (all : List X) (k : ℕ) (x : X) (rest : List X) (left : drop k all ≡ x ∷ rest) where
  pub below : k < length all
  below = omega (arith, ap length left, length-drop k all)

  split : get_or all k x ∷ drop (k + 1) all ≡ x ∷ rest
  split = sym (drop_more all k x below) ∙ left

  pub left_next : drop (k + 1) all ≡ rest
  left_next = let e = split in cc

  here : get_or all k x ≡ x
  here = let e = split in cc

  -- x goes over the record with its index
  put_from : (records : List X) → length all ≤ length records → set (take k all ++ drop k records) k x ≡ take (k + 1) all ++ drop (k + 1) records
  put_from records h =
      let b = below in
      put_next (take k all) records k x (length-take-le k all (omega arith)) (omega arith)
      ∙ ap (λ y. (take k all ++ y ∷ []) ++ drop (k + 1) records) (sym here)
      ∙ ap (λ p. p ++ drop (k + 1) records) (sym (take_more all k x b))

-- the first k of all items are over the first records
pub record Filled {X : Type 0} (all before records : List X) (k : ℕ) : Type 0 where
  pub within : k ≤ length all
  pub written : records ≡ take k all ++ drop k before

module _ {X : Type 0} (all before : List X) where
  pub filled_none : Filled all before before 0
  filled_none = record { within = omega arith; written = refl }

  pub filled_more : (records : List X) (k : ℕ) → length all ≤ length before → Filled all before records k → (x : X) (rest : List X) → drop k all ≡ x ∷ rest → Filled all before (set records k x) (k + 1)
  filled_more records k room f x rest left =
      let b = below all k x rest left in
      record { within = omega arith; written = ap (λ r. set r k x) f.written ∙ put_from all k x rest left before room }

  -- where none is left, all are
  pub filled_all : (records : List X) (k : ℕ) → Filled all before records k → drop k all ≡ [] → records ≡ all ++ drop (length all) before
  filled_all records k f none =
      let end : k ≡ length all = omega (arith, ap length none, length-drop k all, f.within) in
      f.written ∙ ap (λ n. take n all ++ drop n before) end ∙ ap (λ l. l ++ drop (length all) before) (take_all (length all) all (omega arith))
