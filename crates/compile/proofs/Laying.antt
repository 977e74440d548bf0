-- The functions of a module, one after another.
use Rattle.std.proofs.Common.{◌≡◌, ℕ, ◌+◌, ◌-◌, ◌*◌, ◌<◌, ◌≤◌, List, [], ◌∷◌, ◌++◌, length, take, set, sym, refl, ap, ◌∙◌, subst, arith}
use lib.ListN.{length-replicate}
use Rattle.std.proofs.lemmas.List.{length-append, append_assoc, append-nil, take_more_set, length-set}
use Rattle.plan.specs.Bodies.{steps_of, function_bytes, function_size}
use Rattle.plan.specs.Functions.{Function}
use Rattle.plan.specs.Layouts.{up, starts, starts_from, code, gap, code_from, infos, entry, table_from}
use Rattle.plan.specs.UnwindInfos.{info_bytes}
use Rattle.plan.proofs.Accepted.{Goods}
use Rattle.plan.proofs.Sizes.{same_size}

-- the multiple of 16 lies less than 16 up
pub up_fits : (x : ℕ) → (x ≤ up 16 x) × (up 16 x ≤ x + 15)
up_fits x = (omega arith, omega arith)

-- a function at the front
module _ (f : Function) (fs : List Function) where
  pub starts-cons : (at : ℕ) → starts_from at (f ∷ fs) ≡ up 16 at ∷ starts_from (up 16 at + function_size f) fs
  unfolding starts_from
  starts-cons at = refl

  pub code-cons : (st : List ℕ) (at : ℕ) → code_from st at (f ∷ fs) ≡ gap at ++ (function_bytes st (up 16 at) f ++ code_from st (up 16 at + function_size f) fs)
  unfolding code_from
  code-cons st at = refl

  pub code-length : (st : List ℕ) (at : ℕ) → at + length (code_from st at (f ∷ fs)) ≡ up 16 at + function_size f + length (code_from st (up 16 at + function_size f) fs)
  code-length st at =
      let rest = code_from st (up 16 at + function_size f) fs in
      let a = ap length (code-cons st at) in
      let b = length-append (gap at) (function_bytes st (up 16 at) f ++ rest) in
      let c = length-append (function_bytes st (up 16 at) f) rest in
      let d = length-replicate {A = ℕ} (up 16 at - at) 204 in
      let e = same_size f st (up 16 at) in
      let u = up_fits at in
      omega (arith, a, b, c, d, e, u.0)

  pub infos-cons : infos (f ∷ fs) ≡ info_bytes (steps_of f) ++ infos fs
  unfolding infos
  infos-cons = refl

  pub infos-length : length (infos (f ∷ fs)) ≡ length (info_bytes (steps_of f)) + length (infos fs)
  infos-length = ap length infos-cons ∙ length-append (info_bytes (steps_of f)) (infos fs)

  pub table-cons : (at info : ℕ) → table_from at info (f ∷ fs) ≡ entry (up 16 at) (up 16 at + function_size f) info ++ table_from (up 16 at + function_size f) (info + length (info_bytes (steps_of f))) fs
  unfolding table_from
  table-cons at info = refl

pub nothing_left : (st : List ℕ) (at info : ℕ) → (starts_from at [] ≡ []) × (code_from st at [] ≡ []) × (infos [] ≡ []) × (table_from at info [] ≡ [])
unfolding starts_from code_from infos table_from
nothing_left st at info = (refl, refl, refl, refl)

-- one more start in the array
start_put : (all xs rest : List ℕ) (k y : ℕ) → k < length xs → all ≡ take k xs ++ (y ∷ rest) → all ≡ take (k + 1) (set xs k y) ++ rest
start_put all xs rest k y h e = e ∙ sym (ap (λ l. l ++ rest) (take_more_set xs k y h) ∙ append_assoc (take k xs) (y ∷ []) rest)

-- k functions measured, and others left: the starts are in the array, the code ends at an RVA, and the infos have n bytes
pub record Measured (fs : List Function) (xs : List ℕ) (k at n : ℕ) (left : List Function) : Type 0 where
  pub good : Goods left
  pub room : length xs ≡ 64
  pub count : k + length left ≡ length fs
  pub starts_are : starts fs ≡ take k xs ++ starts_from at left
  pub code_is : 4096 + length (code fs) ≡ at + length (code_from (starts fs) at left)
  pub infos_are : length (infos fs) ≡ n + length (infos left)
  pub low : 4096 ≤ at
  pub high : at ≤ 4096 + 2400 * k
  pub few : n ≤ 66 * k
  pub most : length fs ≤ 64

pub measured_none : (fs : List Function) (xs : List ℕ) → Goods fs → length fs ≤ 64 → length xs ≡ 64 → Measured fs xs 0 4096 0 fs
measured_none fs xs g most r = record { good = g; room = r; count = omega arith; starts_are = refl; code_is = refl; infos_are = omega arith; low = omega arith; high = omega arith; few = omega arith; most = most }

-- the next function
module _ {fs : List Function} {xs : List ℕ} {k at n : ℕ} {left : List Function} (r : Measured fs xs k at n left) (f : Function) (later : List Function) (cons : left ≡ f ∷ later) where
  one_more : k + 1 + length later ≡ length fs
  one_more = omega (arith, r.count, ap length cons)

  pub measured_on : (begin size bytes : ℕ) → begin ≡ up 16 at → size ≡ function_size f → size ≤ 2300 → bytes ≡ length (info_bytes (steps_of f)) → bytes ≤ 66
      → Measured fs (set xs k begin) (k + 1) (begin + size) (n + bytes) later
  measured_on begin size bytes eu es ls ei li =
      let to : up 16 at + function_size f ≡ begin + size = omega (arith, eu, es) in
      let u = up_fits at in
      let more = code-length f later (starts fs) at in
      let same = ap (λ l. length (code_from (starts fs) at l)) cons in
      let moved = ap (λ e. length (code_from (starts fs) e later)) to in
      let infos-same = ap (λ l. length (infos l)) cons in
      let infos-more = infos-length f later in
      record {
        good = (subst Goods cons r.good).1;
        room = length-set xs k begin ∙ r.room;
        count = one_more;
        starts_are = start_put (starts fs) xs (starts_from (begin + size) later) k begin (omega (arith, one_more, r.most, r.room))
            (r.starts_are ∙ ap (λ l. take k xs ++ starts_from at l) cons ∙ ap (λ l. take k xs ++ l) (starts-cons f later at)
            ∙ ap (λ y. take k xs ++ (y ∷ starts_from (up 16 at + function_size f) later)) (sym eu) ∙ ap (λ e. take k xs ++ (begin ∷ starts_from e later)) to);
        code_is = omega (arith, r.code_is, more, same, moved, to);
        infos_are = omega (arith, r.infos_are, infos-same, infos-more, ei);
        low = omega (arith, r.low, eu, u.0);
        high = omega (arith, r.high, eu, u.1, ls);
        few = omega (arith, r.few, li);
        most = r.most;
      }

-- all functions
pub measured_all : {fs : List Function} {xs : List ℕ} {k at n : ℕ} {left : List Function} → Measured fs xs k at n left → left ≡ [] →
    (take (length fs) xs ≡ starts fs) × (at - 4096 ≡ length (code fs)) × (n ≡ length (infos fs)) × (at - 4096 ≤ 200000)
measured_all {fs = fs} {xs = xs} {k = k} {at = at} {n = n} r none =
    let ends = nothing_left (starts fs) at 0 in
    let here : k ≡ length fs = omega (arith, r.count, ap length none) in
    let a = ap (λ l. length (code_from (starts fs) at l)) none ∙ ap length ends.1 in
    let b = ap (λ l. length (infos l)) none ∙ ap length ends.2 in (
      sym (r.starts_are ∙ ap (λ l. take k xs ++ starts_from at l) none ∙ ap (λ l. take k xs ++ l) ends.0 ∙ append-nil (take k xs) ∙ ap (λ j. take j xs) here),
      omega (arith, r.code_is, a),
      omega (arith, r.infos_are, b),
      omega (arith, r.high, here, r.most),
    )
