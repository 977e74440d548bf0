-- What admitting a window does to a table's list: the steps of the loops, the order kept, the addresses covered.
use Rattle.std.proofs.Common.{◌≡◌, ℕ, zero, suc, ◌+◌, ◌-◌, ◌<◌, ◌≤◌, Bool, true, false, cond, ◌&&◌, ◌||◌, ltb, leb, List, [], ◌∷◌, ◌++◌, length, take, drop, set, is_some, Some, None, Ok, Option, sym, refl, ap, ◌∙◌, arith}
use borrow.Rule.Slice.PartMut.{put_mid}
use Rattle.std.specs.List.{insert}
use Rattle.std.proofs.lemmas.List.{set_split, drop_all, drop-append-le, take-append-le, take_at, drop_at, append-nil, length-take-le, length-append, length-drop, take-take}
use Rattle.std.proofs.lemmas.List.Edits.{length-insert}
use Rattle.std.proofs.lemmas.Bool.{and_parts, and_from, or_from, or_parts, ltb-true, ltb-false, leb-false, le-leb, lt-leb, lt-ltb, le-ltb, cond-false, true≢false}
use Rattle.records.specs.Spans.{past, onward, found}
use Rattle.records.proofs.Search.{asc_parts, past_lower}
use Rattle.limit.specs.Windows.{window_first, window_last, window_holds, covered, overlaps_any, place_of, put_in, in_order, admission, open_at}
use Rattle.limit.specs.declared.window.Window.{Window}

-- the last slot is overwritten, and what stands from `at` on turned by one
pub turned : (ws : List Window) (at : ℕ) (w : Window) (p part : List Window) → at < length ws → p ≡ drop at (set ws (length ws - 1) w) → part ≡ drop (length p - 1) p ++ take (length p - 1) p → put_mid at (length (set ws (length ws - 1) w) - at) (set ws (length ws - 1) w) part ≡ insert (take (length ws - 1) ws) at w
turned ws at w p part h e r =
    let end : ℕ = length ws - 1 in
    let q : List Window = take end ws in
    let s : List Window = set ws end w in
    let lq : length q ≡ end = length-take-le end ws (omega arith) in
    let split : s ≡ q ++ w ∷ [] = set_split ws end w (omega arith) ∙ ap (λ t. q ++ w ∷ t) (drop_all (suc end) ws (omega arith)) in
    let low : take at s ≡ take at q = ap (take at) split ∙ take-append-le at q (w ∷ []) (omega arith) in
    let high : p ≡ drop at q ++ w ∷ [] = e ∙ ap (drop at) split ∙ drop-append-le at q (w ∷ []) (omega arith) in
    let lp : length (drop at q) ≡ length p - 1 = omega (arith, ap length high, length-append (drop at q) (w ∷ [])) in
    let back : drop (length p - 1) p ≡ w ∷ [] = ap (drop (length p - 1)) high ∙ drop_at (drop at q) (w ∷ []) (length p - 1) lp in
    let front : take (length p - 1) p ≡ drop at q = ap (take (length p - 1)) high ∙ take_at (drop at q) (w ∷ []) (length p - 1) lp in
    let turn : part ≡ w ∷ drop at q = r ∙ ap (λ t. t ++ take (length p - 1) p) back ∙ ap (λ t. w ∷ t) front in
    let none : drop (length s - at) (drop at s) ≡ [] = drop_all (length s - at) (drop at s) (simp length-drop (omega arith)) in
    ap (λ t. t ++ (part ++ drop (length s - at) (drop at s))) low ∙ ap (λ t. take at q ++ (part ++ t)) none ∙ ap (λ t. take at q ++ t) (append-nil part ∙ turn)

suc-one : (k : ℕ) → suc k ≡ 1 + k
suc-one k = omega arith

pub place_le : (w : Window) (ws : List Window) → place_of w ws ≤ length ws
place_le w [] = omega arith
place_le w (x ∷ xs) = elim (ltb (window_last x) (window_first w)) as (λ b. cond b (1 + place_of w xs) 0 ≤ suc (length xs)) [ true ↦ omega (arith, place_le w xs) | false ↦ omega arith ]

clearly : (x y : Bool) → y ≡ true → (x && y) ≡ false → x ≡ false
clearly true y e h = absurd (true≢false (sym e ∙ h))
clearly false y e h = refl

past_inserted : (n i : ℕ) (w : Window) (xs : List Window) → n < window_first w → past window_first n xs ≡ true → past window_first n (insert xs i w) ≡ true
past_inserted n zero w xs h p = and_from (ltb n (window_first w)) (past window_first n xs) (lt-ltb n (window_first w) h) p
past_inserted n (suc i) w [] h p = and_from (ltb n (window_first w)) true (lt-ltb n (window_first w) h) refl
past_inserted n (suc i) w (x ∷ xs) h p =
    let q = and_parts (ltb n (window_first x)) (past window_first n xs) p in
    and_from (ltb n (window_first x)) (past window_first n (insert xs i w)) q.0 (past_inserted n i w xs h q.1)

order_from : (x : Window) (xs : List Window) → window_first x ≤ window_last x → past window_first (window_last x) xs ≡ true → in_order xs ≡ true → in_order (x ∷ xs) ≡ true
order_from x xs h p a = and_from (leb (window_first x) (window_last x)) _ (le-leb _ _ h) (and_from (past window_first (window_last x) xs) (in_order xs) p a)

order_by : (w x : Window) (xs : List Window) → window_first w ≤ window_last w → in_order (x ∷ xs) ≡ true → overlaps_any w (x ∷ xs) ≡ false → in_order (insert xs (place_of w xs) w) ≡ true → (b : Bool) → ltb (window_last x) (window_first w) ≡ b → in_order (insert (x ∷ xs) (cond b (1 + place_of w xs) 0) w) ≡ true
order_by w x xs l a t ih true e =
    let o = asc_parts window_first window_last x xs a in
    ap (λ j. in_order (insert (x ∷ xs) j w)) (sym (suc-one (place_of w xs))) ∙ order_from x (insert xs (place_of w xs) w) o.0 (past_inserted (window_last x) (place_of w xs) w xs (ltb-true _ _ e) o.1) ih
order_by w x xs l a t ih false e =
    let o = asc_parts window_first window_last x xs a in
    let before : window_first w ≤ window_last x = ltb-false (window_last x) (window_first w) e in
    let apart : leb (window_first x) (window_last w) ≡ false = clearly (leb (window_first x) (window_last w)) (leb (window_first w) (window_last x)) (le-leb _ _ before) (or_parts (leb (window_first x) (window_last w) && leb (window_first w) (window_last x)) (overlaps_any w xs) t).0 in
    let after : window_last w < window_first x = leb-false (window_first x) (window_last w) apart in
    order_from w (x ∷ xs) l (and_from (ltb (window_last w) (window_first x)) (past window_first (window_last w) xs) (lt-ltb _ _ after) (past_lower window_first window_last (window_last w) (window_last x) xs (omega arith) o.1)) a

pub order_inserted : (w : Window) (ws : List Window) → window_first w ≤ window_last w → in_order ws ≡ true → overlaps_any w ws ≡ false → in_order (insert ws (place_of w ws) w) ≡ true
order_inserted w [] l a t = and_from (leb (window_first w) (window_last w)) _ (le-leb _ _ l) refl
order_inserted w (x ∷ xs) l a t =
    let rest : overlaps_any w xs ≡ false = (or_parts (leb (window_first x) (window_last w) && leb (window_first w) (window_last x)) (overlaps_any w xs) t).1 in
    order_by w x xs l a t (order_inserted w xs l (asc_parts window_first window_last x xs a).2 rest) (ltb (window_last x) (window_first w)) refl

-- the first n + 1 slots, once the window was put among the first n
module _ (ws : List Window) (n at : ℕ) (w : Window) (room : n < length ws) (here : at ≡ place_of w (take n ws)) where
  pub place-fits : at < length (take (n + 1 - 0) ws)
  place-fits =
      let m : length (take n ws) ≡ n = length-take-le n ws (omega arith) in
      let k : length (take (n + 1 - 0) ws) ≡ n + 1 - 0 = length-take-le (n + 1 - 0) ws (omega arith) in
      omega (arith, place_le w (take n ws))

  pub grown : (part : List Window) → part ≡ insert (take (length (take (n + 1 - 0) ws) - 1) (take (n + 1 - 0) ws)) at w → take (n + 1) (part ++ drop (n + 1 - 0) ws) ≡ insert (take n ws) (place_of w (take n ws)) w
  grown part e =
      let k : length (take (n + 1 - 0) ws) ≡ n + 1 = length-take-le (n + 1 - 0) ws (omega arith) ∙ omega arith in
      let m : length (take n ws) ≡ n = length-take-le n ws (omega arith) in
      let less : length (take (n + 1 - 0) ws) - 1 ≡ n = omega arith in
      let low : take (length (take (n + 1 - 0) ws) - 1) (take (n + 1 - 0) ws) ≡ take n ws = ap (λ j. take j (take (n + 1 - 0) ws)) less ∙ take-take n (n + 1 - 0) ws (omega arith) in
      let is : part ≡ insert (take n ws) (place_of w (take n ws)) w = e ∙ ap (λ l. insert l at w) low ∙ ap (λ j. insert (take n ws) j w) here in
      let long : length part ≡ n + 1 = ap length is ∙ length-insert (take n ws) (place_of w (take n ws)) w (place_le w (take n ws)) ∙ omega arith in
      take_at part (drop (n + 1 - 0) ws) (n + 1) long ∙ is

pub accepted : (ws : List Window) (w : Window) → window_first w ≤ window_last w → overlaps_any w ws ≡ false → length ws < 16 → admission ws w ≡ Ok tt
accepted ws w l t room =
    cond-false _ _ _ (or_from (ltb (window_last w) (window_first w)) (overlaps_any w ws) (le-ltb _ _ l) t) ∙ cond-false _ _ _ (lt-leb 16 (length ws) room)

put_by : (w x : Window) (xs : List Window) (k : ℕ) (b : Bool) → put_in w xs ≡ insert xs k w → cond b (x ∷ put_in w xs) (w ∷ x ∷ xs) ≡ insert (x ∷ xs) (cond b (1 + k) 0) w
put_by w x xs k true e = ap (λ l. x ∷ l) e ∙ ap (λ j. insert (x ∷ xs) j w) (suc-one k)
put_by w x xs k false e = refl

pub put_is : (w : Window) (ws : List Window) → put_in w ws ≡ insert ws (place_of w ws) w
put_is w [] = refl
put_is w (x ∷ xs) = put_by w x xs (place_of w xs) (ltb (window_last x) (window_first w)) (put_is w xs)

or_swap : (a b c : Bool) → (a || (b || c)) ≡ (b || (a || c))
or_swap true true c = refl
or_swap true false c = refl
or_swap false b c = refl

covered_by : (w x : Window) (xs : List Window) (at : ℕ) (b : Bool) → covered (put_in w xs) at ≡ (window_holds at w || covered xs at) → covered (cond b (x ∷ put_in w xs) (w ∷ x ∷ xs)) at ≡ (window_holds at w || (window_holds at x || covered xs at))
covered_by w x xs at true e = ap (λ c. window_holds at x || c) e ∙ or_swap (window_holds at x) (window_holds at w) (covered xs at)
covered_by w x xs at false e = refl

-- a window put in adds its addresses, and no others
pub covered_put : (w : Window) (ws : List Window) (at : ℕ) → covered (put_in w ws) at ≡ (window_holds at w || covered ws at)
covered_put w [] at = refl
covered_put w (x ∷ xs) at = covered_by w x xs at (ltb (window_last x) (window_first w)) (covered_put w xs at)

some_onward : (b : Bool) (o : Option ℕ) → (b || is_some o) ≡ is_some (cond b (Some 0) (onward o))
some_onward true o = refl
some_onward false None = refl
some_onward false (Some k) = refl

-- the search answers a window exactly if one holds the address
pub covered-found : (ws : List Window) (at : ℕ) → covered ws at ≡ is_some (found window_first window_last at ws)
covered-found [] at = refl
covered-found (w ∷ ws) at = ap (λ c. window_holds at w || c) (covered-found ws at) ∙ some_onward (window_holds at w) (found window_first window_last at ws)

pub open_covered : (ws : List Window) (at : ℕ) → 0 < length ws → open_at ws at ≡ covered ws at
open_covered [] at h = absurd (omega arith)
open_covered (w ∷ ws) at h = refl
