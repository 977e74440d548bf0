-- Codes one by one: what they come to, how many they are, and one turn of an iterator over them.
use Rattle.std.proofs.Common.{◌≡◌, ℕ, zero, suc, ◌+◌, ◌*◌, ◌/◌, ◌%◌, ◌<◌, ◌≤◌, Bool, true, false, cond, leb, List, [], ◌∷◌, map, length, drop, get_or, is_ok, IfOk, Some, Ok, Err, Result, sym, refl, ap, ◌∙◌, arith, ◌==◌}
use Rattle.std.proofs.lemmas.List.{length-drop, drop-drop, length-map}
use Rattle.std.proofs.lemmas.Bool.{le-leb, lt-leb, leb-true, false≢true}
use Rattle.std.specs.Result.{result_map_both}
use Rattle.infos.specs.Codes.{bind, width, meant, decoded_in}
use Rattle.infos.specs.Codings.{slots_left, codes_left}
use Rattle.infos.specs.Listings.{listed}
use Rattle.infos.specs.Refusals.{InfoFault, info_fault, at_slot, told}
use Rattle.infos.specs.Sequences.{admitted, codes_from, taken, followed, outcomes, gathered, counted}
use Rattle.infos.specs.declared.code.Code.{Code}
use Rattle.infos.specs.declared.codes.Codes.{Codes}
use Rattle.infos.specs.declared.refusal.InfoRefusal.{InfoRefusal}
use Rattle.infos.specs.declared.sequence.Progress.{Progress}

-- ---- what they come to
follow : (d : Result (Code × ℕ) InfoFault) (a : Code → Result Progress InfoFault) (f : (Code × ℕ) × Progress → List (Result Code InfoFault)) (g : (Code × ℕ) × Progress → Result (List Code) InfoFault) →
    ((p : (Code × ℕ) × Progress) → gathered (f p) ≡ g p) →
    gathered (followed (bind d (λ p. bind (a p.0) (λ t. Ok (p, t)))) f) ≡ bind d (λ p. bind (a p.0) (λ t. bind (g (p, t)) (λ cs. Ok (p.0 ∷ cs))))
follow (Err e) a f g h = refl
follow (Ok p) a f g h =
    elim (a p.0) as (λ r. gathered (followed (bind r (λ t. Ok (p, t))) f) ≡ bind r (λ t. bind (g (p, t)) (λ cs. Ok (p.0 ∷ cs)))) [
      | Ok t ↦ ap (λ r. bind r (λ cs. Ok (p.0 ∷ cs))) (h (p, t))
      | Err e ↦ refl
    ]

where_long : (b : Bool) (xs : List (Result Code InfoFault)) (r : Result (List Code) InfoFault) → gathered xs ≡ r → gathered (cond b xs []) ≡ cond b r (Ok [])
where_long true xs r e = e
where_long false xs r e = refl

pub gathered-outcomes : (k frame : ℕ) (s : Progress) (slot : ℕ) (bs : List ℕ) → gathered (outcomes k frame s slot bs) ≡ codes_from k frame s slot bs
unfolding outcomes codes_from
gathered-outcomes zero frame s slot bs = refl
gathered-outcomes (suc k) frame s slot bs =
    where_long (leb 2 (length bs)) _ _
    (follow (at_slot (Some slot) (decoded_in slot bs)) (λ c. at_slot (Some slot) (admitted frame s c)) _ _ (λ p. gathered-outcomes k frame p.1 (slot + p.0.1) (drop (2 * p.0.1) bs)))

-- ---- a code takes a slot at least
either : (b : Bool) (r q : Result ℕ ℕ) → IfOk r (λ n. 1 ≤ n) → IfOk q (λ n. 1 ≤ n) → IfOk (cond b r q) (λ n. 1 ≤ n)
either true r q x y = x
either false r q x y = y

width_some : (op info : ℕ) → IfOk (width op info) (λ n. 1 ≤ n)
width_some op info =
    let plain : (b : Bool) (n : ℕ) → 1 ≤ n → IfOk (cond {A = Result ℕ ℕ} b (Err 43) (Ok n)) (λ n. 1 ≤ n) = λ b n l. either b (Err 43) (Ok n) tt l in
    either (op == 0) _ _ (plain (info == 4) 1 (omega arith))
    (either (op == 1) _ _ (either (info == 0) _ _ (omega arith) (either (info == 1) _ _ (omega arith) tt))
    (either (op == 2) _ _ (omega arith)
    (either (op == 3) _ _ (omega arith)
    (either (op == 4) _ _ (plain (info == 4) 2 (omega arith))
    (either (op == 5) _ _ (plain (info == 4) 3 (omega arith))
    (either (op == 8) _ _ (omega arith)
    (either (op == 9) _ _ (omega arith) tt)))))))

picked : (b : Bool) (n : ℕ) (c : Code) (p : Code × ℕ) → 1 ≤ n → ◌≡◌ {A = Result (Code × ℕ) ℕ} (cond b (Ok (c, n)) (Err 44)) (Ok p) → 1 ≤ p.1
picked true n c p l e = let q : ◌≡◌ {A = Code × ℕ} (c, n) p = cc in omega (arith, ap (λ x. x.1) q)
picked false n c p l e = absurd (cc)

decoded_of : (w : Result ℕ ℕ) (m : ℕ) (c : Code) (p : Code × ℕ) → IfOk w (λ n. 1 ≤ n) → bind w (λ n. cond {A = Result (Code × ℕ) ℕ} (leb (2 * n) m) (Ok (c, n)) (Err 44)) ≡ Ok p → 1 ≤ p.1
decoded_of (Ok n) m c p l e = picked (leb (2 * n) m) n c p l e
decoded_of (Err d) m c p l e = absurd (cc)

decoded_some : (slot : ℕ) (bs : List ℕ) (p : Code × ℕ) → decoded_in slot bs ≡ Ok p → 1 ≤ p.1
decoded_some slot bs p e = decoded_of _ (length bs) _ p (width_some (get_or bs 1 0 % 16) (get_or bs 1 0 / 16)) e

agreed_code : (r : Result Progress InfoFault) (q : Code × ℕ) (p : (Code × ℕ) × Progress) → bind r (λ t. Ok (q, t)) ≡ Ok p → q ≡ p.0
agreed_code (Ok t) q p e = let u : ◌≡◌ {A = (Code × ℕ) × Progress} (q, t) p = cc in ap (λ x. x.0) u
agreed_code (Err d) q p e = absurd (cc)

taken_of : (d : Result (Code × ℕ) ℕ) (slot : ℕ) (a : Code → Result Progress InfoFault) (p : (Code × ℕ) × Progress) → ((q : Code × ℕ) → d ≡ Ok q → 1 ≤ q.1) →
    bind (at_slot (Some slot) d) (λ q. bind (a q.0) (λ t. Ok (q, t))) ≡ Ok p → 1 ≤ p.0.1
taken_of (Ok q) slot a p f e = omega (arith, f q refl, ap (λ x. x.1) (agreed_code (a q.0) q p e))
taken_of (Err d) slot a p f e = absurd (cc)

taken_some : (frame : ℕ) (s : Progress) (slot : ℕ) (bs : List ℕ) (p : (Code × ℕ) × Progress) → taken frame s slot bs ≡ Ok p → 1 ≤ p.0.1
taken_some frame s slot bs p e = taken_of (decoded_in slot bs) slot (λ c. at_slot (Some slot) (admitted frame s c)) p (decoded_some slot bs) e

-- ---- how many they are
followed_few : (r : Result ((Code × ℕ) × Progress) InfoFault) (f : (Code × ℕ) × Progress → List (Result Code InfoFault)) (n : ℕ) → 2 ≤ n →
    ((p : (Code × ℕ) × Progress) → r ≡ Ok p → 2 + 2 * length (f p) ≤ n) → 2 * length (followed r f) ≤ n
followed_few (Ok p) f n l h = omega (arith, h p refl)
followed_few (Err e) f n l h = omega arith

few_where : (b : Bool) (xs : List (Result Code InfoFault)) (n : ℕ) → (b ≡ true → 2 * length xs ≤ n) → 2 * length (cond b xs []) ≤ n
few_where true xs n h = h refl
few_where false xs n h = omega arith

pub few_outcomes : (k frame : ℕ) (s : Progress) (slot : ℕ) (bs : List ℕ) → 2 * length (outcomes k frame s slot bs) ≤ length bs
unfolding outcomes
few_outcomes zero frame s slot bs = omega arith
few_outcomes (suc k) frame s slot bs =
    few_where (leb 2 (length bs)) _ (length bs) (λ b. let l = leb-true 2 (length bs) b in
    followed_few (taken frame s slot bs) _ (length bs) l (λ p e.
    let less = few_outcomes k frame p.1 (slot + p.0.1) (drop (2 * p.0.1) bs) in
    omega (arith, less, length-drop (2 * p.0.1) bs, taken_some frame s slot bs p e)))

-- ---- any fuel that is enough gives the same
followed_same : (r : Result ((Code × ℕ) × Progress) InfoFault) (f g : (Code × ℕ) × Progress → List (Result Code InfoFault)) → ((p : (Code × ℕ) × Progress) → r ≡ Ok p → f p ≡ g p) → followed r f ≡ followed r g
followed_same (Ok p) f g h = ap (λ l. Ok p.0.0 ∷ l) (h p refl)
followed_same (Err e) f g h = refl

same_where : (b : Bool) (xs ys : List (Result Code InfoFault)) → (b ≡ true → xs ≡ ys) → cond b xs [] ≡ cond b ys []
same_where true xs ys h = h refl
same_where false xs ys h = refl

none_at : (k frame : ℕ) (s : Progress) (slot : ℕ) (bs : List ℕ) → length bs < 2 → outcomes k frame s slot bs ≡ []
unfolding outcomes
none_at zero frame s slot bs h = refl
none_at (suc k) frame s slot bs h = rw (lt-leb 2 (length bs) h) refl

steady : (j k frame : ℕ) (s : Progress) (slot : ℕ) (bs : List ℕ) → length bs ≤ j → length bs ≤ k → outcomes j frame s slot bs ≡ outcomes k frame s slot bs
unfolding outcomes
steady zero k frame s slot bs l m = sym (none_at k frame s slot bs (omega arith))
steady (suc j) zero frame s slot bs l m = none_at (suc j) frame s slot bs (omega arith)
steady (suc j) (suc k) frame s slot bs l m =
    same_where (leb 2 (length bs)) _ _ (λ b. let long = leb-true 2 (length bs) b in
    followed_same (taken frame s slot bs) _ _ (λ p e.
    let some = taken_some frame s slot bs p e in
    let left = length-drop (2 * p.0.1) bs in
    steady j k frame p.1 (slot + p.0.1) (drop (2 * p.0.1) bs) (omega arith) (omega arith)))

-- ---- one turn
turn : (k frame : ℕ) (s : Progress) (slot : ℕ) (bs : List ℕ) → length bs ≤ k → 2 ≤ length bs → (p : (Code × ℕ) × Progress) → taken frame s slot bs ≡ Ok p →
    outcomes k frame s slot bs ≡ Ok p.0.0 ∷ outcomes (length (drop (2 * p.0.1) bs)) frame p.1 (slot + p.0.1) (drop (2 * p.0.1) bs)
unfolding outcomes
turn zero frame s slot bs m l p e = absurd (omega arith)
turn (suc k) frame s slot bs m l p e =
    let some = taken_some frame s slot bs p e in
    let rest = drop (2 * p.0.1) bs in
    let same = steady k (length rest) frame p.1 (slot + p.0.1) rest (omega (arith, length-drop (2 * p.0.1) bs)) (omega arith) in
    rw (le-leb 2 (length bs) l, e) (ap (λ l. Ok p.0.0 ∷ l) same)

refused_turn : (k frame : ℕ) (s : Progress) (slot : ℕ) (bs : List ℕ) → length bs ≤ k → 2 ≤ length bs → (d : InfoFault) → taken frame s slot bs ≡ Err d → outcomes k frame s slot bs ≡ Err d ∷ []
unfolding outcomes
refused_turn zero frame s slot bs m l d e = absurd (omega arith)
refused_turn (suc k) frame s slot bs m l d e = rw (le-leb 2 (length bs) l, e) refl

-- from the end of the slots on there is no code
pub none_left : (frame : ℕ) (s : Progress) (slot : ℕ) (bs : List ℕ) → length bs / 2 ≤ slot → outcomes (length (drop (2 * slot) bs)) frame s slot (drop (2 * slot) bs) ≡ []
none_left frame s slot bs h = none_at (length (drop (2 * slot) bs)) frame s slot (drop (2 * slot) bs) (omega (arith, length-drop (2 * slot) bs))

module _ (c : Codes) where
  some_left : c.slot < length c.slots.now / 2 → 2 ≤ length (slots_left c)
  some_left h = omega (arith, length-drop (2 * c.slot) c.slots.now)

  past : (used : ℕ) → drop (2 * used) (slots_left c) ≡ drop (2 * (c.slot + used)) c.slots.now
  past used = drop-drop (2 * used) (2 * c.slot) c.slots.now ∙ ap (λ n. drop n c.slots.now) (omega arith)

  pub ended : length c.slots.now / 2 ≤ c.slot → codes_left c ≡ []
  ended h = none_left c.frame c.sofar c.slot c.slots.now h

  pub next_code : c.slot < length c.slots.now / 2 → (p : (Code × ℕ) × Progress) → taken c.frame c.sofar c.slot (slots_left c) ≡ Ok p →
      codes_left c ≡ Ok p.0.0 ∷ outcomes (length (drop (2 * (c.slot + p.0.1)) c.slots.now)) c.frame p.1 (c.slot + p.0.1) (drop (2 * (c.slot + p.0.1)) c.slots.now)
  next_code h p e =
      turn (length (slots_left c)) c.frame c.sofar c.slot (slots_left c) (omega arith) (some_left h) p e
      ∙ ap (λ l. Ok p.0.0 ∷ outcomes (length l) c.frame p.1 (c.slot + p.0.1) l) (past p.0.1)

  pub next_refused : c.slot < length c.slots.now / 2 → (d : InfoFault) → taken c.frame c.sofar c.slot (slots_left c) ≡ Err d → codes_left c ≡ Err d ∷ []
  next_refused h d e = refused_turn (length (slots_left c)) c.frame c.sofar c.slot (slots_left c) (omega arith) (some_left h) d e

  pub few_left : 2 * (c.slot + length (codes_left c)) ≤ length c.slots.now
  few_left = omega (arith, few_outcomes (length (slots_left c)) c.frame c.sofar c.slot (slots_left c), length-drop (2 * c.slot) c.slots.now, c.few.1)

-- ---- a count of codes, n of which are behind
abbrev pub more : ℕ → Result ℕ InfoFault → Result ℕ InfoFault
more n r = bind r (λ m. Ok (n + m))

pub more_none : (r : Result ℕ InfoFault) → r ≡ more 0 r
more_none (Ok m) = ap Ok (omega arith)
more_none (Err e) = refl

one_of : (g : Result (List Code) InfoFault) (n : ℕ) (x : Code) → more n (counted (bind g (λ xs. Ok (x ∷ xs)))) ≡ more (n + 1) (counted g)
one_of (Ok xs) n x = ap Ok (omega arith)
one_of (Err e) n x = refl

pub more_one : (n : ℕ) (x : Code) (rs : List (Result Code InfoFault)) → more n (counted (gathered (Ok x ∷ rs))) ≡ more (n + 1) (counted (gathered rs))
more_one n x rs = one_of (gathered rs) n x

-- ---- codes none of which is refused
good_of : (x : Code) (rs : List (Result Code InfoFault)) (g : Result (List Code) InfoFault) → (is_ok g ≡ true → rs ≡ map Ok (listed g)) → is_ok (bind g (λ xs. Ok (x ∷ xs))) ≡ true →
    Ok x ∷ rs ≡ map Ok (listed (bind g (λ xs. Ok (x ∷ xs))))
good_of x rs (Ok xs) f h = ap (λ l. Ok x ∷ l) (f refl)
good_of x rs (Err e) f h = absurd (false≢true h)

pub all_good : (rs : List (Result Code InfoFault)) → is_ok (gathered rs) ≡ true → rs ≡ map Ok (listed (gathered rs))
all_good [] h = refl
all_good (Ok x ∷ rs) h = good_of x rs (gathered rs) (all_good rs) h
all_good (Err e ∷ rs) h = absurd (false≢true h)

pub good_is : (r : Result (List Code) InfoFault) → is_ok r ≡ true → r ≡ Ok (listed r)
good_is (Ok cs) h = refl
good_is (Err e) h = absurd (false≢true h)

good_first : (cs : List Code) (r : Result Code InfoFault) (rs : List (Result Code InfoFault)) → map Ok cs ≡ r ∷ rs → (c : Code) × (rest : List Code) × (cs ≡ c ∷ rest) × (r ≡ Ok c) × (rs ≡ map Ok rest)
good_first [] r rs e = absurd (cc)
good_first (c ∷ rest) r rs e = (c, rest, refl, (let d = sym e in cc), (let d = sym e in cc))

pub good_none : (cs : List Code) → map {B = Result Code InfoFault} Ok cs ≡ [] → cs ≡ []
good_none [] e = refl
good_none (c ∷ cs) e = absurd (cc)

pub good_length : (cs : List Code) → length (map {B = Result Code InfoFault} Ok cs) ≡ length cs
good_length cs = length-map {B = Result Code InfoFault} cs Ok

-- ---- a code that comes next has the first slot that is left
followed_first : (r : Result ((Code × ℕ) × Progress) InfoFault) (f : (Code × ℕ) × Progress → List (Result Code InfoFault)) (x : Code) (rest : List (Result Code InfoFault)) → followed r f ≡ Ok x ∷ rest →
    (p : (Code × ℕ) × Progress) × (r ≡ Ok p) × (p.0.0 ≡ x)
followed_first (Ok p) f x rest e = (p, refl, cc)
followed_first (Err d) f x rest e = absurd (cc)

some_where : (b : Bool) (xs : List (Result Code InfoFault)) (x : Code) (rest : List (Result Code InfoFault)) → cond b xs [] ≡ Ok x ∷ rest → xs ≡ Ok x ∷ rest
some_where true xs x rest e = e
some_where false xs x rest e = absurd (cc)

taken_decoded : (d : Result (Code × ℕ) ℕ) (slot : ℕ) (a : Code → Result Progress InfoFault) (p : (Code × ℕ) × Progress) → bind (at_slot (Some slot) d) (λ q. bind (a q.0) (λ t. Ok (q, t))) ≡ Ok p → d ≡ Ok p.0
taken_decoded (Ok q) slot a p e = ap Ok (agreed_code (a q.0) q p e)
taken_decoded (Err d) slot a p e = absurd (cc)

-- a decoded code has the slot that it was decoded at
abbrev slot_in : Result (Code × ℕ) ℕ → ℕ → ℕ
slot_in (Ok p) d = p.0.slot
slot_in (Err e) d = d

slot_if : (b : Bool) (x : Code) (n : ℕ) → slot_in (cond b (Ok (x, n)) (Err 44)) x.slot ≡ x.slot
slot_if true x n = refl
slot_if false x n = refl

slot_of : (w : Result ℕ ℕ) (b : ℕ → Bool) (x : Code) → slot_in (bind w (λ n. cond (b n) (Ok (x, n)) (Err 44))) x.slot ≡ x.slot
slot_of (Ok n) b x = slot_if (b n) x n
slot_of (Err d) b x = refl

decoded-slot : (slot : ℕ) (bs : List ℕ) (p : Code × ℕ) → decoded_in slot bs ≡ Ok p → p.0.slot ≡ slot
decoded-slot slot bs p e =
    let op : ℕ = get_or bs 1 0 % 16 in
    let info : ℕ = get_or bs 1 0 / 16 in
    ap (λ r. slot_in r slot) (sym e) ∙ slot_of (width op info) (λ n. leb (2 * n) (length bs)) (record { slot = slot; offset = get_or bs 0 0; operation = meant op info bs })

slot_at : (k frame : ℕ) (s : Progress) (slot : ℕ) (bs : List ℕ) (x : Code) (rest : List (Result Code InfoFault)) → outcomes k frame s slot bs ≡ Ok x ∷ rest → x.slot ≡ slot
unfolding outcomes
slot_at zero frame s slot bs x rest e = absurd (cc)
slot_at (suc k) frame s slot bs x rest e =
    let f = followed_first (taken frame s slot bs) _ x rest (some_where (leb 2 (length bs)) _ x rest e) in
    let d = taken_decoded (decoded_in slot bs) slot (λ c. at_slot (Some slot) (admitted frame s c)) f.0 f.1 in
    ap (λ c. c.slot) (sym f.2) ∙ decoded-slot slot bs f.0.0 d

first_slot : (c : Codes) (x : Code) (rest : List (Result Code InfoFault)) → codes_left c ≡ Ok x ∷ rest → x.slot ≡ c.slot
first_slot c x rest e = slot_at (length (slots_left c)) c.frame c.sofar c.slot (slots_left c) x rest e

pub both_ok : {T U E D : Type 0} (f : T → U) (g : E → D) (r : Result T E) (x : U) → result_map_both f g r ≡ Ok x → is_ok r ≡ true
both_ok f g (Ok y) x e = refl
both_ok f g (Err d) x e = absurd (cc)

-- the next answer of an iterator with these codes left is the first of them, and the rest goes on
module _ (c : Codes) (cs : List Code) (r : Result Code InfoRefusal) (rs : List (Result Code InfoFault)) (left : codes_left c ≡ map Ok cs) (next : codes_left c ≡ told r ∷ rs) where
  pub next_ok : is_ok r ≡ true
  next_ok = let f = good_first cs (told r) rs (sym left ∙ next) in both_ok (λ x. x) info_fault r f.0 f.3

  pub next_is : (x : Code) → r ≡ Ok x → (rest : List Code) × (cs ≡ x ∷ rest) × (rs ≡ map Ok rest)
  next_is x e =
      let f = good_first cs (told r) rs (sym left ∙ next) in
      let d = sym (ap told e) ∙ f.3 in
      let same : f.0 ≡ x = cc in
      (f.1, f.2 ∙ ap (λ y. y ∷ f.1) same, f.4)

  pub next_slot : (x : Code) → r ≡ Ok x → x.slot ≡ c.slot
  next_slot x e = first_slot c x rs (next ∙ ap (λ q. told q ∷ rs) e)
