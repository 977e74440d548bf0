-- The loops over codes and entries, step by step.
use Rattle.std.proofs.Common.{◌≡◌, ℕ, ◌+◌, ◌<◌, ◌≤◌, Bool, true, false, cond, eqb, List, [], ◌∷◌, ◌++◌, map, length, get_or, take, drop, set, is_ok, None, Ok, Err, Result, sym, refl, ap, ◌∙◌, arith}
use Rattle.std.proofs.lemmas.List.{append-nil, append_assoc, length_push, length-append, take_more, set_at, length-take-le, at_drop_more, at_drop_all, take_at, drop_at, drop-drop}
use Rattle.std.proofs.lemmas.Bool.{false≢true}
use Rattle.infos.specs.Codes.{bind}
use Rattle.infos.specs.Infos.{InfoOf, info_at}
use Rattle.infos.specs.Refusals.{InfoFault, fault_at}
use Rattle.infos.specs.declared.code.Code.{Code}
use Rattle.infos.proofs.Outcomes.{more, all_good, good_is, good_length, few_left}
use Rattle.infos.specs.Codings.{codes_left}
use Rattle.infos.specs.Listings.{listed}
use Rattle.infos.specs.Sequences.{gathered}
use Rattle.infos.specs.declared.codes.Codes.{Codes}
use Rattle.plan.specs.declared.text.StepRecord.{StepRecord}
use Rattle.tables.specs.declared.entry.Entry.{Entry}
use Rattle.readback.specs.Readings.{step_of_code, steps_of_codes, found, counted_in, codes_in, steps_in, function_steps, read_steps, joint}

abbrev Steps : Type 0
Steps = Result (List StepRecord) InfoFault

-- the codes of an info whose codes are good, as an iterator over them has them before the first
pub codes_start : (i : InfoOf) (it : Codes) → gathered (codes_left it) ≡ codes_in i → is_ok (codes_in i) ≡ true → (rest : List Code) × (codes_left it ≡ map Ok rest) × (codes_in i ≡ Ok rest) × (length rest ≤ 255)
codes_start i it e ok =
    let left = all_good (codes_left it) (ap is_ok e ∙ ok) in
    let rest : List Code = listed (gathered (codes_left it)) in
    let long : length (codes_left it) ≡ length rest = ap length left ∙ good_length rest in
    (rest, left, good_is (codes_in i) ok ∙ ap (λ r. Ok (listed r)) (sym e), omega (arith, few_left it, it.few, long))

pub ok_same : {X : Type 0} (x y : X) → ◌≡◌ {A = Result X InfoFault} (Ok x) (Ok y) → x ≡ y
ok_same x y h = cc

pub no_items : {X : Type 0} (l : List X) → length l ≡ 0 → l ≡ []
no_items [] e = refl
no_items (x ∷ l) e = absurd (omega arith)

-- steps of codes after codes
after_none : (r : Steps) → r ≡ bind r (λ ts. Ok (ts ++ []))
after_none (Ok ts) = ap Ok (sym (append-nil ts))
after_none (Err e) = refl

regrouped : (x : Result StepRecord InfoFault) (r t : Steps) →
    bind x (λ s. bind (bind r (λ ss. bind t (λ ts. Ok (ts ++ ss)))) (λ us. Ok (us ++ s ∷ []))) ≡ bind (bind x (λ s. bind r (λ ss. Ok (ss ++ s ∷ [])))) (λ ss. bind t (λ ts. Ok (ts ++ ss)))
regrouped (Ok s) (Ok ss) (Ok ts) = ap Ok (append_assoc ts ss (s ∷ []))
regrouped (Ok s) (Ok ss) (Err e) = refl
regrouped (Ok s) (Err e) t = refl
regrouped (Err e) r t = refl

count_push : (n : ℕ) (r : Steps) (s : StepRecord) → more n (counted_in (bind r (λ ss. Ok (ss ++ s ∷ [])))) ≡ more (n + 1) (counted_in r)
count_push n (Ok ss) s = ap Ok (omega (arith, length_push ss s))
count_push n (Err e) s = refl

first_of : (x : Result StepRecord InfoFault) (r : Steps) (ts : List StepRecord) → bind x (λ s. bind r (λ ss. Ok (ss ++ s ∷ []))) ≡ Ok ts →
    (s : StepRecord) × (rest : List StepRecord) × (x ≡ Ok s) × (r ≡ Ok rest) × (ts ≡ rest ++ s ∷ [])
first_of (Ok s) (Ok ss) ts e = (s, ss, refl, refl, (let d = sym e in cc))
first_of (Ok s) (Err d) ts e = absurd (cc)
first_of (Err d) r ts e = absurd (cc)

module _ (f o : ℕ) where
  pub steps-append : (cs ds : List Code) → steps_of_codes f o (cs ++ ds) ≡ bind (steps_of_codes f o cs) (λ ss. bind (steps_of_codes f o ds) (λ ts. Ok (ts ++ ss)))
  unfolding steps_of_codes
  steps-append [] ds = after_none (steps_of_codes f o ds)
  steps-append (c ∷ cs) ds =
      ap (λ r. bind (step_of_code f o c) (λ s. bind r (λ us. Ok (us ++ s ∷ [])))) (steps-append cs ds) ∙ regrouped (step_of_code f o c) (steps_of_codes f o cs) (steps_of_codes f o ds)

  pub no_steps : steps_of_codes f o [] ≡ Ok []
  unfolding steps_of_codes
  no_steps = refl

  one_step : (c : Code) (s : StepRecord) → step_of_code f o c ≡ Ok s → steps_of_codes f o (c ∷ []) ≡ Ok (s ∷ [])
  unfolding steps_of_codes
  one_step c s e = ap (λ r. bind r (λ x. Ok (x ∷ []))) e

  -- one more code
  pub steps_push : (cs : List Code) (c : Code) (ss : List StepRecord) (s : StepRecord) → steps_of_codes f o cs ≡ Ok ss → step_of_code f o c ≡ Ok s → steps_of_codes f o (cs ++ c ∷ []) ≡ Ok (s ∷ ss)
  steps_push cs c ss s a b =
      steps-append cs (c ∷ [])
      ∙ ap (λ r. bind r (λ us. bind (steps_of_codes f o (c ∷ [])) (λ ts. Ok (ts ++ us)))) a
      ∙ ap (λ r. bind r (λ ts. Ok (ts ++ ss))) (one_step c s b)

  -- of codes that begin with one
  pub first_refused : (all cs : List Code) (c : Code) (e : InfoFault) → all ≡ c ∷ cs → step_of_code f o c ≡ Err e → steps_of_codes f o all ≡ Err e
  unfolding steps_of_codes
  first_refused all cs c e is h = ap (steps_of_codes f o) is ∙ ap (λ r. bind r (λ s. bind (steps_of_codes f o cs) (λ ss. Ok (ss ++ s ∷ [])))) h

  -- a count of steps, n of which are behind
  pub count_one : (n : ℕ) (all cs : List Code) (c : Code) (s : StepRecord) → all ≡ c ∷ cs → step_of_code f o c ≡ Ok s → more n (counted_in (steps_of_codes f o all)) ≡ more (n + 1) (counted_in (steps_of_codes f o cs))
  unfolding steps_of_codes
  count_one n all cs c s is e = ap (λ l. more n (counted_in (steps_of_codes f o l))) is ∙ ap (λ x. more n (counted_in (bind x (λ s. bind (steps_of_codes f o cs) (λ ss. Ok (ss ++ s ∷ [])))))) e ∙ count_push n (steps_of_codes f o cs) s

  pub count_none : (n : ℕ) → more n (counted_in (steps_of_codes f o [])) ≡ Ok n
  unfolding steps_of_codes
  count_none n = ap Ok (omega arith)

  -- the step of the first code comes last
  pub step_first : (all cs : List Code) (c : Code) (ts : List StepRecord) → all ≡ c ∷ cs → steps_of_codes f o all ≡ Ok ts →
      (s : StepRecord) × (rest : List StepRecord) × (step_of_code f o c ≡ Ok s) × (steps_of_codes f o cs ≡ Ok rest) × (ts ≡ rest ++ s ∷ [])
  unfolding steps_of_codes
  step_first all cs c ts is e = first_of (step_of_code f o c) (steps_of_codes f o cs) ts (sym (ap (steps_of_codes f o) is) ∙ e)

-- the codes of steps that are not refused are not refused
pub codes_good : (r : Result (List Code) InfoFault) (g : List Code → Steps) → is_ok (bind r g) ≡ true → is_ok r ≡ true
codes_good (Ok cs) g k = refl
codes_good (Err e) g k = k

-- one more element before those written
pub put_before : {X : Type 0} (es zs : List X) (n m : ℕ) (x : X) → m ≡ n + 1 → m ≤ length es → set (take m es ++ zs) n x ≡ take n es ++ (x ∷ zs)
put_before es zs n m x e h =
    let h' : n < length es = omega arith in
    let front : take m es ++ zs ≡ take n es ++ (get_or es n x ∷ zs) = ap (λ k. take k es ++ zs) e ∙ ap (λ l. l ++ zs) (take_more es n x h') ∙ append_assoc (take n es) (get_or es n x ∷ []) zs in
    ap (λ l. set l n x) front ∙ set_at (take n es) (get_or es n x) zs x n (length-take-le n es (omega arith))

abbrev All : Type 0
All = Result (List (List StepRecord)) InfoFault

-- with so many steps read, how many there are after what is left
abbrev pub counted_on : ℕ → All → Result ℕ InfoFault
counted_on n r = bind r (λ rest. Ok (n + length (joint rest)))

-- a function before others
abbrev before : Steps → All → All
before x r = bind x (λ ss. bind r (λ rest. Ok (ss ∷ rest)))

pub counted_more : (n m : ℕ) (x : Steps) (r : All) → counted_in x ≡ Ok m → counted_on n (before x r) ≡ counted_on (n + m) r
unfolding joint
counted_more n m (Ok ss) (Ok rest) e =
    let is : length ss ≡ m = cc in
    ap Ok (omega (arith, length-append ss (joint rest), is))
counted_more n m (Ok ss) (Err d) e = refl
counted_more n m (Err d) r e = let z : ◌≡◌ {A = ℕ} 0 1 = cc in absurd (omega arith)

pub counted_stop : (n : ℕ) (d : InfoFault) (x : Steps) (r : All) → counted_in x ≡ Err d → counted_on n (before x r) ≡ Err d
counted_stop n d (Ok ss) r e = let z : ◌≡◌ {A = ℕ} 0 1 = cc in absurd (omega arith)
counted_stop n d (Err f) r e = e

module _ (area : List ℕ) (start : ℕ) (es : List Entry) (k : ℕ) where
  pub read_more : (d : Entry) → k < length es → read_steps area start (drop k es) ≡ before (function_steps area start (get_or es k d)) (read_steps area start (drop (k + 1) es))
  unfolding read_steps
  read_more d h = at_drop_more (read_steps area start) es k d h

  pub read_all : length es ≤ k → read_steps area start (drop k es) ≡ Ok []
  unfolding read_steps
  read_all h = at_drop_all (read_steps area start) es k h

-- the first of the functions that are left
pub first_left : (x : Steps) (r : All) (rest : List (List StepRecord)) → Ok rest ≡ before x r →
    (ss : List StepRecord) × (others : List (List StepRecord)) × (x ≡ Ok ss) × (r ≡ Ok others) × (rest ≡ ss ∷ others)
first_left (Ok ss) (Ok others) rest e = (ss, others, refl, refl, cc)
first_left (Ok ss) (Err d) rest e = let z : ◌≡◌ {A = ℕ} 0 1 = cc in absurd (omega arith)
first_left (Err d) r rest e = let z : ◌≡◌ {A = ℕ} 0 1 = cc in absurd (omega arith)

pub joint-append : (xs ys : List (List StepRecord)) → joint (xs ++ ys) ≡ joint xs ++ joint ys
unfolding joint
joint-append [] ys = refl
joint-append (x ∷ xs) ys = ap (λ l. x ++ l) (joint-append xs ys) ∙ sym (append_assoc x (joint xs) (joint ys))

pub joint_one : (ss : List StepRecord) → joint (ss ∷ []) ≡ ss
unfolding joint
joint_one ss = append-nil ss

pub joint-nil : joint [] ≡ []
unfolding joint
joint-nil = refl

pub joint_push : (xs : List (List StepRecord)) (ss : List StepRecord) → joint (xs ++ ss ∷ []) ≡ joint xs ++ ss
joint_push xs ss = joint-append xs (ss ∷ []) ∙ ap (λ l. joint xs ++ l) (joint_one ss)

-- more written after what was written
pub write_more : {X : Type 0} (p old ss : List X) (at : ℕ) → length p ≡ at →
    take at (p ++ drop at old) ++ (ss ++ drop (at + length ss) (p ++ drop at old)) ≡ (p ++ ss) ++ drop (at + length ss) old
write_more p old ss at l =
    let rest : drop (at + length ss) (p ++ drop at old) ≡ drop (at + length ss) old = sym (drop-drop (length ss) at (p ++ drop at old)) ∙ ap (drop (length ss)) (drop_at p (drop at old) at l) ∙ drop-drop (length ss) at old in
    ap (λ f. f ++ (ss ++ drop (at + length ss) (p ++ drop at old))) (take_at p (drop at old) at l) ∙ ap (λ r. p ++ (ss ++ r)) rest ∙ sym (append_assoc p ss (drop (at + length ss) old))

-- a function with steps has no flags
flagless : (b : Bool) (r : Steps) → is_ok (cond b r (Err (fault_at None 42))) ≡ true → cond b r (Err (fault_at None 42)) ≡ r
flagless true r k = refl
flagless false r k = absurd (false≢true k)

pub function_is : (area : List ℕ) (start : ℕ) (e : Entry) (i : InfoOf) → Ok i ≡ info_at area start e.info.0 → is_ok (function_steps area start e) ≡ true → function_steps area start e ≡ steps_in i
function_is area start e i h k =
    let g : InfoOf → Steps = λ j. cond (eqb j.flags 0) (steps_in j) (Err (fault_at None 42)) in
    let same : function_steps area start e ≡ g i = ap (λ r. bind r g) (sym h) in
    same ∙ flagless (eqb i.flags 0) (steps_in i) (sym (ap is_ok same) ∙ k)

pub counted-found : {X : Type 0} (r : Result (List X) InfoFault) (n : ℕ) → Ok n ≡ counted_in r → length (found r) ≡ n
counted-found (Ok xs) n e = cc
counted-found (Err d) n e = let z : ◌≡◌ {A = ℕ} 0 1 = cc in absurd (omega arith)

pub found_is : {X : Type 0} (r : Result (List X) InfoFault) → is_ok r ≡ true → r ≡ Ok (found r)
found_is (Ok xs) k = refl
found_is (Err e) k = absurd (false≢true k)

-- the functions that are read are as many as the entries
count_at : (x : Steps) (r : All) (rest : List (List StepRecord)) (n : ℕ) → before x r ≡ Ok rest → ((others : List (List StepRecord)) → r ≡ Ok others → length others ≡ n) → length rest ≡ n + 1
count_at (Ok ss) (Ok others) rest n e f =
    let is : rest ≡ ss ∷ others = cc in
    ap length is ∙ omega (arith, f others refl)
count_at (Ok ss) (Err d) rest n e f = let z : ◌≡◌ {A = ℕ} 0 1 = cc in absurd (omega arith)
count_at (Err d) r rest n e f = let z : ◌≡◌ {A = ℕ} 0 1 = cc in absurd (omega arith)

pub count_read : (area : List ℕ) (start : ℕ) (es : List Entry) (rest : List (List StepRecord)) → read_steps area start es ≡ Ok rest → length rest ≡ length es
unfolding read_steps
count_read area start [] rest e = let is : rest ≡ [] = cc in ap length is
count_read area start (x ∷ es) rest e =
    count_at (function_steps area start x) (read_steps area start es) rest (length es) e (λ others h. count_read area start es others h) ∙ omega arith
