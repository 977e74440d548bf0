-- Reading an epilogue's bytes, one at a time.
use Rattle.std.proofs.Common.{◌≡◌, ℕ, zero, suc, ◌+◌, ◌-◌, ◌≤◌, Bool, true, false, List, [], ◌∷◌, Some, None, Ok, Err, Result, Option, is_ok, refl, sym, ap, ◌∙◌, arith}
use Rattle.std.specs.Option.{option_map}
use Rattle.std.specs.Result.{result_map_both}
use Rattle.std.proofs.lemmas.Bool.{true≢false}
use Rattle.layout.specs.declared.address.Address.{Address}
use Rattle.memory.specs.Byte.{Byte, shown, lacking}
use Rattle.memory.specs.Reads.{answer}
use Rattle.memory.specs.declared.reading.Lacking.{Lacking}
use Rattle.unwind.specs.Epilogues.{read_at, going_on, next, actions, found, listed}
use Rattle.unwind.specs.declared.epilogue.Action.{Action}
use Rattle.unwind.specs.declared.epilogue.Part.{Part}
use Rattle.unwind.specs.declared.epilogue.Next.{Next}
use Rattle.unwind.specs.declared.epilogue.Next.TheVariants.{On, Whole, Found, Misfit}

abbrev place : Result ℕ Lacking → ℕ
place (Ok x) = 0
place (Err e) = e.at.0

-- a byte that is lacking
stopped : {X : Type 0} (y : Byte) (a : Address) (e : Lacking) (k : ℕ → Result X ℕ) → Err e ≡ answer y a → read_at y a.0 k ≡ Err e.at.0
stopped (shown b) a e k h = absurd (true≢false (sym (ap is_ok h)))
stopped lacking a e k h = ap (λ r. Err (place r)) (sym h)

abbrev value : Result ℕ Lacking → ℕ
value (Ok x) = x
value (Err e) = 0

-- a byte that is shown
went : {X : Type 0} (y : Byte) (a : Address) (b : ℕ) (k : ℕ → Result X ℕ) → Ok b ≡ answer y a → read_at y a.0 k ≡ k b
went (shown c) a b k h = ap (λ r. k (value r)) (sym h)
went lacking a b k h = absurd (true≢false (ap is_ok h))

-- an opening or a pop does not change whether there is an epilogue
found_whole : (a : Action) (r : Result (Option (List Action)) ℕ) → found (result_map_both (option_map (λ rest. a ∷ rest)) (λ e. e) r) ≡ found r
found_whole a (Ok None) = refl
found_whole a (Ok (Some xs)) = refl
found_whole a (Err e) = refl

abbrev pub Unfound : Result Bool ℕ → Bool
Unfound (Ok b) = b
Unfound (Err e) = false

listed_whole : (a : Action) (r : Result (Option (List Action)) ℕ) → found r ≡ Ok true → listed (result_map_both (option_map (λ rest. a ∷ rest)) (λ e. e) r) ≡ a ∷ listed r
listed_whole a (Ok None) h = absurd (true≢false (sym (ap Unfound h)))
listed_whole a (Ok (Some xs)) h = refl
listed_whole a (Err e) h = absurd (true≢false (sym (ap Unfound h)))

-- one that is found is neither refused nor missing
pub not_refused : (e : ℕ) → Err e ≡ Ok true → ⊥
not_refused e h = true≢false (sym (ap Unfound h))

pub not_missing : ◌≡◌ {A = Result Bool ℕ} (Ok false) (Ok true) → ⊥
not_missing h = true≢false (sym (ap Unfound h))

-- one byte more, at the address of a read
module _ (f : ℕ) (shows : ℕ → Byte) (p : Part) (a : Address) (left : ℕ) (h : 1 ≤ left) where
  abbrev pub later : Part → Result (Option (List Action)) ℕ
  later q = actions f q (a.0 + 1) (left - 1) shows

  unrolled : (n : ℕ) → 1 ≤ n → actions f p a.0 n shows ≡ read_at (shows a.0) a.0 (λ b. going_on (next f p b) (λ q. actions f q (a.0 + 1) (n - 1) shows))
  unfolding actions
  unrolled zero l = absurd (omega arith)
  unrolled (suc n) l =
      let less : n ≡ suc n - 1 = omega arith in
      ap (λ m. read_at (shows a.0) a.0 (λ b. going_on (next f p b) (λ q. actions f q (a.0 + 1) m shows))) less

  pub stops : (e : Lacking) → Err e ≡ answer (shows a.0) a → Err e.at.0 ≡ found (actions f p a.0 left shows)
  stops e r = sym (ap found (unrolled left h ∙ stopped (shows a.0) a e (λ b. going_on (next f p b) later) r))

  -- what the byte makes of it
  module _ (b : ℕ) (r : Ok b ≡ answer (shows a.0) a) (n : Next) (m : n ≡ next f p b) where
    turned : actions f p a.0 left shows ≡ going_on n later
    turned = unrolled left h ∙ went (shows a.0) a b (λ c. going_on (next f p c) later) r ∙ ap (λ k. going_on k later) (sym m)

    pub finds : n ≡ Found → Ok true ≡ found (actions f p a.0 left shows)
    finds e = sym (ap found (turned ∙ ap (λ k. going_on k later) e))

    pub misfits : n ≡ Misfit → Ok false ≡ found (actions f p a.0 left shows)
    misfits e = sym (ap found (turned ∙ ap (λ k. going_on k later) e))

    pub goes_on : (q : Part) → n ≡ On q → found (actions f p a.0 left shows) ≡ found (later q)
    goes_on q e = ap found (turned ∙ ap (λ k. going_on k later) e)

    pub goes_whole : (act : Action) (q : Part) → n ≡ Whole act q → found (actions f p a.0 left shows) ≡ found (later q)
    goes_whole act q e = ap found (turned ∙ ap (λ k. going_on k later) e) ∙ found_whole act (later q)

    pub lists_on : (q : Part) → n ≡ On q → listed (actions f p a.0 left shows) ≡ listed (later q)
    lists_on q e = ap listed (turned ∙ ap (λ k. going_on k later) e)

    pub lists_whole : (act : Action) (q : Part) → n ≡ Whole act q → found (later q) ≡ Ok true → listed (actions f p a.0 left shows) ≡ act ∷ listed (later q)
    lists_whole act q e h = ap listed (turned ∙ ap (λ k. going_on k later) e) ∙ listed_whole act (later q) h

    pub lists_none : n ≡ Found → listed (actions f p a.0 left shows) ≡ []
    lists_none e = ap listed (turned ∙ ap (λ k. going_on k later) e)

pub nothing_left : (f : ℕ) (shows : ℕ → Byte) (p : Part) (at left : ℕ) → left ≡ 0 → Ok false ≡ found (actions f p at left shows)
unfolding actions
nothing_left f shows p at zero e = refl
nothing_left f shows p at (suc n) e = absurd (omega (arith, e))
