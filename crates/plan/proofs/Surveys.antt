-- What is counted and found among steps, by the library's words.
use Rattle.std.proofs.Common.{◌≡◌, ℕ, zero, suc, ◌+◌, ◌<◌, Bool, ◌||◌, cond, not, List, [], ◌∷◌, map, length, get_or, Option, Some, None, unwrap_or, refl, sym, ap, ◌∙◌, arith}
use Rattle.std.specs.List.{count_by, list_any}
use Rattle.std.proofs.lemmas.List.Recursion.{is_count_by}
use Rattle.steps.specs.declared.set_frame.SetFrameStep.{SetFrameStep}
use Rattle.plan.specs.Steps.{step_of, other_than_push, pushed, block, frame}
use Rattle.plan.specs.declared.step.Step.{Step}
use Rattle.plan.specs.declared.step.Step.TheVariants.{Push, Allocate, SetFrame, Save}
use Rattle.plan.specs.declared.text.StepRecord.{StepRecord}

pushed_one : (s : Step) (ss : List Step) → pushed (s ∷ ss) ≡ cond (not (other_than_push s)) (1 + pushed ss) (pushed ss)
unfolding pushed
pushed_one (Push k) ss = refl
pushed_one (Allocate k) ss = refl
pushed_one (SetFrame k) ss = refl
pushed_one (Save k) ss = refl

pub pushed_counted : (ss : List Step) → pushed ss ≡ count_by (λ s. not (other_than_push s)) ss
unfolding pushed
pushed_counted ss = is_count_by pushed (λ s. not (other_than_push s)) refl pushed_one ss

-- r is what h gives of the first element of which it gives something
abbrev pub IsFirstGiven : {X Y : Type 0} → (X → Option Y) → List X → Option Y → Type 0
IsFirstGiven {X} {Y} h xs r =
    (r ≡ None → (k : ℕ) (d : X) → k < length xs → h (get_or xs k d) ≡ None)
    × ((y : Y) → r ≡ Some y → (i : ℕ) × (i < length xs) × ((d : X) → h (get_or xs i d) ≡ Some y) × ((k : ℕ) (d : X) → k < i → h (get_or xs k d) ≡ None))

-- a word of the list that goes by that element
module _ {X Y Z : Type 0} (h : X → Option Y) (z : Option Y → Z) (G : List X → Z) (nil : G [] ≡ z None) (one : (x : X) (xs : List X) → (h x ≡ None → G (x ∷ xs) ≡ G xs) × ((y : Y) → h x ≡ Some y → G (x ∷ xs) ≡ z (Some y))) where
  none_given : (xs : List X) → ((k : ℕ) (d : X) → k < length xs → h (get_or xs k d) ≡ None) → G xs ≡ z None
  none_given [] a = nil
  none_given (x ∷ xs) a = (one x xs).0 (a 0 x (omega arith)) ∙ none_given xs (λ k d l. a (suc k) d (omega arith))

  given_at : (y : Y) (i : ℕ) (xs : List X) → i < length xs → ((d : X) → h (get_or xs i d) ≡ Some y) → ((k : ℕ) (d : X) → k < i → h (get_or xs k d) ≡ None) → G xs ≡ z (Some y)
  given_at y i [] l p q = absurd (omega (arith, l))
  given_at y zero (x ∷ xs) l p q = (one x xs).1 y (p x)
  given_at y (suc i) (x ∷ xs) l p q = (one x xs).0 (q 0 x (omega arith)) ∙ given_at y i xs (omega (arith, l)) p (λ k d m. q (suc k) d (omega arith))

  pub first_given : (r : Option Y) (xs : List X) → IsFirstGiven h xs r → z r ≡ G xs
  first_given None xs f = sym (none_given xs (f.0 refl))
  first_given (Some y) xs f = let g = f.1 y refl in sym (given_at y g.0 xs g.1 g.2 g.3)

abbrev pub frame_of : Step → Option SetFrameStep
frame_of (Push k) = None
frame_of (Allocate k) = None
frame_of (SetFrame k) = Some k
frame_of (Save k) = None

abbrev pub size_of : Step → Option ℕ
size_of (Push k) = None
size_of (Allocate k) = Some k.size
size_of (SetFrame k) = None
size_of (Save k) = None

frame_one : (s : Step) (ss : List Step) → (frame_of s ≡ None → frame (s ∷ ss) ≡ frame ss) × ((y : SetFrameStep) → frame_of s ≡ Some y → frame (s ∷ ss) ≡ Some y)
unfolding frame
frame_one (Push k) ss = (λ e. refl, λ y e. absurd cc)
frame_one (Allocate k) ss = (λ e. refl, λ y e. absurd cc)
frame_one (SetFrame k) ss = (λ e. absurd cc, λ y e. e)
frame_one (Save k) ss = (λ e. refl, λ y e. absurd cc)

block_one : (s : Step) (ss : List Step) → (size_of s ≡ None → block (s ∷ ss) ≡ block ss) × ((y : ℕ) → size_of s ≡ Some y → block (s ∷ ss) ≡ y)
unfolding block
block_one (Push k) ss = (λ e. refl, λ y e. absurd cc)
block_one (Allocate k) ss = (λ e. absurd cc, λ y e. ap (λ o. unwrap_or o 0) e)
block_one (SetFrame k) ss = (λ e. refl, λ y e. absurd cc)
block_one (Save k) ss = (λ e. refl, λ y e. absurd cc)

pub frame_found : (r : Option SetFrameStep) (rs : List StepRecord) → IsFirstGiven (λ x. frame_of (step_of x)) rs r → r ≡ frame (map step_of rs)
unfolding frame
frame_found r rs f = first_given (λ x. frame_of (step_of x)) (λ o. o) (λ l. frame (map step_of l)) refl (λ x xs. frame_one (step_of x) (map step_of xs)) r rs f

pub block_found : (r : Option ℕ) (rs : List StepRecord) → IsFirstGiven (λ x. size_of (step_of x)) rs r → unwrap_or r 0 ≡ block (map step_of rs)
unfolding block
block_found r rs f = first_given (λ x. size_of (step_of x)) (λ o. unwrap_or o 0) (λ l. block (map step_of l)) refl (λ x xs. block_one (step_of x) (map step_of xs)) r rs f

-- a test of what records mean
pub any_step_of : (p : Step → Bool) (rs : List StepRecord) → list_any (λ r. p (step_of r)) rs ≡ list_any p (map step_of rs)
any_step_of p [] = refl
any_step_of p (r ∷ rs) = ap (λ b. p (step_of r) || b) (any_step_of p rs)
