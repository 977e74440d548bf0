-- The numbers of a record, one by one.
use Rattle.std.proofs.Common.{◌≡◌, ℕ, suc, ◌+◌, ◌-◌, ◌^◌, ◌<◌, List, [], ◌∷◌, ◌++◌, Some, None, Ok, Err, Option, Result, sym, refl, ap, ◌∙◌, subst, append_assoc, arith}
use Rattle.protocol.specs.Cuts.{front, Handed}
use Rattle.protocol.specs.Reading.{number_of}
use Rattle.protocol.specs.Records.{followed, numbers_of}
use Rattle.protocol.specs.declared.bad.Bad.{Bad}
use Rattle.protocol.specs.declared.bad.Bad.TheVariants.{MissingPart}

-- some numbers before those that are still read
abbrev pub preceded : List ℕ → Result (List ℕ) Bad → Result (List ℕ) Bad
preceded ns (Err e) = Err e
preceded ns (Ok ms) = Ok (ns ++ ms)

preceded_one : (ns : List ℕ) (n : ℕ) (r : Result (List ℕ) Bad) → preceded ns (followed (Ok n) r) ≡ preceded (ns ++ n ∷ []) r
preceded_one ns n (Err e) = refl
preceded_one ns n (Ok ms) = ap Ok (sym (append_assoc ns (n ∷ []) ms))

-- the front of what is left is read
read_front : (k : ℕ) (o : Option (List ℕ)) (p : List ℕ) (q : Option (List ℕ)) → Handed 46 o (Some p) q → numbers_of (suc k) o ≡ followed (number_of (2 ^ 64) p) (numbers_of k q)
read_front k None p q h = absurd (grind arith)
read_front k (Some bs) p q h =
    let same : p ≡ front 46 bs = grind arith in
    let rest = h.1 in
    cc

module _ (count i : ℕ) (within : i < count) (ns : List ℕ) (o : Option (List ℕ)) where
  left : preceded ns (numbers_of (count - i) o) ≡ preceded ns (numbers_of (suc (count - (i + 1))) o)
  left = let one : count - i ≡ suc (count - (i + 1)) = omega arith in ap (λ k. preceded ns (numbers_of k o)) one

  pub numbers_missing : o ≡ None → preceded ns (numbers_of (count - i) o) ≡ Err MissingPart
  numbers_missing is = left ∙ ap (λ v. preceded ns (numbers_of (suc (count - (i + 1))) v)) is

  module _ (s : ℕ) (dot : s ≡ 46) (p : List ℕ) (q : Option (List ℕ)) (handed : Handed s o (Some p) q) where
    reads : (r : Result ℕ Bad) → number_of (2 ^ 64) p ≡ r → preceded ns (numbers_of (count - i) o) ≡ preceded ns (followed r (numbers_of (count - (i + 1)) q))
    reads r is = left ∙ ap (preceded ns) (read_front (count - (i + 1)) o p q (subst (λ v. Handed v o (Some p) q) dot handed) ∙ ap (λ v. followed v (numbers_of (count - (i + 1)) q)) is)

    pub numbers_more : (n : ℕ) → number_of (2 ^ 64) p ≡ Ok n → preceded ns (numbers_of (count - i) o) ≡ preceded (ns ++ n ∷ []) (numbers_of (count - (i + 1)) q)
    numbers_more n is = reads (Ok n) is ∙ preceded_one ns n (numbers_of (count - (i + 1)) q)

    pub numbers_stop : (e : Bad) → number_of (2 ^ 64) p ≡ Err e → preceded ns (numbers_of (count - i) o) ≡ Err e
    numbers_stop e is = reads (Err e) is
