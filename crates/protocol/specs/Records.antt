-- Records: numbers joined by `.`.
use Rattle.std.specs.Prelude.{ℕ, zero, suc, ◌^◌, List, [], ◌∷◌, Some, None, Ok, Err, Option, Result}
use Rattle.protocol.specs.Cuts.{front, after}
use Rattle.protocol.specs.Reading.{number_of}
use Rattle.protocol.specs.declared.bad.Bad.{Bad}
use Rattle.protocol.specs.declared.bad.Bad.TheVariants.{MissingPart, ExtraPart}

abbrev pub followed : Result ℕ Bad → Result (List ℕ) Bad → Result (List ℕ) Bad
followed (Err e) r = Err e
followed (Ok n) (Err e) = Err e
followed (Ok n) (Ok ns) = Ok (n ∷ ns)

-- just so many numbers in what is left of a text
abbrev pub numbers_of : ℕ → Option (List ℕ) → Result (List ℕ) Bad
numbers_of zero None = Ok []
numbers_of zero (Some bs) = Err ExtraPart
numbers_of (suc n) None = Err MissingPart
numbers_of (suc n) (Some bs) = followed (number_of (2 ^ 64) (front 46 bs)) (numbers_of n (after 46 bs))

abbrev pub record_of : ℕ → List ℕ → Result (List ℕ) Bad
record_of n bs = numbers_of n (Some bs)
