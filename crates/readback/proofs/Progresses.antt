-- The progress over codes, whose type has no name outside its crate.
use Rattle.infos.specs.Sequences.{before_codes}

abbrev TypeOf : {X : Type 0} → X → Type 0
TypeOf {X} x = X

abbrev pub Progress : Type 0
Progress = TypeOf (before_codes 0)
