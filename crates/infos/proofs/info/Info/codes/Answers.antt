use Rattle.std.proofs.Common.{◌≡◌, List, ℕ, length, take, ap, ◌∙◌}
use Rattle.std.proofs.lemmas.List.{take_all, take_min}
use Rattle.infos.specs.Codings.{codes_left}
use Rattle.infos.specs.Sequences.{codes_of, before_codes, gathered}
use Rattle.infos.proofs.Outcomes.{gathered-outcomes}
use Rattle.infos.proofs.info.Info.codes.Goals as goal

pub returns : goal.returns
unfolding codes_of
returns c =
    let i = c.args.self.now in
    let e = c.new.ensures in
    let few : List ℕ = take 510 i.slots.now in
    let slots : c.new.result.slots.now ≡ few = e.slots ∙ ap (λ n. take n i.slots.now) c.min-most.ensures ∙ take_min 510 i.slots.now in
    let value : gathered (codes_left c.new.result) ≡ codes_of i.prologue i.frame_register few =
    simp (slots, e.slot, e.frame, e.sofar) (gathered-outcomes (length few) i.frame_register (before_codes i.prologue) 0 few) in
    record { value = value; whole = λ h. value ∙ ap (codes_of i.prologue i.frame_register) (take_all 510 i.slots.now h) }
