use Rattle.std.proofs.Common.{◌||◌, refl, sym, ap, ◌∙◌}
use Rattle.infos.specs.Codings.{codes_left}
use Rattle.infos.specs.Listings.{listed}
use Rattle.infos.specs.Sequences.{gathered}
use Rattle.infos.proofs.Outcomes.{all_good, good_none, next_ok, next_is}
use Rattle.unwind.specs.Bases.{frame_is_set}
use Rattle.unwind.proofs.base.is_frame_set.Goals as goal

pub loop-code-init : goal.loop-code-init
loop-code-init c =
    record { can = tt; ends = tt; rest = listed (gathered (codes_left c.args.codes)); left = ap codes_left c.into_iter-code-iterator.ensures.into_iter_gives ∙ all_good (codes_left c.args.codes) c.requires; same = refl }

pub unwrap-code-requires : goal.unwrap-code-requires
unwrap-code-requires c = next_ok c.loop-code.code-iterator _ _ _ c.loop-code.invariant.left c.in-Some.ensures.steps

pub returns-then-is_set_by : goal.returns-then-is_set_by
returns-then-is_set_by c =
    let inv = c.loop-code.invariant in
    let f = next_is c.loop-code.code-iterator _ _ _ inv.left c.in-Some.ensures.steps _ c.unwrap-code.ensures in
    sym (inv.same ∙ ap (frame_is_set c.args.limit) f.1 ∙ ap (λ b. b || frame_is_set c.args.limit f.0) (sym c.is_set_by.ensures ∙ c.if-is_set_by.true))

pub loop-code-preserved : goal.loop-code-preserved
loop-code-preserved c =
    let inv = c.loop-code.invariant in
    let f = next_is c.loop-code.code-iterator _ _ _ inv.left c.in-Some.ensures.steps _ c.unwrap-code.ensures in
    record { can = tt; ends = tt; rest = f.0; left = f.2; same = inv.same ∙ ap (frame_is_set c.args.limit) f.1 ∙ ap (λ b. b || frame_is_set c.args.limit f.0) (sym c.is_set_by.ensures ∙ c.if-is_set_by.false) }

pub returns : goal.returns
returns c =
    let inv = c.loop-code.invariant in
    let none = good_none inv.rest (sym inv.left ∙ c.in-None.ensures.steps.0) in
    sym (inv.same ∙ ap (frame_is_set c.args.limit) none)
