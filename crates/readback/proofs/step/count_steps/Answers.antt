use Rattle.std.proofs.Common.{length, is_ok, sym, ap, ◌∙◌, arith}
use Rattle.std.proofs.lemmas.Result.{err_from_is_err_and}
use Rattle.std.proofs.lemmas.Bool.{false≢true}
use Rattle.infos.specs.Codes.{bind}
use Rattle.infos.specs.Codings.{codes_left}
use Rattle.infos.specs.Infos.{viewed}
use Rattle.infos.specs.Sequences.{gathered}
use Rattle.infos.proofs.Outcomes.{more, more_none, good_none, next_ok, next_is, next_slot}
use Rattle.readback.specs.Readings.{steps_of_codes, counted_in}
use Rattle.readback.proofs.Passes.{codes_start, count_one, count_none, first_refused}
use Rattle.readback.proofs.step.count_steps.Goals as goal

pub loop-code-init : goal.loop-code-init
loop-code-init c =
    let i = viewed c.args.info.now in
    let s = codes_start i c.into_iter-code-iterator.result (ap (λ it. gathered (codes_left it)) c.into_iter-code-iterator.ensures.into_iter_gives ∙ c.codes-code-items.ensures.whole c.requires.0) c.requires.1 in
    record {
      can = tt;
      ends = tt;
      rest = s.0;
      left = s.1;
      few = omega (arith, s.3);
      counts = ap (λ r. counted_in (bind r (steps_of_codes i.frame_register i.frame_offset))) s.2 ∙ more_none _;
    }

pub returns-in_err-code-clause-value : goal.returns-in_err-code-clause-value
returns-in_err-code-clause-value c =
    let ok = next_ok c.loop-code.code-iterator _ _ _ c.loop-code.invariant.left c.in-Some.ensures.steps in
    absurd (false≢true (sym (ap is_ok c.in_err-code.was) ∙ ok))

pub step_of-requires : goal.step_of-requires
step_of-requires c =
    let it = c.loop-code.code-iterator in
    let slot = next_slot it _ _ _ c.loop-code.invariant.left c.in-Some.ensures.steps _ c.in_ok-code.was in
    omega (arith, slot, it.few)

pub returns-in_err-step_of-clause-value : goal.returns-in_err-step_of-clause-value
returns-in_err-step_of-clause-value c =
    let i = viewed c.args.info.now in
    let inv = c.loop-code.invariant in
    let f = next_is c.loop-code.code-iterator _ _ _ inv.left c.in-Some.ensures.steps _ c.in_ok-code.was in
    let p = err_from_is_err_and c.from_residual-in_err-step_of.result c.from_residual-in_err-step_of.ensures.1 in
    rw (p.1, p.2) (sym (inv.counts ∙ ap (λ r. more c.loop-code.n (counted_in r)) (first_refused i.frame_register i.frame_offset _ _ _ _ f.1 (sym c.in_err-step_of.ensures))))

pub loop-code-preserved : goal.loop-code-preserved
loop-code-preserved c =
    let i = viewed c.args.info.now in
    let inv = c.loop-code.invariant in
    let f = next_is c.loop-code.code-iterator _ _ _ inv.left c.in-Some.ensures.steps _ c.in_ok-code.was in
    record {
      can = tt;
      ends = tt;
      rest = f.0;
      left = f.2;
      few = omega (arith, inv.few, ap length f.1);
      counts = inv.counts ∙ count_one i.frame_register i.frame_offset c.loop-code.n _ _ _ _ f.1 (sym c.in_ok-step_of.ensures);
    }

pub returns-clause-value : goal.returns-clause-value
returns-clause-value c =
    let i = viewed c.args.info.now in
    let n = c.loop-code.n in
    let inv = c.loop-code.invariant in
    let none = good_none inv.rest (sym inv.left ∙ c.in-None.ensures.steps.0) in
    sym (inv.counts ∙ ap (λ cs. more n (counted_in (steps_of_codes i.frame_register i.frame_offset cs))) none ∙ count_none i.frame_register i.frame_offset n)
