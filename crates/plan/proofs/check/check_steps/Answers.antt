use Rattle.std.proofs.Common.{◌≡◌, ◌+◌, map, take, sym, ap, ◌∙◌, rules, arith}
use Rattle.std.proofs.lemmas.List.{at_drop_all}
use Rattle.std.proofs.lemmas.Result.{err_from_is_err_and}
use Rattle.plan.specs.Refusals.{at_index, told, told_reason}
use Rattle.plan.specs.Steps.{step_of}
use Rattle.plan.specs.Verdicts.{steps_verdict}
use Rattle.plan.proofs.Passes.{steps_one, stopped, passed}
use Rattle.plan.proofs.check.check_steps.Goals as goal

pub returns-in_err-map_err : goal.returns-in_err-map_err
returns-in_err-map_err c =
    let p = err_from_is_err_and c.from_residual.result c.from_residual.ensures.1 in
    let at = c.args.index + c.loop-i.i-counter in
    let said : told c.map_err.result ≡ at_index at (told_reason c.check_step.result) = search rules in
    let result : told c.map_err.result ≡ _ = ap told c.in_err-map_err.was in
    rw (p.1, p.2) (sym (c.loop-i.invariant.0 ∙ stopped _ _ (steps_one _ _ _ _ _ c.loop-i-test.true) (ap (at_index at) (sym c.check_step.ensures) ∙ sym said ∙ result)))

pub loop-i-preserved : goal.loop-i-preserved
loop-i-preserved c =
    let at = c.args.index + c.loop-i.i-counter in
    let said : told c.map_err.result ≡ at_index at (told_reason c.check_step.result) = search rules in
    (c.loop-i.invariant.0 ∙ passed _ (steps_one _ _ _ _ _ c.loop-i-test.true) (ap (at_index at) (sym c.check_step.ensures) ∙ sym said ∙ ap told c.in_ok-map_err.was), omega (arith, c.loop-i-test.true))

pub returns : goal.returns
unfolding steps_verdict
returns c =
    let i = c.loop-i.i-counter in
    sym (c.loop-i.invariant.0 ∙ at_drop_all (steps_verdict c.args.calls (c.args.index + i) (map step_of (take i c.args.steps.now))) c.args.steps.now i c.loop-i-test.false)
