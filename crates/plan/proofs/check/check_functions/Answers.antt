use Rattle.std.proofs.Common.{◌^◌, ◌<◌, length, refl, sym, ◌∙◌, inl, rules, arith}
use Rattle.std.proofs.lemmas.Result.{err_from_is_err_and}
use Rattle.plan.proofs.Passes.{in_turn, few_steps_in, few_operations_in, length-functions_in, functions_one, no_functions, stopped, passed}
use Rattle.plan.proofs.check.check_functions.Goals as goal

pub loop-k-init : goal.loop-k-init
loop-k-init c =
    let t = c.args.plan.now in
    let n : length t.functions.now < 2 ^ 64 = search rules in
    let steps = few_steps_in t.functions.now t.steps.now t.operations.now in
    let operations = few_operations_in t.functions.now t.steps.now t.operations.now in
    rw (c.into_iter-k-iterator.ensures.into_iter_gives, c.enumerate-k-items.ensures.source, c.enumerate-k-items.ensures.count, c.functions.ensures) (
      (tt, tt, inl (omega (arith, length-functions_in t.functions.now t.steps.now t.operations.now, n))),
      tt,
      refl,
      omega (arith, steps),
      omega (arith, operations),
    )

pub returns-in_err-check_function : goal.returns-in_err-check_function
returns-in_err-check_function c =
    let p = err_from_is_err_and c.from_residual.result c.from_residual.ensures.1 in
    let turn = c.in-Some.ensures.steps in
    rw (p.1, p.2) (sym (c.loop-k.invariant.2 ∙ stopped _ _ (functions_one _ _ _ _ _ _ _ turn.0 turn.1) (sym c.in_err-check_function.ensures)))

pub loop-k-preserved : goal.loop-k-preserved
loop-k-preserved c =
    let inv = c.loop-k.invariant in
    let turn = c.in-Some.ensures.steps in (
      c.in-Some.ensures.goes.keeps,
      tt,
      inv.2 ∙ passed _ (functions_one _ _ _ _ _ _ _ turn.0 turn.1) (sym c.in_ok-check_function.ensures) ∙ rw turn.2 refl,
      in_turn (λ f. length f.steps) _ _ _ _ turn.0 inv.3,
      in_turn (λ f. length f.operations) _ _ _ _ turn.0 inv.4,
    )

pub returns : goal.returns
returns c = sym (c.loop-k.invariant.2 ∙ no_functions _ _ _ _ c.in-None.ensures.steps.0.0)
