use Rattle.std.proofs.Common.{◌≡◌, ◌+◌, ◌<◌, [], length, Ok, sym, ap, ◌∙◌, arith}
use Rattle.std.proofs.lemmas.Result.{err_from_is_err_and}
use Rattle.readback.specs.Readings.{joint}
use Rattle.readback.proofs.Passes.{counted_on, counted_more, counted_stop, read_more, read_all, joint-nil}
use Rattle.readback.proofs.read.check_functions.Goals as goal

pub returns-in_err-steps : goal.returns-in_err-steps
returns-in_err-steps c =
    let p = err_from_is_err_and c.from_residual.result c.from_residual.ensures.1 in
    rw (p.1, p.2) (sym (c.loop-entry.invariant.0 ∙ ap (counted_on c.loop-entry.steps) (read_more _ _ _ _ _ c.loop-entry-test.true) ∙ counted_stop _ _ _ _ (sym c.in_err-steps.ensures.value)))

pub overflow_add-steps : goal.overflow_add-steps
overflow_add-steps c = let k : c.loop-entry.entry-index < length c.args.entries.now = c.loop-entry-test.true in record { fits = omega (arith, c.requires, c.in_ok-steps.ensures.bound, c.loop-entry.invariant.1) }

pub loop-entry-preserved : goal.loop-entry-preserved
loop-entry-preserved c =
    let said = c.in_ok-steps.ensures in (
      c.loop-entry.invariant.0 ∙ ap (counted_on c.loop-entry.steps) (read_more _ _ _ _ _ c.loop-entry-test.true) ∙ counted_more _ _ _ _ (sym said.value),
      omega (arith, said.bound, c.loop-entry.invariant.1),
    )

pub returns : goal.returns
returns c =
    let n = c.loop-entry.steps in
    let none : n + length (joint []) ≡ n = omega (arith, ap length joint-nil) in
    sym (c.loop-entry.invariant.0 ∙ ap (counted_on n) (read_all _ _ _ c.loop-entry.entry-index c.loop-entry-test.false) ∙ ap Ok none)
