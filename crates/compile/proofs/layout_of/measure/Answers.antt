use Rattle.std.proofs.Common.{take, sym, refl, ap, ◌∙◌, inl, arith}
use Rattle.plan.specs.Functions.{text_of}
use Rattle.plan.proofs.Accepted.{accepted}
use Rattle.plan.proofs.Passes.{length-functions_in}
use Rattle.compile.proofs.Laying.{measured_none, measured_on, measured_all}
use Rattle.compile.proofs.layout_of.measure.Goals as goal

pub loop-k-init : goal.loop-k-init
loop-k-init c =
    let t = c.args.plan.now in
    let n = length-functions_in t.functions.now t.steps.now t.operations.now in
    let a = accepted (text_of t) c.requires in
    rw (c.into_iter-k-iterator.ensures.into_iter_gives, c.enumerate-k-items.ensures.source, c.enumerate-k-items.ensures.count, c.functions.ensures)
    ((tt, tt, inl (omega (arith, n, a.few))), tt, measured_none _ _ a.good (omega (arith, n, a.few)) refl)

pub loop-k-preserved : goal.loop-k-preserved
loop-k-preserved c =
    let turn = c.in-Some.ensures.steps in
    let m = measured_on c.loop-k.invariant.2 _ _ turn.0 _ _ _ c.up16-begin.ensures c.function_size.ensures.size c.function_size.ensures.bound c.info_size-infos.ensures.size c.info_size-infos.ensures.bound in
    (c.in-Some.ensures.goes.keeps, tt, rw (turn.1, turn.2) m)

pub returns : goal.returns
returns c =
    let n = length-functions_in c.args.plan.now.functions.now c.args.plan.now.steps.now c.args.plan.now.operations.now in
    let p = measured_all c.loop-k.invariant.2 c.in-None.ensures.steps.0.0 in
    record { starts = ap (λ k. take k c.loop-k.starts) (sym n) ∙ p.0; code = p.1; infos = p.2; bound = p.3 }
