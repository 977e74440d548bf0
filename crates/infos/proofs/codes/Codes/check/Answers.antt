use Rattle.std.proofs.Common.{◌∷◌, Ok, sym, ap, ◌∙◌, arith, length}
use Rattle.std.proofs.lemmas.Result.{err_from_is_err_and}
use Rattle.infos.specs.Codings.{codes_left}
use Rattle.infos.specs.Refusals.{told}
use Rattle.infos.specs.Sequences.{counted, gathered}
use Rattle.infos.proofs.Outcomes.{more, more_none, more_one, few_left}
use Rattle.infos.proofs.codes.Codes.check.Goals as goal

pub loop-code-init : goal.loop-code-init
loop-code-init c =
    let same = c.into_iter-code-iterator.ensures.into_iter_gives in
    record {
      can = tt;
      ends = tt;
      small = omega (arith, few_left c.into_iter-code-iterator.result);
      counts = ap (λ i. counted (gathered (codes_left i))) (sym same) ∙ more_none _;
    }

pub loop-code-preserved : goal.loop-code-preserved
loop-code-preserved c =
    let left = codes_left c.next.new.self in
    let s = c.in-Some.ensures.steps ∙ ap (λ r. told r ∷ left) c.in_ok-code.was in
    record {
      can = tt;
      ends = tt;
      small = omega (arith, ap length s);
      counts = c.loop-code.invariant.counts ∙ ap (λ rs. more c.loop-code.n (counted (gathered rs))) s ∙ more_one c.loop-code.n c.in_ok-code.field-0 left;
    }

pub returns-in_err-code : goal.returns-in_err-code
returns-in_err-code c =
    let left = codes_left c.next.new.self in
    let p = err_from_is_err_and c.from_residual.result c.from_residual.ensures.1 in
    let s = c.in-Some.ensures.steps ∙ ap (λ r. told r ∷ left) c.in_err-code.was in
    rw (p.1, p.2) (sym (c.loop-code.invariant.counts ∙ ap (λ rs. more c.loop-code.n (counted (gathered rs))) s))

pub returns : goal.returns
returns c = sym (c.loop-code.invariant.counts ∙ ap (λ rs. more c.loop-code.n (counted (gathered rs))) c.in-None.ensures.steps.0 ∙ ap Ok (omega arith))
