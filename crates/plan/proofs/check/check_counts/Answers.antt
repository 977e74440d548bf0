use Rattle.std.proofs.Common.{◌≡◌, ◌&&◌, not, eqb, length, zero-add, Err, sym, ap, ◌∙◌, rules}
use Rattle.std.specs.List.{position}
use Rattle.std.proofs.lemmas.Iterator.{YieldsList-from_slice}
use Rattle.std.proofs.lemmas.Iterator.Search.{position_from_yields_List}
use borrow.Author.Tests.{tests}
use Rattle.plan.proofs.Passes.{first_fault, limits_first, stopped, passed}
use Rattle.plan.specs.Refusals.{fault}
use Rattle.plan.specs.Verdicts.{next, owed, within, steps_counted, operations_counted, counts_verdict}
use Rattle.plan.proofs.check.check_counts.Goals as goal
use Rattle.plan.proofs.check.check_counts.Goals.{After-position}

by_parts : (c : After-position) → let p = c.args.plan.now in let cs = p.functions.now in
    counts_verdict cs (length p.steps.now) (length p.operations.now) ≡ next (first_fault 11 0 c.position.result) (owed (eqb (steps_counted cs) (length p.steps.now) && eqb (operations_counted cs) (length p.operations.now)) 11 (length cs))
by_parts c =
    let p = c.args.plan.now in
    let cs = p.functions.now in
    let found : c.position.result ≡ position (λ x. not (within x)) cs = position_from_yields_List _ _ _ c.position.result c.position.ensures.ran (YieldsList-from_slice cs cc) (λ x b q k. search (rules, tests)) in
    ap (λ v. next v (owed (eqb (steps_counted cs) (length p.steps.now) && eqb (operations_counted cs) (length p.operations.now)) 11 (length cs))) (limits_first cs ∙ ap (first_fault 11 0) (sym found))

pub returns-in-Some : goal.returns-in-Some
returns-in-Some c =
    let found_at : first_fault 11 0 c.position.result ≡ Err (fault 11 c.in-Some.k) = ap (first_fault 11 0) c.in-Some.is ∙ ap (λ j. Err (fault 11 j)) (zero-add c.in-Some.k) in
    ap Err c.at.ensures ∙ sym (stopped _ _ (by_parts (goal.at.returns-in-Some c).After-position) found_at)

pub returns : goal.returns
returns c =
    c.owe.ensures ∙ ap (λ b. owed b 11 (length c.args.plan.now.functions.now)) c.are_all_counted.ensures ∙ sym (passed _ (by_parts (goal.at.returns c).After-position) (ap (first_fault 11 0) c.in_default.is))
