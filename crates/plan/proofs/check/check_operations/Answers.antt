use Rattle.std.proofs.Common.{◌≡◌, not, map, Err, sym, ap, ◌∙◌, rules}
use Rattle.std.specs.List.{position}
use Rattle.std.proofs.lemmas.Iterator.{YieldsList-from_slice}
use Rattle.std.proofs.lemmas.Iterator.Search.{position_from_yields_List}
use borrow.Author.Tests.{tests}
use Rattle.plan.proofs.Passes.{first_fault, operations_first}
use Rattle.plan.specs.Rules.{operation_good}
use Rattle.plan.specs.Steps.{step_of}
use Rattle.plan.specs.Verdicts.{operations_verdict}
use Rattle.plan.proofs.check.check_operations.Goals as goal
use Rattle.plan.proofs.check.check_operations.Goals.{After-position}

first_bad : (c : After-position) → operations_verdict c.args.functions (map step_of c.args.steps.now) c.args.index c.args.operations.now ≡ first_fault 17 c.args.index c.position.result
first_bad c =
    let found : c.position.result ≡ position (λ o. not (operation_good c.args.functions (map step_of c.args.steps.now) o)) c.args.operations.now = position_from_yields_List _ _ _ c.position.result c.position.ensures.ran (YieldsList-from_slice c.args.operations.now cc) (λ x b q k. search (rules, tests)) in
    operations_first _ _ _ _ ∙ ap (first_fault 17 c.args.index) (sym found)

pub returns-in-Some : goal.returns-in-Some
returns-in-Some c = ap Err c.at.ensures ∙ sym (first_bad (goal.at.returns-in-Some c).After-position ∙ ap (first_fault 17 c.args.index) c.in-Some.is)

pub returns : goal.returns
returns c = sym (first_bad (goal.at.returns c).After-position ∙ ap (first_fault 17 c.args.index) c.in_default.is)
