use Rattle.std.proofs.Common.{◌≡◌, rules, ◌∙◌}
use Rattle.std.specs.List.{list_any}
use Rattle.std.proofs.lemmas.Iterator.{YieldsList-from_slice}
use Rattle.std.proofs.lemmas.Iterator.Search.{any_from_yields_List}
use Rattle.plan.specs.Steps.{step_of}
use Rattle.plan.proofs.Surveys.{any_step_of}
use Rattle.plan.proofs.survey.any_step.Goals as goal

pub returns : goal.returns
returns g c = λ p h.
    let a : c.any.result ≡ list_any (λ r. p (step_of r)) c.args.steps.now = any_from_yields_List (λ r. p (step_of r)) _ _ c.any.result c.any.ensures.ran (YieldsList-from_slice c.args.steps.now cc) (λ x b q k. search rules) in
    a ∙ any_step_of p c.args.steps.now
