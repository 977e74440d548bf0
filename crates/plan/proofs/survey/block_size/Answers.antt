use Rattle.std.proofs.Common.{◌∙◌, rules}
use Rattle.plan.specs.Steps.{step_of}
use Rattle.plan.proofs.Surveys.{IsFirstGiven, size_of, block_found}
use Rattle.plan.proofs.survey.block_size.Goals as goal

pub returns : goal.returns
returns c =
    let first : IsFirstGiven (λ x. size_of (step_of x)) c.args.steps.now c.find_map.result = search rules in
    c.unwrap_or.ensures ∙ block_found _ _ first
