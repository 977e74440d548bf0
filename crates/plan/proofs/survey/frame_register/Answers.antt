use Rattle.std.proofs.Common.{rules}
use Rattle.plan.specs.Steps.{step_of}
use Rattle.plan.proofs.Surveys.{IsFirstGiven, frame_of, frame_found}
use Rattle.plan.proofs.survey.frame_register.Goals as goal

pub returns : goal.returns
returns c =
    let first : IsFirstGiven (λ x. frame_of (step_of x)) c.args.steps.now c.find_map.result = search rules in
    frame_found _ _ first
