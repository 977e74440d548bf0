-- The worked examples, by computing.
use Rattle.std.proofs.Common.{◌≡◌, Ok, refl}
use Rattle.plan.specs.Bodies.{bytes, forward, backward, work}
use Rattle.plan.specs.Functions.{functions_in}
use Rattle.plan.specs.Layouts.{starts_from, code_from, infos, table_from}
use Rattle.plan.specs.Steps.{pushed, block, frame}
use Rattle.plan.specs.UnwindInfos.{codes}
use Rattle.plan.specs.Verdicts.{limits_verdict, steps_counted, operations_counted, steps_verdict, operations_verdict, functions_verdict, plan_verdict}
use Rattle.worked.specs.Examples.{worked, WorkedExamples}

pub worked_examples : WorkedExamples
unfolding bytes forward backward work functions_in starts_from code_from infos table_from pushed block frame codes
worked_examples = refl

pub worked-accepted : plan_verdict worked ≡ Ok tt
unfolding functions_in limits_verdict steps_counted operations_counted steps_verdict operations_verdict functions_verdict pushed block
worked-accepted = refl
