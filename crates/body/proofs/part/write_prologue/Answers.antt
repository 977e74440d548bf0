use Rattle.std.proofs.Common.{map, rules}
use Rattle.plan.specs.Bodies.{enter}
use Rattle.plan.specs.Steps.{step_of}
use Rattle.body.proofs.Bytes.{yields_enter}
use Rattle.body.proofs.part.write_prologue.Goals as goal

pub write_part-requires-clause-room : goal.write_part-requires-clause-room
write_part-requires-clause-room c = (enter (map step_of c.args.steps.now), yields_enter _ c.map.result c.args.steps.now (cc) c.map.ensures.closure (λ x i q k. search rules), c.requires)

pub returns : goal.returns
returns c = c.write_part.ensures _ (yields_enter _ c.map.result c.args.steps.now (cc) c.map.ensures.closure (λ x i q k. search rules))
