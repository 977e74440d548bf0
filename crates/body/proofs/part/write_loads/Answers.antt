use Rattle.std.proofs.Common.{map, rules}
use Rattle.plan.specs.Bodies.{backward, loading}
use Rattle.plan.specs.Steps.{step_of}
use Rattle.body.proofs.Bytes.{yields_back, loads_one}
use Rattle.body.proofs.part.write_loads.Goals as goal

pub write_part-requires-clause-room : goal.write_part-requires-clause-room
write_part-requires-clause-room c =
    let f = c.args.frame in
    (backward (loading f) (map step_of c.args.steps.now), yields_back (loading f) (loads_one f) _ c.filter_map.result c.args.steps.now (cc) c.filter_map.ensures.closure (λ s r q p. search rules), c.requires)

pub returns : goal.returns
returns c = c.write_part.ensures _ (yields_back (loading c.args.frame) (loads_one c.args.frame) _ c.filter_map.result c.args.steps.now (cc) c.filter_map.ensures.closure (λ s r q p. search rules))
