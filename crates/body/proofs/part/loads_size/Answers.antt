use Rattle.std.proofs.Common.{map, arith, rules}
use Rattle.plan.specs.Bodies.{forward, loading}
use Rattle.plan.specs.Steps.{step_of}
use Rattle.plan.proofs.Sizes.{loading-count}
use Rattle.body.proofs.Bytes.{yields_front, loads_one, part_few, part_short}
use Rattle.body.proofs.part.loads_size.Goals as goal

pub part_size-requires-clause-few : goal.part_size-requires-clause-few
part_size-requires-clause-few c =
    let g = loading c.args.frame in
    let rs = c.args.steps.now in
    (forward g (map step_of rs), yields_front g (loads_one c.args.frame) _ c.filter_map.result rs (cc) c.filter_map.ensures.closure (λ s r q p. search rules), omega (arith, part_few g (loading-count c.args.frame) rs, c.requires))

pub returns : goal.returns
returns c =
    let g = loading c.args.frame in
    let rs = c.args.steps.now in
    let e = c.part_size.ensures.size _ (yields_front g (loads_one c.args.frame) _ c.filter_map.result rs (cc) c.filter_map.ensures.closure (λ s r q p. search rules)) in
    record { size = e; bound = omega (arith, e, part_short g (loading-count c.args.frame) rs) }
