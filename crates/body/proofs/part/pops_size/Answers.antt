use Rattle.std.proofs.Common.{map, arith, rules}
use Rattle.plan.specs.Bodies.{forward, popping}
use Rattle.plan.specs.Steps.{step_of}
use Rattle.plan.proofs.Sizes.{popping-count}
use Rattle.body.proofs.Bytes.{yields_front, pops_one, part_few, part_short}
use Rattle.body.proofs.part.pops_size.Goals as goal

pub part_size-requires-clause-few : goal.part_size-requires-clause-few
part_size-requires-clause-few c =
    let rs = c.args.steps.now in
    (forward popping (map step_of rs), yields_front popping pops_one _ c.filter_map.result rs (cc) c.filter_map.ensures.closure (λ s r q p. search rules), omega (arith, part_few popping popping-count rs, c.requires))

pub returns : goal.returns
returns c =
    let rs = c.args.steps.now in
    let e = c.part_size.ensures.size _ (yields_front popping pops_one _ c.filter_map.result rs (cc) c.filter_map.ensures.closure (λ s r q p. search rules)) in
    record { size = e; bound = omega (arith, e, part_short popping popping-count rs) }
