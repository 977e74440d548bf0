use Rattle.std.proofs.Common.{map, arith, rules}
use Rattle.plan.specs.Bodies.{enter, entering}
use Rattle.plan.specs.Steps.{step_of}
use Rattle.body.proofs.Bytes.{yields_enter, part_few, part_short}
use Rattle.body.proofs.part.prologue_size.Goals as goal

pub part_size-requires-clause-few : goal.part_size-requires-clause-few
part_size-requires-clause-few c =
    let rs = c.args.steps.now in
    (enter (map step_of rs), yields_enter _ c.map.result rs (cc) c.map.ensures.closure (λ x i q k. search rules), omega (arith, part_few entering (λ s. omega arith) rs, c.requires))

pub returns : goal.returns
returns c =
    let rs = c.args.steps.now in
    let e = c.part_size.ensures.size _ (yields_enter _ c.map.result rs (cc) c.map.ensures.closure (λ x i q k. search rules)) in
    record { size = e; bound = omega (arith, e, part_short entering (λ s. omega arith) rs) }
