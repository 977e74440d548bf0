use Rattle.std.proofs.Common.{map, arith}
use Rattle.plan.specs.Steps.{step_of}
use Rattle.compile.proofs.Coding.{info_length}
use Rattle.compile.proofs.info.info_size.Goals as goal

pub returns : goal.returns
returns c =
    let e = info_length (map step_of c.args.steps.now) _ c.codes_size-size.ensures.size in
    record { size = omega (arith, e, c.pad_size.ensures.size); bound = omega (arith, c.codes_size-size.ensures.bound, c.pad_size.ensures.bound) }
