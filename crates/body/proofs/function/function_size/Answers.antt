use Rattle.std.proofs.Common.{◌≡◌, ◌+◌, map, length, ap, ◌∙◌, arith}
use Rattle.plan.specs.Bodies.{bytes, forward, loading, popping, function_size}
use Rattle.plan.specs.Functions.{function_of}
use Rattle.plan.specs.Steps.{step_of, frame}
use Rattle.plan.proofs.Sizes.{few_bytes}
use Rattle.body.proofs.Bytes.{same_length}
use Rattle.body.proofs.Working.{size_by_parts}
use Rattle.body.proofs.function.function_size.Goals as goal

pub returns : goal.returns
returns c =
    let ss = map step_of c.args.f.steps.now in
    let l = c.loads_size-loading.ensures.size ∙ ap (λ k. length (bytes (forward (loading k) ss))) c.frame_register.ensures in
    let n = c.prologue_size-entering.result + c.operations_size-working.result + c.loads_size-loading.result + c.leaving_size-leaving.result + c.pops_size-popping.result + 1 in
    let loads = same_length (loading (frame ss)) ss in
    let size : n ≡ function_size (function_of c.args.f) =
    omega (arith, size_by_parts (function_of c.args.f), loads, same_length popping ss, l, c.leaving_size-leaving.ensures.size, c.pops_size-popping.ensures.size, c.prologue_size-entering.ensures.size, c.operations_size-working.ensures.size) in
    record { size = size; bound = omega (arith, size, few_bytes (function_of c.args.f) c.requires.0 c.requires.1) }
