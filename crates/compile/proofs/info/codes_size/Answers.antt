use Rattle.std.proofs.Common.{◌≡◌, sym, ◌∙◌, arith, rules}
use Rattle.std.specs.List.{sum_by}
use Rattle.compile.proofs.Bounds.{codes_at_most}
use Rattle.compile.proofs.Coding.{code_bytes, codes_sized}
use Rattle.compile.proofs.info.codes_size.Goals as goal

pub returns : goal.returns
returns c =
    let n : c.sum.result ≡ sum_by code_bytes c.args.steps.now = search rules in
    record { size = n ∙ sym (codes_sized 0 c.args.steps.now); bound = omega (arith, n, codes_at_most c.args.steps.now, c.requires) }
