use Rattle.std.proofs.Common.{◌≡◌, [], sym, ◌∙◌, arith, rules}
use Rattle.std.specs.List.{sum_by}
use Rattle.body.proofs.Working.{own_size, operations_few, work_sized}
use Rattle.body.proofs.operations.operations_size.Goals as goal

pub returns-clause-size : goal.returns-clause-size
returns-clause-size c =
    let e : c.sum.result ≡ sum_by own_size c.args.operations.now = search rules in
    e ∙ sym (work_sized [] 0 c.args.operations.now)

pub returns-clause-bound : goal.returns-clause-bound
returns-clause-bound c =
    let e : c.sum.result ≡ sum_by own_size c.args.operations.now = search rules in
    omega (arith, e, operations_few c.args.operations.now c.requires)
