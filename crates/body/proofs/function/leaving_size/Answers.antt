use Rattle.std.proofs.Common.{rules}
use Rattle.body.proofs.Bytes.{listed_size}
use Rattle.body.proofs.function.leaving_size.Goals as goal

pub returns-clause-size : goal.returns-clause-size
returns-clause-size c = listed_size _ _ c.leaving.ensures _ (search rules)
