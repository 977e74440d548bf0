use Rattle.std.proofs.Common.{◌∙◌}
use Rattle.layout.proofs.Words.{bytes_are}
use Rattle.layout.proofs.word.U32Word4.le_bytes.Goals as goal

pub returns-clause-bytes : goal.returns-clause-bytes
returns-clause-bytes c = c.to_le_bytes.ensures ∙ bytes_are 3 c.args.self
