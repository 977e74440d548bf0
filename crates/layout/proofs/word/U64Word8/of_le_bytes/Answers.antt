use Rattle.std.proofs.Common.{◌∙◌, arith}
use Rattle.layout.specs.Words.{le_value}
use Rattle.layout.proofs.Words.{spelled}
use Rattle.layout.proofs.word.U64Word8.of_le_bytes.Goals as goal

pub returns : goal.returns
unfolding le_value
returns c = spelled 8 c.args.bytes c.from_le_bytes.result (omega arith) (c.from_le_bytes.ensures ∙ omega arith)
