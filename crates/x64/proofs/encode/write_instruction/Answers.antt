use Rattle.x64.proofs.Laws.{encodes_apart}
use Rattle.x64.proofs.encode.write_instruction.Goals as goal

pub returns-then-out-encoded_length-clause-apart : goal.returns-then-out-encoded_length-clause-apart
returns-then-out-encoded_length-clause-apart c = encodes_apart

pub returns-clause-apart : goal.returns-clause-apart
returns-clause-apart c = encodes_apart
