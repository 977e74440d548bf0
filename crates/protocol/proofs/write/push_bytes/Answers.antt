use Rattle.std.proofs.Common.{arith}
use Rattle.protocol.proofs.Back.{made_always, string_back}
use Rattle.protocol.proofs.write.push_bytes.Goals as goal

pub returns-clause-back : goal.returns-clause-back
returns-clause-back c = made_always c.push_pairs.result _ (λ _. string_back c.args.bytes.now (λ i. omega (arith, c.type_inv.bytes i)))
