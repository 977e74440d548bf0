use Rattle.protocol.proofs.Back.{made_always, hexadecimal_back}
use Rattle.protocol.proofs.write.push_hex.Goals as goal

pub returns-clause-back : goal.returns-clause-back
returns-clause-back c = made_always c.push_figures.result _ (λ _. hexadecimal_back c.args.n)
