use Rattle.protocol.proofs.Back.{made_always, decimal_back}
use Rattle.protocol.proofs.write.push_decimal.Goals as goal

pub returns-clause-back : goal.returns-clause-back
returns-clause-back c = made_always c.push_figures.result _ (λ _. decimal_back c.args.n)
