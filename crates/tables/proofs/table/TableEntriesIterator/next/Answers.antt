use Rattle.std.proofs.Common.{ap, arith, length}
use Rattle.std.proofs.lemmas.List.{take_rest}
use Rattle.tables.proofs.Entries.{entries-next}
use Rattle.tables.proofs.table.TableEntriesIterator.next.Goals as goal

pub returns-clause-steps : goal.returns-clause-steps
returns-clause-steps c =
    let next = entries-next c.args.self.now.bytes.now c.if-self-lt12.false in
    simp (c.entry_in-entry.ensures, take_rest) next

pub returns-clause-goes : goal.returns-clause-goes
returns-clause-goes c =
    let shorter = ap length (entries-next c.args.self.now.bytes.now c.if-self-lt12.false) in
    record {
      on = λ _. (tt, tt, simp take_rest (omega (arith, shorter)));
      keeps = tt;
      rests = λ _. tt;
    }
