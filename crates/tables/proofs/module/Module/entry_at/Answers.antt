use Rattle.std.proofs.Common.{sym, ap, ◌∙◌, rules}
use Rattle.tables.specs.declared.entry.Entry.{Entry}
use Rattle.tables.proofs.Entries.{entry_of, holding_found, mapped}
use Rattle.tables.proofs.module.Module.entry_at.Goals as goal

none : Entry
none = record { begin = record { 0 = 0 }; end = record { 0 = 0 }; info = record { 0 = 0 } }

pub returns-clause-finds : goal.returns-clause-finds
returns-clause-finds c a =
    let es = c.args.self.now.entries.now in
    let got = mapped es none _ _ c.find.result c.map.result c.map.ensures.cases c.find.ensures.inside (λ i e p. search rules) in
    got ∙ sym (holding_found c.args.rva.0 es none ∙ ap (entry_of es none) (sym (c.find.ensures.finds a)))
