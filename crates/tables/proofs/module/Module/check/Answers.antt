use Rattle.std.proofs.Common.{◌∙◌, sym, arith}
use Rattle.std.proofs.lemmas.Bool.Decides.{nat_tests}
use Rattle.std.proofs.lemmas.Iterator.{YieldsList-from_slice}
use Rattle.std.proofs.lemmas.Iterator.Consumers.{YieldsList-from_copied, YieldsList-at}
use Rattle.tables.proofs.module.Module.check.Goals as goal
use Rattle.tables.proofs.module.Module.check.Goals.{then-self-gt-MAX_ENTRIES-via-then-self-gt-MAX_ENTRIES, then-self-gt-MAX_ENTRIES-via-else-self-gt-MAX_ENTRIES+then-not-are_good}

pub returns-then-self-gt-MAX_ENTRIES : goal.returns-then-self-gt-MAX_ENTRIES
returns-then-self-gt-MAX_ENTRIES c =
    elim c.then-self-gt-MAX_ENTRIES.branch [
      | then-self-gt-MAX_ENTRIES-via-then-self-gt-MAX_ENTRIES w ↦ grind (arith, nat_tests)
      | then-self-gt-MAX_ENTRIES-via-else-self-gt-MAX_ENTRIES+then-not-are_good w ↦
          let gives = YieldsList-from_copied (YieldsList-at w.copied.ensures.source (YieldsList-from_slice c.args.self.now.entries.now w.iter.ensures.rest)) in
          let bad = sym (w.are_good.ensures _ gives.runs) ∙ w.if-not-are_good.true in
          grind (arith, nat_tests, bad)
    ]

pub returns : goal.returns
returns c =
    let gives = YieldsList-from_copied (YieldsList-at c.copied.ensures.source (YieldsList-from_slice c.args.self.now.entries.now c.iter.ensures.rest)) in
    let good = sym (c.are_good.ensures _ gives.runs) ∙ c.if-not-are_good.false in
    grind (arith, nat_tests, good)
