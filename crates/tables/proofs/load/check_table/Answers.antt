use Rattle.std.proofs.Common.{arith}
use Rattle.std.proofs.lemmas.Bool.Decides.{nat_tests}
use Rattle.tables.proofs.Entries.{table_checked}
use Rattle.tables.proofs.load.check_table.Goals as goal
use Rattle.tables.proofs.load.check_table.Goals.{then-bytes-ne0-via-then-bytes-ne0, then-bytes-ne0-via-else-bytes-ne0+then-n-gt-MAX_ENTRIES, then-bytes-ne0-via-else-bytes-ne0+else-n-gt-MAX_ENTRIES+then-not-are_good}

pub returns-then-bytes-ne0 : goal.returns-then-bytes-ne0
returns-then-bytes-ne0 c =
    elim c.then-bytes-ne0.branch [
      | then-bytes-ne0-via-then-bytes-ne0 w ↦ grind (arith, nat_tests)
      | then-bytes-ne0-via-else-bytes-ne0+then-n-gt-MAX_ENTRIES w ↦ grind (arith, nat_tests)
      | then-bytes-ne0-via-else-bytes-ne0+else-n-gt-MAX_ENTRIES+then-not-are_good w ↦ grind (arith, nat_tests, table_checked _ _ _ _ _ w.new.ensures w.are_good.ensures w.if-not-are_good.true)
    ]

pub returns-in_err-check : goal.returns-in_err-check
returns-in_err-check c = grind (arith, nat_tests, table_checked _ _ _ _ _ c.new.ensures c.are_good.ensures c.if-not-are_good.false)

pub returns-then-n-room : goal.returns-then-n-room
returns-then-n-room c = grind (arith, nat_tests, table_checked _ _ _ _ _ c.new.ensures c.are_good.ensures c.if-not-are_good.false)

pub returns : goal.returns
returns c = grind (arith, nat_tests, table_checked _ _ _ _ _ c.new.ensures c.are_good.ensures c.if-not-are_good.false)
