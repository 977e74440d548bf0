-- The refusal of a list, by number.
use Rattle.std.specs.Prelude.{ℕ}
use Rattle.records.specs.declared.list.NoRecord.{NoRecord}

-- too few records
abbrev pub list_number : NoRecord → ℕ
list_number full = 22
