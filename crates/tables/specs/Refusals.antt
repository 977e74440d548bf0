-- Refusals of tables and modules, by number.
use Rattle.std.specs.Prelude.{ℕ}
use Rattle.tables.specs.declared.refusal.TableRefusal.{TableRefusal}
use Rattle.tables.specs.declared.refusal.TableRefusal.TheVariants.{BadTable, BadModule, TooFewRecords}

abbrev pub table_number : TableRefusal → ℕ
table_number BadTable = 35
table_number BadModule = 36
table_number TooFewRecords = 22
