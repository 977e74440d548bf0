-- The entries that are left of a table's bytes.
use Rattle.std.specs.Prelude.{◌/◌, List, length}
use Rattle.tables.specs.Entries.{entries_of}
use Rattle.tables.specs.declared.entry.Entry.{Entry}
use Rattle.tables.specs.declared.table.TableEntries.{TableEntries}

abbrev pub entries_left : TableEntries → List Entry
entries_left t = entries_of t.bytes.now (length t.bytes.now / 12)
