-- What a window table holds.
use Rattle.std.specs.Prelude.{List, take}
use Rattle.limit.specs.declared.table.WindowTable.{WindowTable}
use Rattle.limit.specs.declared.window.Window.{Window}

-- the windows admitted
abbrev pub held : WindowTable → List Window
held t = take t.count t.windows
