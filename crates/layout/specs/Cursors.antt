-- Bytes written one after another over a slice.
use Rattle.std.specs.Prelude.{ℕ, ◌+◌, ◌≤◌, List, length}
use Rattle.layout.specs.Words.{overwritten}
use Rattle.layout.specs.declared.cursor.Cursor.{Cursor}

-- there is room for the bytes
abbrev pub HasRoom : Cursor → List ℕ → Type 0
HasRoom c bs = c.at + length bs ≤ length c.out.now

-- the cursor behind the bytes, which stand where it was; the rest of the slice is as it was
abbrev pub wrote : Cursor → List ℕ → Cursor
wrote c bs = record { out = record { ref_ptr = c.out.ref_ptr; ghost_name = c.out.ghost_name; now = overwritten c.out.now c.at bs }; at = c.at + length bs }
