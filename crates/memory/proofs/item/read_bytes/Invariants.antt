use Rattle.std.proofs.Common.{◌≡◌, take, Ok}
use Rattle.memory.specs.Items.{item_bytes}
use Rattle.memory.proofs.item.read_bytes.Given as goal

abbrev pub invariant-loop-i : goal.invariant-loop-i
invariant-loop-i g l = let s = g.M.Memory.shows in (item_bytes (s l.initial.m) l.start.0 l.i ≡ Ok (take l.i l.out)) × (s l.m ≡ s l.initial.m)
