use Rattle.std.proofs.Common.{◌≡◌, map, take, vec_items}
use Rattle.protocol.proofs.Pairs.{pair_byte}
use Rattle.protocol.proofs.bytes.joined.Given as goal

abbrev pub invariant-loop-high : goal.invariant-loop-high
invariant-loop-high l = vec_items l.all ≡ map pair_byte (take l.high-index l.pairs)
