use Rattle.std.proofs.Common.{◌≡◌, ◌++◌, drop, vec_items}
use Rattle.protocol.specs.Strings.{pairs}
use Rattle.protocol.proofs.write.push_pairs.Given as goal

abbrev pub invariant-loop-b : goal.invariant-loop-b
invariant-loop-b l = vec_items l.line ++ pairs (drop l.b-index l.bytes) ≡ vec_items l.initial.line ++ pairs l.bytes
