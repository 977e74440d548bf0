use Rattle.std.proofs.Common.{◌≤◌, vec_len}
use Rattle.conformance.proofs.world.World.read.Given as goal

abbrev pub invariant-loop-part : goal.invariant-loop-part
invariant-loop-part l = vec_len l.layers ≤ 4
