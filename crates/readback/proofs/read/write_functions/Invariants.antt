use Rattle.std.proofs.Common.{◌≤◌, length}
use Rattle.readback.proofs.Filling.{Written}
use Rattle.readback.proofs.read.write_functions.Given as goal

abbrev pub invariant-loop-k : goal.invariant-loop-k
invariant-loop-k l = (l.k ≤ length l.entries) × Written l.area.bytes.now l.area.start.0 l.entries l.k l.at l.functions l.initial.functions l.steps l.initial.steps
