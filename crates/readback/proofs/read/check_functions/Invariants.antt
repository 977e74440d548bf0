use Rattle.std.proofs.Common.{◌≡◌, ◌*◌, ◌≤◌, drop}
use Rattle.readback.specs.Readings.{read_steps_in, joint_count}
use Rattle.readback.proofs.Passes.{counted_on}
use Rattle.readback.proofs.read.check_functions.Given as goal

abbrev pub invariant-loop-entry : goal.invariant-loop-entry
invariant-loop-entry l =
    (joint_count (read_steps_in l.area l.entries) ≡ counted_on l.steps (read_steps_in l.area (drop l.entry-index l.entries)))
    × (l.steps ≤ 255 * l.entry-index)
