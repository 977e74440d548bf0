use Rattle.std.proofs.Common.{◌≡◌, ◌+◌, ◌≤◌, map, length, take, drop}
use Rattle.plan.specs.Steps.{step_of}
use Rattle.plan.specs.Verdicts.{steps_verdict}
use Rattle.plan.proofs.check.check_steps.Given as goal

abbrev pub invariant-loop-i : goal.invariant-loop-i
invariant-loop-i l =
    (steps_verdict l.calls l.index (map step_of (take 0 l.steps)) l.steps ≡ steps_verdict l.calls (l.index + l.i-counter) (map step_of (take l.i-counter l.steps)) (drop l.i-counter l.steps)) × (l.i-counter ≤ length l.steps)
