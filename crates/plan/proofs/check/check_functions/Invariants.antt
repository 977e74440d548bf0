use Rattle.std.proofs.Common.{◌≡◌, ◌+◌, ◌≤◌, length}
use Rattle.std.specs.Iterator.Adapters.{enumerate_source, enumerate_count}
use Rattle.plan.proofs.Passes.{steps_in, operations_in}
use Rattle.plan.specs.Functions.{text_of, functions_of, functions_left}
use Rattle.plan.specs.Verdicts.{functions_verdict}
use Rattle.plan.proofs.check.check_functions.Given as goal

abbrev pub invariant-loop-k : goal.invariant-loop-k
invariant-loop-k l =
    let n = length l.plan.functions.now in
    let left = functions_left (enumerate_source l.k-iterator) in
    (goal.iterator-loop-k).can_next l.k-iterator
    × (goal.iterator-loop-k).is_finite l.k-iterator
    × (functions_verdict n 0 0 0 (functions_of (text_of l.plan)) ≡ functions_verdict n (enumerate_count l.k-iterator) l.step l.operation left)
    × (l.step + steps_in left ≤ length l.plan.steps.now)
    × (l.operation + operations_in left ≤ length l.plan.operations.now)
