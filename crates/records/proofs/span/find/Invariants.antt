use Rattle.std.proofs.Common.{◌≡◌, ◌-◌, ◌≤◌, true, length}
use Rattle.records.specs.Spans.{ascending}
use Rattle.records.proofs.Search.{Closing}
use Rattle.records.proofs.span.find.Given as goal

abbrev pub invariant-loop-low : goal.invariant-loop-low
invariant-loop-low g l = let s = g.R.Span in (l.low ≤ l.high) × (l.high ≤ length l.records) × (ascending s.first s.last l.records ≡ true → Closing s.first s.last l.records l.wanted l.low l.high)

abbrev pub decreases-loop-low : goal.decreases-loop-low
decreases-loop-low g l = l.high - l.low
