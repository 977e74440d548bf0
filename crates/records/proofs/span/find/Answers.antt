use Rattle.std.proofs.Common.{◌+◌, ◌-◌, ◌/◌, ◌<◌, ◌≤◌, length, sym, ap, ◌∙◌, inl, inr, ⊎_elim, arith}
use Rattle.std.proofs.lemmas.Bool.{cases_lt}
use Rattle.records.specs.Spans.{found}
use Rattle.records.proofs.Search.{closing_down, closing_up, found_at, found_none, held}
use Rattle.records.proofs.span.find.Goals as goal

pub loop-low-preserved-then-wanted-position : goal.loop-low-preserved-then-wanted-position
loop-low-preserved-then-wanted-position g c =
    (omega arith, omega arith, λ a. closing_down _ _ _ _ _ _ _ _ a (omega arith) c.index-records-middle.is (omega arith) (c.loop-low.invariant.2 a))

pub loop-low-preserved : goal.loop-low-preserved
loop-low-preserved g c =
    (omega arith, omega arith, λ a. closing_up _ _ _ _ _ _ _ _ a (omega arith) c.index-records-middle.is (omega arith) (c.loop-low.invariant.2 a))

pub returns-else-position-wanted : goal.returns-else-position-wanted
returns-else-position-wanted g c =
    let s = g.R.Span in
    let x = c.index-records-middle.result in
    let xs = c.args.records.now in
    let key = g.R.Key.Position.position c.args.key in
    let i = c.loop-low.low + (c.loop-low.high - c.loop-low.low) / 2 in
    let within : i < length xs = omega arith in
    let low : s.first x ≤ key = omega arith in
    let high : key ≤ s.last x = omega arith in
    let holds = held s.first s.last key xs i x within c.index-records-middle.is low high in
    record {
      finds = λ a. sym (found_at s.first s.last key xs i x a within (holds x).0 (holds x).1);
      inside = (within, holds);
    }

pub returns : goal.returns
returns g c =
    let s = g.R.Span in
    let same = ap (λ k. found s.first s.last k c.args.records.now) c.position-wanted.ensures in
    record {
      finds = λ a. let q = c.loop-low.invariant.2 a in sym (sym same ∙ found_none _ _ _ _ (λ k d h. ⊎_elim (λ l. inl (q.0 k d l)) (λ l. inr (q.1 k d (omega arith) h)) (cases_lt k c.loop-low.low)));
      inside = tt;
    }
