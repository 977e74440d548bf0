use Rattle.std.proofs.Common.{rules, ◌≡◌, ◌+◌, ◌-◌, ◌<◌, leb, true, false, length, sym, ap, ◌∙◌, arith}
use Rattle.std.proofs.lemmas.Fn.{always_returns_same}
use Rattle.records.proofs.Search.{Whole, follows, ordered, unordered}
use Rattle.records.proofs.span.ascends.Goals as goal

pub returns-then-is_whole : goal.returns-then-is_whole
returns-then-is_whole g c =
    let s = g.R.Span in
    let xs = c.args.records.now in
    let some : 0 < length xs = search rules in
    let long : length xs ≡ length xs - 1 + 1 = omega arith in
    let here : leb (s.first c.in-Some.last.now) (s.last c.in-Some.last.now) ≡ true = sym c.is_whole.ensures ∙ c.if-is_whole.true in
    let last : Whole s.first s.last xs (length xs - 1) true = λ d. ap (λ x. leb (s.first x) (s.last x)) (sym (c.in-Some.ensures.item.4 (omega arith) d)) ∙ here in
    let each = c.is_sorted_by.ensures.cases (follows s.first s.last) (always_returns_same _ _ _ (λ a r q called. (search rules, search rules))) in
    ordered s.first s.last xs (length xs - 1) long _ last each

pub returns-else-is_whole : goal.returns-else-is_whole
returns-else-is_whole g c =
    let s = g.R.Span in
    let xs = c.args.records.now in
    let some : 0 < length xs = search rules in
    let long : length xs ≡ length xs - 1 + 1 = omega arith in
    let here : leb (s.first c.in-Some.last.now) (s.last c.in-Some.last.now) ≡ false = sym c.is_whole.ensures ∙ c.if-is_whole.false in
    let last : Whole s.first s.last xs (length xs - 1) false = λ d. ap (λ x. leb (s.first x) (s.last x)) (sym (c.in-Some.ensures.item.4 (omega arith) d)) ∙ here in
    c.if-is_whole.false ∙ unordered s.first s.last xs (length xs - 1) long c.in-Some.last.now last
