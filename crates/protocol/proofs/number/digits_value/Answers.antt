use Rattle.std.proofs.Common.{rules, ◌≡◌, ℕ, ◌+◌, ◌<◌, true, ◌&&◌, get_or, drop, sym, ap, ◌∙◌, subst, arith}
use Rattle.std.specs.Char.{digit_value}
use Rattle.std.specs.List.{list_all}
use Rattle.std.proofs.lemmas.List.{at_drop_more}
use Rattle.std.proofs.lemmas.Bool.{lt-ltb}
use Rattle.protocol.specs.Reading.{is_digit, longer}
use Rattle.protocol.proofs.Values.{Reads, reads_more}
use Rattle.protocol.proofs.number.digits_value.Goals as goal

pub loop-b-preserved : goal.loop-b-preserved
loop-b-preserved c =
    let i = c.loop-b.b-index in
    let bs = c.args.text.now in
    let r = c.args.radix in
    let x : ℕ = get_or bs i 0 in
    let is : c.in_ok-digit.digit ≡ digit_value x = search rules in
    let small : digit_value x < r = search rules in
    let here : is_digit r x ≡ true = lt-ltb (digit_value x) r small in
    let next = at_drop_more (list_all (is_digit r)) bs i 0 c.loop-b-test.true in
    let same : longer r (digit_value x) c.loop-b.n ≡ c.appended-n.result = ap (λ d. longer r d c.loop-b.n) (sym is) ∙ sym c.appended-n.ensures in
    record {
      passed = c.loop-b.invariant.passed ∙ next ∙ ap (λ b. b && list_all (is_digit r) (drop (i + 1) bs)) here;
      reads = subst (λ o. Reads r bs (i + 1) o) same (reads_more r (omega (arith, c.requires.low)) bs i c.loop-b.n c.loop-b-test.true c.loop-b.invariant.reads);
    }
