use Rattle.std.proofs.Common.{◌<◌, cond, length, take, is_ok, sym, ap, ◌∙◌, arith}
use Rattle.std.proofs.lemmas.List.{length-take-le}
use Rattle.limit.specs.Windows.{covered, overlaps_any, place_of, in_order, put_in}
use Rattle.limit.proofs.Admits.{place-fits, grown, order_inserted, accepted, put_is, covered_put}
use Rattle.limit.proofs.table.WindowTable.admit.Goals as goal

pub insert-requires : goal.insert-requires
insert-requires c =
    place-fits c.args.self.now.windows c.args.self.now.count _ c.args.window (omega arith) (c.place-at.ensures ∙ ap (place_of c.args.window) c.held-2.ensures)

pub invariant_of-self : goal.invariant_of-self
invariant_of-self c =
    let t = c.args.self.now in
    let list = grown t.windows t.count _ c.args.window (omega arith) (c.place-at.ensures ∙ ap (place_of c.args.window) c.held-2.ensures) _ c.insert.ensures in
    record { ok = (omega arith, ap in_order list ∙ order_inserted c.args.window (take t.count t.windows) c.if-window.false t.ok.1 (sym (c.if-overlaps.ensures ∙ ap (overlaps_any c.args.window) c.held.ensures))) }

pub returns : goal.returns
returns c =
    let t = c.args.self.now in
    let w = c.args.window in
    let ws = take t.count t.windows in
    let list = grown t.windows t.count _ w (omega arith) (c.place-at.ensures ∙ ap (place_of w) c.held-2.ensures) _ c.insert.ensures ∙ sym (put_is w ws) in
    let room : length ws < 16 = omega (arith, length-take-le t.count t.windows (omega arith)) in
    let ok = accepted ws w c.if-window.false (sym (c.if-overlaps.ensures ∙ ap (overlaps_any w) c.held.ensures)) room in
    record {
      answer = sym ok;
      after = list ∙ sym (ap (λ r. cond (is_ok r) (put_in w ws) ws) ok);
      grows = λ _ at. ap (λ l. covered l at) list ∙ covered_put w ws at;
    }
