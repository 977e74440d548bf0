use Rattle.std.proofs.Common.{◌<◌, length, take, is_some, sym, ap, ◌∙◌, arith}
use Rattle.std.proofs.lemmas.List.{length-take-le}
use Rattle.records.specs.Spans.{found}
use Rattle.limit.specs.Windows.{window_first, window_last, in_order}
use Rattle.limit.proofs.Admits.{covered-found, open_covered}
use Rattle.limit.proofs.table.WindowTable.admits.Goals as goal

pub returns-else-self-eq0 : goal.returns-else-self-eq0
returns-else-self-eq0 c =
    let t = c.args.self.now in
    let ws = take t.count t.windows in
    let at = c.args.at.0 in
    let is = c.held.ensures in
    let some : 0 < length ws = omega (arith, length-take-le t.count t.windows (omega arith)) in
    let finds = c.find.ensures.finds (ap in_order is ∙ t.ok.1) ∙ ap (found window_first window_last at) is in
    c.is_some.ensures ∙ ap is_some finds ∙ sym (open_covered ws at some ∙ covered-found ws at)
