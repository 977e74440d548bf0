use Rattle.std.proofs.Common.{◌≡◌, ◌<◌, length, take, Ok, Err, sym, ap, ◌∙◌, arith}
use Rattle.std.proofs.lemmas.List.{take_more_set, take_all}
use Rattle.std.proofs.lemmas.Result.{err_from_is_err_and}
use Rattle.memory.specs.Items.{item_byte, item_bytes}
use Rattle.memory.specs.Refusals.{item_fault}
use Rattle.memory.proofs.Items.{bytes_more, bytes_stop, ended}
use Rattle.memory.proofs.item.read_bytes.Goals as goal

pub returns-in_err-byte : goal.returns-in_err-byte
returns-in_err-byte g c =
    let f = g.M.Memory.shows c.args.m.now in
    let start = c.args.start.0 in
    let i = c.loop-i.i in
    let inv = c.loop-i.invariant in
    let said = c.in_err-byte.ensures in
    let e = c.in_err-byte.field-0.0 in
    let p = err_from_is_err_and c.from_residual.result c.from_residual.ensures.1 in
    let here : item_byte f start i ≡ Err (item_fault e) = sym (said.answer ∙ ap (λ s. item_byte s start i) inv.1) in
    let stop = bytes_stop f start i (length c.args.out.now) (take i c.loop-i.out) (item_fault e) (omega arith) inv.0 here in
    record { answer = ended _ (p.1 ∙ ap Err p.2) ∙ sym stop; same = said.same ∙ inv.1 }

pub loop-i-preserved : goal.loop-i-preserved
loop-i-preserved g c =
    let f = g.M.Memory.shows c.args.m.now in
    let start = c.args.start.0 in
    let i = c.loop-i.i in
    let inv = c.loop-i.invariant in
    let said = c.in_ok-byte.ensures in
    let b = c.in_ok-byte.field-0 in
    let here : item_byte f start i ≡ Ok b = sym (said.answer ∙ ap (λ s. item_byte s start i) inv.1) in
    let more = bytes_more f start i (take i c.loop-i.out) b inv.0 here in
    let within : i < length c.loop-i.out = omega arith in
    (more ∙ ap Ok (sym (take_more_set c.loop-i.out i b within)), said.same ∙ inv.1)

pub returns : goal.returns
returns g c =
    let f = g.M.Memory.shows c.args.m.now in
    let start = c.args.start.0 in
    let inv = c.loop-i.invariant in
    let end : c.loop-i.i ≡ length c.args.out.now = omega arith in
    let all : item_bytes f start (length c.args.out.now) ≡ Ok c.loop-i.out = ap (item_bytes f start) (sym end) ∙ inv.0 ∙ ap Ok (take_all c.loop-i.i c.loop-i.out (omega arith)) in
    record { answer = sym all; same = inv.1 }
