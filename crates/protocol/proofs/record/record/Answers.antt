use Rattle.std.proofs.Common.{◌+◌, ◌-◌, ◌<◌, length, take, Err, sym, ap, ◌∙◌, arith, length-set}
use Rattle.std.proofs.lemmas.List.{take_more_set}
use Rattle.std.proofs.lemmas.Result.{err_from_is_err_and}
use Rattle.protocol.specs.Records.{numbers_of}
use Rattle.protocol.proofs.Numbers.{preceded, numbers_missing, numbers_more, numbers_stop}
use Rattle.protocol.proofs.record.record.Goals as goal

pub returns-in_err-part : goal.returns-in_err-part
returns-in_err-part g c =
    let at = c.loop-slot in
    let said = c.in_err-part.ensures.part in
    let p = err_from_is_err_and c.from_residual.result c.from_residual.ensures.1 in
    p.1 ∙ ap Err (p.2 ∙ said.0) ∙ sym (at.invariant.read ∙ numbers_missing g.row.N at.slot-index c.loop-slot-test.true (take at.slot-index at.slot-items) at.parts.rest said.1)

pub returns-in_err-slot : goal.returns-in_err-slot
returns-in_err-slot g c =
    let at = c.loop-slot in
    let p = err_from_is_err_and c.from_residual-in_err-slot.result c.from_residual-in_err-slot.ensures.1 in
    let stop = numbers_stop g.row.N at.slot-index c.loop-slot-test.true (take at.slot-index at.slot-items) at.parts.rest at.parts.separator at.invariant.separator c.in_ok-part.part.now c.part.new.self.rest c.in_ok-part.ensures.part c.in_err-slot.field-0.0 (sym c.in_err-slot.ensures) in
    p.1 ∙ ap Err p.2 ∙ sym (at.invariant.read ∙ stop)

pub loop-slot-preserved : goal.loop-slot-preserved
loop-slot-preserved g c =
    let at = c.loop-slot in
    let i = at.slot-index in
    let n = c.in_ok-slot.field-0 in
    let left = numbers_of (g.row.N - (i + 1)) c.part.new.self.rest in
    let more = numbers_more g.row.N i c.loop-slot-test.true (take i at.slot-items) at.parts.rest at.parts.separator at.invariant.separator c.in_ok-part.part.now c.part.new.self.rest c.in_ok-part.ensures.part n (sym c.in_ok-slot.ensures) in
    let within : i < length at.slot-items = omega (arith, at.invariant.count) in
    record {
      read = at.invariant.read ∙ more ∙ ap (λ ns. preceded ns left) (sym (take_more_set at.slot-items i n within));
      separator = c.in_ok-part.ensures.separator ∙ at.invariant.separator;
      count = length-set at.slot-items i n ∙ at.invariant.count;
    }
