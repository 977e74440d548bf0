use Rattle.std.proofs.Common.{◌+◌, ◌*◌, ◌/◌, ◌%◌, arith, rules}
use Rattle.std.proofs.lemmas.Bool.Decides.{nat_tests}
use Rattle.x64.specs.Decodings.{at_rsp_form, at_frame_form}
use Rattle.x64.proofs.decode.decode_memory.Goals as goal

pub returns-then-m-ne4 : goal.returns-then-m-ne4
returns-then-m-ne4 c =
    let m = c.in_ok-m.field-0.now in
    simp (c.with_displacement.ensures (at_frame_form c.args.op (m / 8 % 8 + 8 * (c.args.rex / 4)) (m % 8 + 8 * (c.args.rex % 2))) (λ d i p. search rules)) (grind (arith, nat_tests))

pub returns : goal.returns
returns c =
    let m = c.in_ok-m.field-0.now in
    simp (c.with_displacement-2.ensures (at_rsp_form c.args.op (m / 8 % 8 + 8 * (c.args.rex / 4))) (λ d i p. search rules)) (grind (arith, nat_tests))
