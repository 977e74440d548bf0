use Rattle.std.proofs.Common.{arith, rules}
use Rattle.std.proofs.lemmas.Bool.Decides.{nat_tests}
use Rattle.x64.specs.Decodings.{rsp_form}
use Rattle.x64.proofs.decode.decode_rex.Goals as goal

pub returns-in_ok-group-in-129 : goal.returns-in_ok-group-in-129
returns-in_ok-group-in-129 c = simp (c.with_displacement.ensures (rsp_form c.in_ok-group-in-129.field-0.now) (λ d i p. search rules)) (grind (arith, nat_tests))
