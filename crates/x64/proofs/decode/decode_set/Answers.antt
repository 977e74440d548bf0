use Rattle.std.proofs.Common.{◌+◌, ◌-◌, ◌*◌, arith, rules}
use Rattle.std.proofs.lemmas.Bool.Decides.{nat_tests}
use Rattle.x64.specs.Decodings.{set_form}
use Rattle.x64.proofs.decode.decode_set.Goals as goal

pub returns : goal.returns
returns c = simp (c.with_displacement.ensures (set_form (c.in_ok-m.field-0.now - 192 + 8 * c.args.rex)) (λ d i p. search rules)) (grind (arith, nat_tests))
