use Rattle.std.proofs.Common.{◌≡◌, length, sym, ap, ◌∙◌, arith}
use Rattle.infos.specs.Infos.{viewed, info_view}
use Rattle.readback.specs.Refusals.{told}
use Rattle.readback.specs.Readings.{steps_in, function_steps_in, found}
use Rattle.readback.proofs.Passes.{function_is, counted-found}
use Rattle.readback.proofs.read.write_function.Goals as goal

pub write_steps-requires-clause-room : goal.write_steps-requires-clause-room
write_steps-requires-clause-room c =
    let info = viewed c.unwrap-info.result in
    let same : function_steps_in c.args.area c.args.entry ≡ steps_in info = function_is c.args.area.bytes.now c.args.area.start.0 c.args.entry info (ap info_view (sym c.unwrap-info.ensures) ∙ c.read_info.ensures.value) c.requires.0 in
    let n : length (found (steps_in info)) ≡ c.unwrap-n.result = counted-found (steps_in info) _ (ap told (sym c.unwrap-n.ensures) ∙ c.count_steps.ensures.value) in
    let room : length (found (function_steps_in c.args.area c.args.entry)) ≡ length (found (steps_in info)) = ap (λ r. length (found r)) same in
    (omega arith, omega (arith, c.requires.1))
