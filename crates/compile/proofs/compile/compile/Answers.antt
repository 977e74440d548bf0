use Rattle.std.proofs.Common.{◌≡◌, ◌*◌, length, sym, refl}
use Rattle.std.proofs.lemmas.Result.{err_from_is_err_and}
use Rattle.plan.specs.Functions.{text_of, functions_of}
use Rattle.compile.specs.Compilings.{lengths}
use Rattle.compile.proofs.Compiled.{lengths_are, writable, compiled_ok, compiled_short}
use Rattle.compile.proofs.compile.compile.Goals as goal
use Rattle.compile.proofs.compile.compile.Goals.{After-measure-layout}

measured : (c : After-measure-layout) → record { code = c.measure-layout.result.code; infos = c.measure-layout.result.infos; table = 12 * length c.args.plan.now.functions.now } ≡ lengths (functions_of (text_of c.args.plan.now))
measured c = lengths_are (text_of c.args.plan.now) _ _ c.measure-layout.ensures.code c.measure-layout.ensures.infos

pub returns-in_err-check_room : goal.returns-in_err-check_room
returns-in_err-check_room c =
    let p = err_from_is_err_and c.from_residual-in_err-check_room.result c.from_residual-in_err-check_room.ensures.1 in
    let n = measured (goal.at.returns-in_err-check_room c).After-measure-layout in
    rw (p.1, p.2) (record { answer = sym (compiled_short (text_of c.args.plan.now) (sym c.in_ok-check.ensures) _ n _ _ _ _ (sym c.in_err-check_room.ensures)); code = refl; infos = refl; table = refl })

pub write_module-requires : goal.write_module-requires
write_module-requires c =
    let n = measured (goal.at.write_module-requires c).After-measure-layout in
    writable (text_of c.args.plan.now) (sym c.in_ok-check.ensures) _ n _ _ _ (sym c.in_ok-check_room.ensures) _ c.measure-layout.ensures.starts _ c.info_start-rva.ensures c.measure-layout.ensures.bound

pub returns : goal.returns
returns c =
    let n = measured (goal.at.returns c).After-measure-layout in
    record {
      answer = sym (compiled_ok (text_of c.args.plan.now) (sym c.in_ok-check.ensures) _ n _ _ _ (sym c.in_ok-check_room.ensures));
      code = c.write_module.ensures.code;
      infos = c.write_module.ensures.infos;
      table = c.write_module.ensures.table;
    }
