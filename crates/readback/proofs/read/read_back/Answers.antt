use Rattle.std.proofs.Common.{◌++◌, map, length, drop, sym, refl, ap, ◌∙◌, inl, inr, ⊎_elim}
use Rattle.std.proofs.lemmas.Result.{err_from_is_err_and}
use Rattle.readback.specs.Readings.{module_view, read_steps, found, joint, counts_of}
use Rattle.readback.proofs.Compiled.{compiled_back}
use Rattle.readback.proofs.Endings.{enough, too_few, all_read, steps-count, refused_module, refused_function}
use Rattle.readback.proofs.read.read_back.Goals as goal

pub returns-in_err-check : goal.returns-in_err-check
returns-in_err-check c =
    let m = module_view c.args.«module».now in
    let functions = c.args.functions.now in
    let steps = c.args.steps.now in
    let p = err_from_is_err_and c.from_residual.result c.from_residual.ensures.1 in
    let said = refused_module m (length functions) (length steps) _ c.in_err-check.ensures in
    rw (p.1, p.2) (record { answer = said; functions = refl; steps = refl; compiled = compiled_back m functions steps _ functions steps said refl refl })

pub returns-in_err-count : goal.returns-in_err-count
returns-in_err-count c =
    let m = module_view c.args.«module».now in
    let functions = c.args.functions.now in
    let steps = c.args.steps.now in
    let p = err_from_is_err_and c.from_residual-in_err-count.result c.from_residual-in_err-count.ensures.1 in
    let said = refused_function m (length functions) (length steps) _ c.in_ok-check.ensures c.in_err-count.ensures in
    rw (p.1, p.2) (record { answer = said; functions = refl; steps = refl; compiled = compiled_back m functions steps _ functions steps said refl refl })

pub returns-then-module-functions : goal.returns-then-module-functions
returns-then-module-functions c =
    let m = module_view c.args.«module».now in
    let functions = c.args.functions.now in
    let steps = c.args.steps.now in
    let said = too_few m c.in_ok-check.ensures _ c.in_ok-count.ensures (length functions) (length steps) (⊎_elim inl (λ p. inr p.1) c.then-module-functions.either) in
    record { answer = said; functions = refl; steps = refl; compiled = compiled_back m functions steps _ functions steps said refl refl }

pub returns : goal.returns
returns c =
    let m = module_view c.args.«module».now in
    let functions = c.args.functions.now in
    let steps = c.args.steps.now in
    let count = c.in_ok-count.count in
    let all = all_read m c.in_ok-check.ensures _ c.in_ok-count.ensures in
    let size = steps-count m c.in_ok-check.ensures _ c.in_ok-count.ensures in
    let said = enough m c.in_ok-check.ensures _ c.in_ok-count.ensures (length functions) (length steps) c.if-module-functions.false c.if-count-steps.false in
    let own = c.write_functions.ensures.functions ∙ ap (λ r. map counts_of (found r) ++ drop (length m.entries) functions) (sym all) in
    let others = c.write_functions.ensures.steps ∙ ap (λ n. joint (found (read_steps m.area m.start m.entries)) ++ drop n steps) (sym size) ∙ ap (λ r. joint (found r) ++ drop count steps) (sym all) in
    record { answer = said; functions = own; steps = others; compiled = compiled_back m functions steps _ c.write_functions.new.functions c.write_functions.new.steps said own others }
