use Rattle.std.proofs.Common.{◌<◌, ◌≤◌, Err, refl, sym, ap, ◌∙◌, arith}
use Rattle.std.proofs.lemmas.Result.{err_from_is_err_and}
use Rattle.std.specs.Result.{result_map_both}
use Rattle.infos.specs.Codings.{codes_left}
use Rattle.infos.specs.Listings.{listed}
use Rattle.infos.specs.Sequences.{gathered}
use Rattle.infos.proofs.Outcomes.{all_good, good_none, next_ok, next_is, next_slot}
use Rattle.unwind.specs.Codes.{code_undone, in_slot, code_fault, codes_undone}
use Rattle.unwind.proofs.Codes.{undone_skip, undone_ok, undone_err, undone_none}
use Rattle.unwind.proofs.code.undo_codes.Goals as goal

pub loop-code-init : goal.loop-code-init
loop-code-init g c =
    record { can = tt; ends = tt; rest = listed (gathered (codes_left c.args.codes)); left = ap codes_left c.into_iter-code-iterator.ensures.into_iter_gives ∙ all_good (codes_left c.args.codes) c.requires; goes = refl; same = refl }

pub unwrap-code-requires : goal.unwrap-code-requires
unwrap-code-requires g c = next_ok c.loop-code.code-iterator _ _ _ c.loop-code.invariant.left c.in-Some.ensures.steps

pub undo_code-requires : goal.undo_code-requires
undo_code-requires g c =
    let it = c.loop-code.code-iterator in
    let slot = next_slot it _ _ _ c.loop-code.invariant.left c.in-Some.ensures.steps _ c.unwrap-code.ensures in
    omega (arith, slot, it.few)

pub returns-in_err-registers-clause-answer : goal.returns-in_err-registers-clause-answer
returns-in_err-registers-clause-answer g c =
    let s = g.M.Memory.shows c.args.m.now in
    let v = c.args.saves in
    let inv = c.loop-code.invariant in
    let x = c.unwrap-code.result in
    let f = next_is c.loop-code.code-iterator _ _ _ inv.left c.in-Some.ensures.steps _ c.unwrap-code.ensures in
    let soon : x.offset ≤ c.args.limit = omega (arith, c.if-from-limit.true, c.from.ensures) in
    let done = c.in_err-registers.ensures.answer ∙ ap (λ h. in_slot x.slot (code_undone h v x.operation c.loop-code.registers)) inv.same in
    let p = err_from_is_err_and c.from_residual.result c.from_residual.ensures.1 in
    ap (λ z. result_map_both (λ r. r) code_fault z) (p.1 ∙ ap Err p.2)
    ∙ sym (inv.goes ∙ ap (λ cs. codes_undone s v c.args.limit cs c.loop-code.registers) f.1 ∙ undone_err s v c.args.limit x f.0 c.loop-code.registers _ soon done)

pub returns-in_err-registers-clause-same : goal.returns-in_err-registers-clause-same
returns-in_err-registers-clause-same g c = c.in_err-registers.ensures.same ∙ c.loop-code.invariant.same

pub loop-code-preserved-then-from-limit : goal.loop-code-preserved-then-from-limit
loop-code-preserved-then-from-limit g c =
    let s = g.M.Memory.shows c.args.m.now in
    let v = c.args.saves in
    let inv = c.loop-code.invariant in
    let x = c.unwrap-code.result in
    let f = next_is c.loop-code.code-iterator _ _ _ inv.left c.in-Some.ensures.steps _ c.unwrap-code.ensures in
    let soon : x.offset ≤ c.args.limit = omega (arith, c.if-from-limit.true, c.from.ensures) in
    let done = c.in_ok-registers.ensures.answer ∙ ap (λ h. in_slot x.slot (code_undone h v x.operation c.loop-code.registers)) inv.same in
    let goes = inv.goes ∙ ap (λ cs. codes_undone s v c.args.limit cs c.loop-code.registers) f.1 ∙ undone_ok s v c.args.limit x f.0 c.loop-code.registers _ soon done in
    record { can = tt; ends = tt; rest = f.0; left = f.2; goes = goes; same = c.in_ok-registers.ensures.same ∙ inv.same }

pub loop-code-preserved : goal.loop-code-preserved
loop-code-preserved g c =
    let s = g.M.Memory.shows c.args.m.now in
    let v = c.args.saves in
    let inv = c.loop-code.invariant in
    let x = c.unwrap-code.result in
    let f = next_is c.loop-code.code-iterator _ _ _ inv.left c.in-Some.ensures.steps _ c.unwrap-code.ensures in
    let late : c.args.limit < x.offset = omega (arith, c.if-from-limit.false, c.from.ensures) in
    let goes = inv.goes ∙ ap (λ cs. codes_undone s v c.args.limit cs c.loop-code.registers) f.1 ∙ undone_skip s v c.args.limit x f.0 c.loop-code.registers late in
    record { can = tt; ends = tt; rest = f.0; left = f.2; goes = goes; same = inv.same }

pub returns-clause-answer : goal.returns-clause-answer
returns-clause-answer g c =
    let s = g.M.Memory.shows c.args.m.now in
    let inv = c.loop-code.invariant in
    let none = good_none inv.rest (sym inv.left ∙ c.in-None.ensures.steps.0) in
    sym (inv.goes ∙ ap (λ cs. codes_undone s c.args.saves c.args.limit cs c.loop-code.registers) none ∙ undone_none s c.args.saves c.args.limit c.loop-code.registers)

pub returns-clause-same : goal.returns-clause-same
returns-clause-same g c = c.loop-code.invariant.same
