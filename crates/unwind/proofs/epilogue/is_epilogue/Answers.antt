use Rattle.std.proofs.Common.{◌≡◌, ◌+◌, ◌-◌, Err, refl, sym, ap, ◌∙◌, arith}
use Rattle.std.proofs.lemmas.Result.{err_from_is_err_and}
use Rattle.std.specs.Result.{result_map_both}
use Rattle.layout.specs.declared.address.Address.{Address}
use Rattle.memory.specs.Reads.{answer}
use Rattle.unwind.specs.Epilogues.{actions, found}
use Rattle.unwind.specs.declared.epilogue.Part.TheVariants.{First}
use Rattle.unwind.specs.declared.epilogue.Next.TheVariants.{On, Whole}
use Rattle.unwind.proofs.Scanning.{stops, finds, misfits, goes_on, goes_whole, nothing_left}
use Rattle.unwind.proofs.epilogue.is_epilogue.Goals as goal
use Rattle.unwind.proofs.epilogue.is_epilogue.Goals.{in-On, in-Whole}

pub loop-i-init : goal.loop-i-init
loop-i-init g c =
    let s = g.M.Memory.shows c.args.m.now in
    let at : c.args.start.0 ≡ c.args.start.0 + 0 = omega arith in
    let all : c.args.left ≡ c.args.left - 0 = omega arith in
    (ap (λ k. found (actions c.args.frame First k c.args.left s)) at ∙ ap (λ n. found (actions c.args.frame First (c.args.start.0 + 0) n s)) all, refl)

pub returns-in_err-b-clause-answer : goal.returns-in_err-b-clause-answer
returns-in_err-b-clause-answer g c =
    let s = g.M.Memory.shows c.args.m.now in
    let a : Address = record { 0 = c.args.start.0 + c.loop-i.i } in
    let inv = c.loop-i.invariant in
    let p = err_from_is_err_and c.from_residual.result c.from_residual.ensures.1 in
    let r = c.in_err-b.ensures.answer ∙ ap (λ f. answer (f a.0) a) inv.1 in
    ap (λ z. result_map_both (λ b. b) (λ e. e.at.0) z) (p.1 ∙ ap Err p.2) ∙ stops c.args.frame s c.loop-i.part a (c.args.left - c.loop-i.i) (omega arith) c.in_err-b.field-0.0 r ∙ sym inv.0

pub returns-in_err-b-clause-same : goal.returns-in_err-b-clause-same
returns-in_err-b-clause-same g c = c.in_err-b.ensures.same ∙ c.loop-i.invariant.1

pub returns-in-Found-clause-answer : goal.returns-in-Found-clause-answer
returns-in-Found-clause-answer g c =
    let s = g.M.Memory.shows c.args.m.now in
    let a : Address = record { 0 = c.args.start.0 + c.loop-i.i } in
    let inv = c.loop-i.invariant in
    let r = c.in_ok-b.ensures.answer ∙ ap (λ f. answer (f a.0) a) inv.1 in
    finds c.args.frame s c.loop-i.part a (c.args.left - c.loop-i.i) (omega arith) c.in_ok-b.b r c.next.result c.next.ensures c.in-Found.is ∙ sym inv.0

pub returns-in-Found-clause-same : goal.returns-in-Found-clause-same
returns-in-Found-clause-same g c = c.in_ok-b.ensures.same ∙ c.loop-i.invariant.1

pub returns-in-Misfit-clause-answer : goal.returns-in-Misfit-clause-answer
returns-in-Misfit-clause-answer g c =
    let s = g.M.Memory.shows c.args.m.now in
    let a : Address = record { 0 = c.args.start.0 + c.loop-i.i } in
    let inv = c.loop-i.invariant in
    let r = c.in_ok-b.ensures.answer ∙ ap (λ f. answer (f a.0) a) inv.1 in
    misfits c.args.frame s c.loop-i.part a (c.args.left - c.loop-i.i) (omega arith) c.in_ok-b.b r c.next.result c.next.ensures c.in-Misfit.is ∙ sym inv.0

pub returns-in-Misfit-clause-same : goal.returns-in-Misfit-clause-same
returns-in-Misfit-clause-same g c = c.in_ok-b.ensures.same ∙ c.loop-i.invariant.1

pub loop-i-preserved : goal.loop-i-preserved
loop-i-preserved g c =
    let s = g.M.Memory.shows c.args.m.now in
    let a : Address = record { 0 = c.args.start.0 + c.loop-i.i } in
    let left = c.args.left - c.loop-i.i in
    let inv = c.loop-i.invariant in
    let r = c.in_ok-b.ensures.answer ∙ ap (λ f. answer (f a.0) a) inv.1 in
    let q = c.match-next.part in
    let at : a.0 + 1 ≡ c.args.start.0 + (c.loop-i.i + 1) = omega arith in
    let rest : left - 1 ≡ c.args.left - (c.loop-i.i + 1) = omega arith in
    let moved = ap (λ k. found (actions c.args.frame q k (left - 1) s)) at ∙ ap (λ n. found (actions c.args.frame q (c.args.start.0 + (c.loop-i.i + 1)) n s)) rest in
    let same = c.in_ok-b.ensures.same ∙ inv.1 in
    elim c.match-next.branch [
      | in-On w ↦ (inv.0 ∙ goes_on c.args.frame s c.loop-i.part a left (omega arith) c.in_ok-b.b r c.next.result c.next.ensures q (w.in-On.is ∙ ap On (sym w.part-is)) ∙ moved, same)
      | in-Whole w ↦ (inv.0 ∙ goes_whole c.args.frame s c.loop-i.part a left (omega arith) c.in_ok-b.b r c.next.result c.next.ensures w.in-Whole.field-0 q (w.in-Whole.is ∙ ap (Whole w.in-Whole.field-0) (sym w.part-is)) ∙ moved, same)
    ]

pub returns-clause-answer : goal.returns-clause-answer
returns-clause-answer g c = nothing_left c.args.frame (g.M.Memory.shows c.args.m.now) c.loop-i.part (c.args.start.0 + c.loop-i.i) (c.args.left - c.loop-i.i) (omega arith) ∙ sym c.loop-i.invariant.0

pub returns-clause-same : goal.returns-clause-same
returns-clause-same g c = c.loop-i.invariant.1
