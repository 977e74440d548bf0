use Rattle.std.proofs.Common.{◌≡◌, ◌+◌, ◌-◌, true, Ok, Err, ⊎_elim, refl, sym, ap, ◌∙◌, arith}
use Rattle.std.proofs.lemmas.Result.{err_from_is_err_and}
use Rattle.std.specs.Result.{result_map_both}
use Rattle.layout.specs.declared.address.Address.{Address}
use Rattle.memory.specs.Reads.{answer}
use Rattle.memory.specs.Refusals.{item_fault}
use Rattle.unwind.specs.Carrying.{acted, carried}
use Rattle.unwind.specs.Epilogues.{actions, found, listed}
use Rattle.unwind.specs.declared.epilogue.Part.TheVariants.{First}
use Rattle.unwind.specs.declared.epilogue.Next.TheVariants.{On, Whole}
use Rattle.unwind.proofs.Carrying.{went_on, faulted, closed}
use Rattle.unwind.proofs.Scanning.{stops, misfits, goes_on, goes_whole, lists_on, lists_whole, lists_none, nothing_left, not_refused, not_missing}
use Rattle.unwind.specs.Undoing.{returned}
use Rattle.unwind.proofs.carry.carry_out.Goals as goal
use Rattle.unwind.proofs.carry.carry_out.Goals.{in-On, in-Whole+in_ok-registers-in-Whole, else-loop-i-test, then-loop-i-test+in_ok-b+in-Found}

pub loop-i-init : goal.loop-i-init
loop-i-init g c =
    let s = g.M.Memory.shows c.args.m.now in
    let at : c.args.start.0 ≡ c.args.start.0 + 0 = omega arith in
    let all : c.args.left ≡ c.args.left - 0 = omega arith in
    let same = ap (λ k. actions c.args.frame First k c.args.left s) at ∙ ap (λ n. actions c.args.frame First (c.args.start.0 + 0) n s) all in
    (sym (ap found same) ∙ c.requires.found, ap (λ r. carried s (listed r) c.args.registers) same, refl)

pub returns-in_err-b-clause-answer : goal.returns-in_err-b-clause-answer
returns-in_err-b-clause-answer g c =
    let s = g.M.Memory.shows c.args.m.now in
    let a : Address = record { 0 = c.args.start.0 + c.loop-i.i } in
    let inv = c.loop-i.invariant in
    let r = c.in_err-b.ensures.answer ∙ ap (λ f. answer (f a.0) a) inv.2 in
    absurd (not_refused _ (stops c.args.frame s c.loop-i.part a (c.args.left - c.loop-i.i) (omega arith) c.in_err-b.field-0.0 r ∙ inv.0))

pub returns-in_err-b-clause-same : goal.returns-in_err-b-clause-same
returns-in_err-b-clause-same g c = c.in_err-b.ensures.same ∙ c.loop-i.invariant.2

pub returns-in_err-registers-in-Whole-clause-answer : goal.returns-in_err-registers-in-Whole-clause-answer
returns-in_err-registers-in-Whole-clause-answer g c =
    let s = g.M.Memory.shows c.args.m.now in
    let a : Address = record { 0 = c.args.start.0 + c.loop-i.i } in
    let left = c.args.left - c.loop-i.i in
    let inv = c.loop-i.invariant in
    let w = c.in-Whole in
    let r = c.in_ok-b.ensures.answer ∙ ap (λ f. answer (f a.0) a) inv.2 in
    let shows = c.in_ok-b.ensures.same ∙ inv.2 in
    let rest = actions c.args.frame w.p (a.0 + 1) (left - 1) s in
    let ok : found rest ≡ Ok true = sym (goes_whole c.args.frame s c.loop-i.part a left (omega arith) c.in_ok-b.b r c.next.result c.next.ensures w.action w.p w.is) ∙ inv.0 in
    let list = lists_whole c.args.frame s c.loop-i.part a left (omega arith) c.in_ok-b.b r c.next.result c.next.ensures w.action w.p w.is ok in
    let done = c.in_err-registers-in-Whole.ensures.answer ∙ ap (λ f. acted f w.action c.loop-i.registers) shows in
    let p = err_from_is_err_and c.from_residual-in_err-registers-in-Whole.result c.from_residual-in_err-registers-in-Whole.ensures.1 in
    ap (λ z. result_map_both (λ x. x) item_fault z) (p.1 ∙ ap Err p.2) ∙ sym (inv.1 ∙ ap (λ l. carried s l c.loop-i.registers) list ∙ faulted s w.action (listed rest) c.loop-i.registers _ done)

pub returns-in_err-registers-in-Whole-clause-same : goal.returns-in_err-registers-in-Whole-clause-same
returns-in_err-registers-in-Whole-clause-same g c = c.in_err-registers-in-Whole.ensures.same ∙ (c.in_ok-b.ensures.same ∙ c.loop-i.invariant.2)

pub loop-i-preserved : goal.loop-i-preserved
loop-i-preserved g c =
    let s = g.M.Memory.shows c.args.m.now in
    let a : Address = record { 0 = c.args.start.0 + c.loop-i.i } in
    let left = c.args.left - c.loop-i.i in
    let inv = c.loop-i.invariant in
    let regs = c.loop-i.registers in
    let r = c.in_ok-b.ensures.answer ∙ ap (λ f. answer (f a.0) a) inv.2 in
    let shows = c.in_ok-b.ensures.same ∙ inv.2 in
    let q = c.match-next.part in
    let at : a.0 + 1 ≡ c.args.start.0 + (c.loop-i.i + 1) = omega arith in
    let less : left - 1 ≡ c.args.left - (c.loop-i.i + 1) = omega arith in
    let moved = ap (λ k. actions c.args.frame q k (left - 1) s) at ∙ ap (λ n. actions c.args.frame q (c.args.start.0 + (c.loop-i.i + 1)) n s) less in
    elim c.match-next.branch [
      | in-On w ↦
          let e = w.in-On.is ∙ ap On (sym w.part-is) in
          let on = goes_on c.args.frame s c.loop-i.part a left (omega arith) c.in_ok-b.b r c.next.result c.next.ensures q e in
          let list = lists_on c.args.frame s c.loop-i.part a left (omega arith) c.in_ok-b.b r c.next.result c.next.ensures q e in (
            sym (ap found moved) ∙ (sym on ∙ inv.0),
            inv.1 ∙ ap (λ l. carried s l regs) list ∙ ap (λ x. carried s (listed x) regs) moved ∙ ap (carried s _) (sym w.registers-is),
            ap g.M.Memory.shows w.m-is ∙ shows,
          )
      | in-Whole+in_ok-registers-in-Whole w ↦
          let act = w.in-Whole.action in
          let e = w.in-Whole.is ∙ ap (Whole act) (sym w.part-is) in
          let ok = sym (goes_whole c.args.frame s c.loop-i.part a left (omega arith) c.in_ok-b.b r c.next.result c.next.ensures act q e) ∙ inv.0 in
          let list = lists_whole c.args.frame s c.loop-i.part a left (omega arith) c.in_ok-b.b r c.next.result c.next.ensures act q e ok in
          let done = w.in_ok-registers-in-Whole.ensures.answer ∙ ap (λ f. acted f act regs) shows in (
            sym (ap found moved) ∙ ok,
            inv.1 ∙ ap (λ l. carried s l regs) list ∙ went_on s act _ regs _ done ∙ ap (carried s (listed (actions c.args.frame q (a.0 + 1) (left - 1) s))) (sym w.registers-is) ∙ ap (λ x. carried s (listed x) c.match-next.registers) moved,
            ap g.M.Memory.shows w.m-is ∙ (w.in_ok-registers-in-Whole.ensures.same ∙ shows),
          )
    ]

pub returns-clause-answer : goal.returns-clause-answer
returns-clause-answer g c =
    let s = g.M.Memory.shows c.args.m.now in
    let a : Address = record { 0 = c.args.start.0 + c.loop-i.i } in
    let left = c.args.left - c.loop-i.i in
    let inv = c.loop-i.invariant in
    let regs = c.loop-i.registers in
    elim c.loop-i-test.branch [
      | else-loop-i-test w ↦ absurd (not_missing (nothing_left c.args.frame s c.loop-i.part a.0 left (omega arith) ∙ inv.0))
      | then-loop-i-test+in_ok-b+in-Found w ↦
          let r = w.in_ok-b.ensures.answer ∙ ap (λ f. answer (f a.0) a) inv.2 in
          let shows = ap g.M.Memory.shows w.m-is ∙ (w.in_ok-b.ensures.same ∙ inv.2) in
          ⊎_elim
          (λ e. let list = lists_none c.args.frame s c.loop-i.part a left (omega arith) w.in_ok-b.b r w.next.result w.next.ensures e in
          c.pop_rip.ensures.answer ∙ ap (λ f. returned f regs) shows ∙ sym (inv.1 ∙ ap (λ l. carried s l regs) list ∙ closed s regs))
          (λ e. absurd (not_missing (misfits c.args.frame s c.loop-i.part a left (omega arith) w.in_ok-b.b r w.next.result w.next.ensures e ∙ inv.0)))
          w.in-Found.is
    ]

pub returns-clause-same : goal.returns-clause-same
returns-clause-same g c =
    elim c.loop-i-test.branch [
      | else-loop-i-test w ↦ c.pop_rip.ensures.same ∙ (ap g.M.Memory.shows w.m-is ∙ c.loop-i.invariant.2)
      | then-loop-i-test+in_ok-b+in-Found w ↦ c.pop_rip.ensures.same ∙ (ap g.M.Memory.shows w.m-is ∙ (w.in_ok-b.ensures.same ∙ c.loop-i.invariant.2))
    ]
