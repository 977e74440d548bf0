use Rattle.std.proofs.Common.{◌≡◌, ◌+◌, ◌-◌, Err, None, refl, sym, ap, ◌∙◌, arith}
use Rattle.std.proofs.lemmas.Result.{err_from_is_err_and}
use Rattle.std.specs.Result.{result_map_both}
use Rattle.infos.specs.Infos.{tail_view}
use Rattle.unwind.specs.Chains.{undo_fault, after_links, followed, chain_undone}
use Rattle.unwind.specs.Undoing.{returned}
use Rattle.unwind.proofs.Chains.{chain_end, chain_full, chain_fault, chain_next}
use Rattle.unwind.proofs.chain.undo_chain.Goals as goal

pub loop-links-init : goal.loop-links-init
loop-links-init g c = (refl, refl)

pub returns-in_default-clause-answer : goal.returns-in_default-clause-answer
returns-in_default-clause-answer g c =
    let s = g.M.Memory.shows c.args.m.now in
    let l = c.loop-links in
    c.return_after.ensures.answer ∙ ap (λ h. after_links l.links (returned h l.registers)) l.invariant.1
    ∙ sym (l.invariant.0 ∙ chain_end s c.args.area c.args.base l.links (tail_view l.tail) l.registers (32 - l.links) (sym c.link.ensures ∙ c.in_default.is))

pub returns-in_default-clause-same : goal.returns-in_default-clause-same
returns-in_default-clause-same g c = c.return_after.ensures.same ∙ c.loop-links.invariant.1

pub returns-in_err-followed-clause-answer : goal.returns-in_err-followed-clause-answer
returns-in_err-followed-clause-answer g c =
    let s = g.M.Memory.shows c.args.m.now in
    let l = c.loop-links in
    let next = c.in-Some.next in
    let done = c.in_err-followed.ensures.answer ∙ ap (λ h. followed h c.args.area c.args.base (l.links + 1) next l.registers) l.invariant.1 in
    let p = err_from_is_err_and c.from_residual.result c.from_residual.ensures.1 in
    ap (λ z. result_map_both (λ x. x) undo_fault z) (p.1 ∙ ap Err p.2)
    ∙ sym (l.invariant.0 ∙ chain_fault s c.args.area c.args.base l.links (tail_view l.tail) l.registers (32 - l.links) (omega arith) next (sym c.link.ensures ∙ c.in-Some.is) _ done)

pub returns-in_err-followed-clause-same : goal.returns-in_err-followed-clause-same
returns-in_err-followed-clause-same g c = c.in_err-followed.ensures.same ∙ c.loop-links.invariant.1

pub loop-links-preserved : goal.loop-links-preserved
loop-links-preserved g c =
    let s = g.M.Memory.shows c.args.m.now in
    let l = c.loop-links in
    let next = c.in-Some.next in
    let u = tail_view c.in_ok-followed.followed.0 in
    let after = c.in_ok-followed.followed.1 in
    let done = c.in_ok-followed.ensures.answer ∙ ap (λ h. followed h c.args.area c.args.base (l.links + 1) next l.registers) l.invariant.1 in
    let less : 32 - l.links - 1 ≡ 32 - (l.links + 1) = omega arith in (
      l.invariant.0 ∙ chain_next s c.args.area c.args.base l.links (tail_view l.tail) l.registers (32 - l.links) (omega arith) next (sym c.link.ensures ∙ c.in-Some.is) u after done
          ∙ ap (λ n. chain_undone s c.args.area c.args.base n (l.links + 1) u after) less,
      c.in_ok-followed.ensures.same ∙ l.invariant.1,
    )

pub returns-in-Some-link-clause-answer : goal.returns-in-Some-link-clause-answer
returns-in-Some-link-clause-answer g c =
    let s = g.M.Memory.shows c.args.m.now in
    let l = c.loop-links in
    let next = c.in-Some-link.next in
    let none : 32 - l.links ≡ 0 = omega arith in
    let full : l.links ≡ 32 = omega arith in
    sym (l.invariant.0 ∙ ap (λ n. chain_undone s c.args.area c.args.base n l.links (tail_view l.tail) l.registers) none
    ∙ chain_full s c.args.area c.args.base l.links (tail_view l.tail) l.registers next (sym c.link-2.ensures ∙ c.in-Some-link.is)
    ∙ ap (λ k. Err (record { fault = record { number = 46; place = next.info.0 }; slot = None; links = k })) full)

pub returns-in-Some-link-clause-same : goal.returns-in-Some-link-clause-same
returns-in-Some-link-clause-same g c = c.loop-links.invariant.1

pub returns-in-None-clause-answer : goal.returns-in-None-clause-answer
returns-in-None-clause-answer g c =
    let s = g.M.Memory.shows c.args.m.now in
    let l = c.loop-links in
    let full : l.links ≡ 32 = omega arith in
    c.return_after-in-None.ensures.answer ∙ ap (λ h. after_links 32 (returned h l.registers)) l.invariant.1
    ∙ sym (l.invariant.0 ∙ chain_end s c.args.area c.args.base l.links (tail_view l.tail) l.registers (32 - l.links) (sym c.link-2.ensures ∙ c.in-None.is) ∙ ap (λ k. after_links k (returned s l.registers)) full)

pub returns-in-None-clause-same : goal.returns-in-None-clause-same
returns-in-None-clause-same g c = c.return_after-in-None.ensures.same ∙ c.loop-links.invariant.1
