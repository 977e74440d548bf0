use Rattle.std.proofs.Common.{◌≡◌, ◌-◌, ◌≤◌, ◌∷◌, [], ◌++◌, length, drop, set, sym, refl, ap, ◌∙◌, ⊎_elim, arith}
use Rattle.std.specs.Iterator.Adapters.{zip_first, zip_second, rev_source}
use Rattle.std.proofs.lemmas.List.{length-append, append-nil, append_assoc, take-append-drop}
use Rattle.infos.specs.Codes.{bind}
use Rattle.infos.specs.Codings.{codes_left}
use Rattle.infos.specs.Infos.{viewed}
use Rattle.infos.specs.Sequences.{gathered}
use Rattle.infos.proofs.Outcomes.{good_none, both_ok, next_ok, next_is, next_slot}
use Rattle.readback.specs.Refusals.{told}
use Rattle.readback.specs.Readings.{steps_of_codes, steps_in, codes_in, found}
use Rattle.readback.proofs.Passes.{codes_start, codes_good, found_is, step_first, put_before, no_steps, no_items, ok_same}
use Rattle.readback.proofs.step.write_steps.Goals as goal

pub loop-at-init : goal.loop-at-init
loop-at-init c =
    let i = viewed c.args.info.now in
    let old = c.args.records.now in
    let same = c.into_iter-at-iterator.ensures.into_iter_gives in
    let first : rev_source (zip_first c.into_iter-at-iterator.result) ≡ record { start = 0; end = c.args.end } = ap (λ z. rev_source (zip_first z)) same ∙ ap rev_source c.zip-at-items.ensures.first ∙ c.rev.ensures.source in
    let second : gathered (codes_left (zip_second c.into_iter-at-iterator.result)) ≡ codes_in i = ap (λ z. gathered (codes_left (zip_second z))) same ∙ ap (λ it. gathered (codes_left it)) c.zip-at-items.ensures.second ∙ c.codes.ensures.whole c.requires.readable.0 in
    let s = codes_start i (zip_second c.into_iter-at-iterator.result) second (codes_good (codes_in i) _ c.requires.readable.1) in
    rw first
    record {
      can = (tt, tt);
      ends = tt;
      from = refl;
      rest = s.0;
      steps = found (steps_in i);
      done = [];
      left = s.1;
      means = sym (ap (λ r. bind r (steps_of_codes i.frame_register i.frame_offset)) s.2) ∙ found_is (steps_in i) c.requires.readable.1;
      all = sym (append-nil (found (steps_in i)));
      size = omega arith;
      written = sym (take-append-drop c.args.end old);
    }

pub unwrap-requires : goal.unwrap-requires
unwrap-requires c = next_ok (zip_second c.loop-at.at-iterator) _ _ _ c.loop-at.invariant.left c.in-Some.ensures.steps.1

pub step_of-requires : goal.step_of-requires
step_of-requires c =
    let it = zip_second c.loop-at.at-iterator in
    let slot = next_slot it _ _ _ c.loop-at.invariant.left c.in-Some.ensures.steps.1 _ c.unwrap.ensures in
    omega (arith, slot, it.few)

pub unwrap-step-requires : goal.unwrap-step-requires
unwrap-step-requires c =
    let i = viewed c.args.info.now in
    let inv = c.loop-at.invariant in
    let f = next_is (zip_second c.loop-at.at-iterator) _ _ _ inv.left c.in-Some.ensures.steps.1 _ c.unwrap.ensures in
    let w = step_first i.frame_register i.frame_offset _ _ _ _ f.1 inv.means in
    both_ok _ _ _ _ (c.step_of.ensures ∙ w.2)

pub loop-at-preserved : goal.loop-at-preserved
loop-at-preserved c =
    let i = viewed c.args.info.now in
    let inv = c.loop-at.invariant in
    let s = c.in-Some.ensures.steps in
    let f = next_is (zip_second c.loop-at.at-iterator) _ _ _ inv.left s.1 _ c.unwrap.ensures in
    let w = step_first i.frame_register i.frame_offset _ _ _ _ f.1 inv.means in
    let step = c.unwrap-step.result in
    let own : step ≡ w.0 = ok_same step w.0 (ap told (sym c.unwrap-step.ensures) ∙ c.step_of.ensures ∙ w.2) in
    let old = c.args.records.now in
    let above = (rev_source (zip_first c.loop-at.at-iterator)).end in
    let place = (rev_source (zip_first c.next.new.self)).end in
    let below : above ≤ length old = omega (arith, inv.size, c.requires.room.1) in
    let put = put_before old (inv.done ++ drop c.args.end old) place above step s.0.1.2 below in
    record {
      can = (tt, tt);
      ends = tt;
      from = s.0.0 ∙ inv.from;
      rest = f.0;
      steps = w.1;
      done = step ∷ inv.done;
      left = f.2;
      means = w.3;
      all = inv.all ∙ ap (λ l. l ++ inv.done) w.4 ∙ append_assoc w.1 (w.0 ∷ []) inv.done ∙ ap (λ x. w.1 ++ (x ∷ inv.done)) (sym own);
      size = omega (arith, inv.size, s.0.1.2);
      written = ap (λ k. set c.loop-at.records k step) s.0.1.1 ∙ ap (λ l. set l place step) inv.written ∙ put;
    }

pub returns : goal.returns
returns c =
    let i = viewed c.args.info.now in
    let inv = c.loop-at.invariant in
    let places = rev_source (zip_first c.loop-at.at-iterator) in
    let none : inv.steps ≡ [] =
    ⊎_elim (λ a. no_items inv.steps (omega (arith, a.1.1.0, inv.from, ap length inv.all, length-append inv.steps inv.done, inv.size, c.requires.room.0)))
    (λ b. sym (ok_same [] inv.steps (sym (no_steps i.frame_register i.frame_offset) ∙ ap (steps_of_codes i.frame_register i.frame_offset) (sym (good_none inv.rest (sym inv.left ∙ b.1.0))) ∙ inv.means))) c.in-None.ensures.steps in
    let all : found (steps_in i) ≡ inv.done = inv.all ∙ ap (λ l. l ++ inv.done) none in
    let at : c.args.end - length inv.done ≡ places.end = omega (arith, inv.size) in
    rw (all, at) inv.written
