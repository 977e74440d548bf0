use Rattle.std.proofs.Common.{◌≡◌, ◌*◌, ◌/◌, ◌<◌, ◌∷◌, drop, Err, sym, ap, ◌∙◌, arith, length}
use Rattle.infos.specs.Codings.{slots_left, codes_left}
use Rattle.infos.specs.Refusals.{InfoFault}
use Rattle.infos.specs.Sequences.{taken, outcomes}
use Rattle.infos.specs.declared.codes.Codes.{Codes}
use Rattle.infos.proofs.Outcomes.{ended, next_code, next_refused, none_left}
use Rattle.infos.proofs.codes.CodesIterator.next.Goals as goal

pub returns-then-self-end-clause-steps : goal.returns-then-self-end-clause-steps
returns-then-self-end-clause-steps c = let e = ended c.args.self.now c.if-self-end.true in (e, e)

pub returns-in-Ok-clause-steps : goal.returns-in-Ok-clause-steps
returns-in-Ok-clause-steps c = next_code c.args.self.now c.if-self-end.false _ (sym c.in-Ok.ensures.value)

pub returns-in-Ok-clause-goes : goal.returns-in-Ok-clause-goes
returns-in-Ok-clause-goes c =
    let next = ap length (next_code c.args.self.now c.if-self-end.false _ (sym c.in-Ok.ensures.value)) in
    record {
      on = λ _. (tt, tt, omega (arith, next));
      keeps = tt;
      rests = λ _. tt;
    }

-- after a refusal the end of the slots is left
refused : (c : Codes) → c.slot < length c.slots.now / 2 → (d : InfoFault) → taken c.frame c.sofar c.slot (slots_left c) ≡ Err d →
    codes_left c ≡ Err d ∷ outcomes (length (drop (2 * (length c.slots.now / 2)) c.slots.now)) c.frame c.sofar (length c.slots.now / 2) (drop (2 * (length c.slots.now / 2)) c.slots.now)
refused c h d e = next_refused c h d e ∙ ap (λ l. Err d ∷ l) (sym (none_left c.frame c.sofar (length c.slots.now / 2) c.slots.now (omega arith)))

pub returns-in-Err-clause-steps : goal.returns-in-Err-clause-steps
returns-in-Err-clause-steps c = refused c.args.self.now c.if-self-end.false _ (sym c.in-Err.ensures.value)

pub returns-in-Err-clause-goes : goal.returns-in-Err-clause-goes
returns-in-Err-clause-goes c =
    let next = ap length (refused c.args.self.now c.if-self-end.false _ (sym c.in-Err.ensures.value)) in
    record {
      on = λ _. (tt, tt, omega (arith, next));
      keeps = tt;
      rests = λ _. tt;
    }
