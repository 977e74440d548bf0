use Rattle.std.proofs.Common.{refl, ◌∙◌, sym}
use Rattle.tables.proofs.Entries.{good_next, good_stop, good_end}
use Rattle.tables.proofs.entry.are_good.Goals as goal

pub loop-entry-init : goal.loop-entry-init
loop-entry-init g c =
    let e = c.into_iter-entry-iterator.ensures.into_iter_gives in
    (rw e c.requires.can, rw e c.requires.ends, λ all a. (all, rw e a, refl))

pub loop-entry-preserved : goal.loop-entry-preserved
loop-entry-preserved g c =
    let more = good_next g.I.Iterator.next_gives _ _ _ c.args.size _ c.loop-entry.invariant.2 c.in-Some.entry c.in-Some.ensures.steps (sym c.if-not-is_good.ensures) in
    let goes = c.in-Some.ensures.goes.on c.loop-entry.invariant.1 in
    (goes.0, goes.1, more)

pub returns : goal.returns
returns g c = good_end g.I.Iterator.next_gives _ _ _ c.args.size _ c.loop-entry.invariant.2 c.in-None.ensures.steps

pub returns-then-not-is_good : goal.returns-then-not-is_good
returns-then-not-is_good g c = good_stop g.I.Iterator.next_gives _ _ _ c.args.size _ c.loop-entry.invariant.2 c.in-Some.entry c.in-Some.ensures.steps (sym c.is_good.ensures ∙ c.if-not-is_good.true)
