use Rattle.std.proofs.Common.{ap, sym, ◌∙◌}
use Rattle.layout.specs.Cursors.{wrote}
use Rattle.layout.proofs.Cursors.{wrote-none}
use Rattle.plan.specs.Bodies.{bytes}
use Rattle.body.proofs.Bytes.{none, room_next, wrote_next, all_yielded}
use Rattle.body.proofs.part.write_part.Goals as goal

pub loop-i-init : goal.loop-i-init
loop-i-init g c =
    let e = c.into_iter-i-iterator.ensures.into_iter_gives in
    (rw e c.requires.can, rw e c.requires.ends, sym (ap (wrote c.args.out.now) none ∙ wrote-none c.args.out.now))

pub emit-requires : goal.emit-requires
emit-requires g c =
    let e = c.into_iter-i-iterator.ensures.into_iter_gives in
    let room = c.requires.room in
    room_next g.I.Iterator.next_gives _ room.0 (rw e room.1) c.loop-i.yielded _ c.loop-i.yielded_by _ _ c.in-Some.i c.in-Some.is c.next.ensures.steps c.args.out.now room.2 _ c.loop-i.invariant.2

pub loop-i-preserved : goal.loop-i-preserved
loop-i-preserved g c =
    let e = c.into_iter-i-iterator.ensures.into_iter_gives in
    let room = c.requires.room in
    let goes = c.in-Some.ensures.goes.on c.loop-i.invariant.1 in
    (goes.0, goes.1, wrote_next g.I.Iterator.next_gives _ room.0 (rw e room.1) c.loop-i.yielded _ c.loop-i.yielded_by _ _ c.in-Some.i c.in-Some.is c.next.ensures.steps c.args.out.now room.2 _ c.loop-i.invariant.2 _ c.emit.ensures)

pub returns : goal.returns
returns g c = λ is y.
    let e = c.into_iter-i-iterator.ensures.into_iter_gives in
    c.loop-i.invariant.2 ∙ ap (λ l. wrote c.args.out.now (bytes l)) (all_yielded g.I.Iterator.next_gives _ is (rw e y) c.loop-i.yielded _ c.loop-i.yielded_by _ _ c.in-None.is c.next.ensures.steps)
