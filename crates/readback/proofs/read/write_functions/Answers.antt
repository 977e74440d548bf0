use Rattle.std.proofs.Common.{◌≡◌, ◌^◌, ◌<◌, length, arith, rules}
use Rattle.tables.specs.declared.entry.Entry.{Entry}
use Rattle.readback.proofs.Filling.{written_none, own_good, own_fits, written_more, written_all}
use Rattle.readback.proofs.read.write_functions.Goals as goal

pub loop-k-init : goal.loop-k-init
loop-k-init c = (omega arith, written_none _ _ _ _ _ c.requires.0)

pub write_function-n-requires : goal.write_function-n-requires
write_function-n-requires c =
    let size : length c.loop-k.steps ≡ length c.args.steps.now = search rules in
    let t = c.loop-k-test.true in
    let zero : Entry = record { begin = record { 0 = 0 }; end = record { 0 = 0 }; info = record { 0 = 0 } } in
    let fits = own_fits _ _ _ _ _ _ _ _ _ c.loop-k.invariant.1 t zero in
    (own_good _ _ _ _ _ _ _ _ _ c.loop-k.invariant.1 t zero, omega (arith, fits, size, c.requires.1.1))

pub overflow_add-at : goal.overflow_add-at
overflow_add-at c =
    let long : length c.args.steps.now < 2 ^ 64 = search rules in
    let zero : Entry = record { begin = record { 0 = 0 }; end = record { 0 = 0 }; info = record { 0 = 0 } } in
    let fits = own_fits _ _ _ _ _ _ _ _ _ c.loop-k.invariant.1 c.loop-k-test.true zero in
    record { fits = omega (arith, fits, long, c.requires.1.1, c.write_function-n.ensures.count) }

pub loop-k-preserved : goal.loop-k-preserved
loop-k-preserved c =
    let t = c.loop-k-test.true in
    let room : c.loop-k.k < length c.args.functions.now = omega (arith, t, c.requires.1.0) in
    (omega (arith, t), written_more _ _ _ _ _ _ _ _ _ c.loop-k.invariant.1 t _ _ _ room c.write_function-n.ensures.count c.write_function-n.ensures.after)

pub returns : goal.returns
returns c =
    let all = written_all _ _ _ _ _ _ _ _ _ c.loop-k.invariant.1 c.loop-k-test.false c.loop-k.invariant.0 in
    record { functions = all.0; steps = all.1 }
