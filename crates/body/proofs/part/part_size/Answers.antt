use Rattle.std.proofs.Common.{sym, ◌∙◌, arith, rules}
use Rattle.std.proofs.lemmas.Iterator.{YieldsList-from_map}
use Rattle.std.proofs.lemmas.Iterator.Consumers.{YieldsList-at, sum_by_from_yields_List, fits_by_from_yields_list}
use Rattle.plan.proofs.Sizes.{bytes-short}
use Rattle.body.proofs.Bytes.{instruction_size, bytes_sized}
use Rattle.body.proofs.part.part_size.Goals as goal

pub sum-requires-clause-fits : goal.sum-requires-clause-fits
sum-requires-clause-fits g c =
    let few = c.requires.few in
    fits_by_from_yields_list instruction_size few.0 c.map.result _ (YieldsList-from_map {steps = g.I.Iterator.next_gives} {v = λ i. i} _ instruction_size (YieldsList-at c.map.ensures.source (record { runs = few.1 })) c.map.ensures.closure (λ x r q k. search rules))
    (omega (arith, bytes_sized few.0, bytes-short few.0, few.2))

pub returns-clause-size : goal.returns-clause-size
returns-clause-size g c = λ is y.
    sum_by_from_yields_List instruction_size is c.map.result _ c.sum.ensures.ran (YieldsList-from_map {steps = g.I.Iterator.next_gives} {v = λ i. i} _ instruction_size (YieldsList-at c.map.ensures.source (record { runs = y })) c.map.ensures.closure (λ x r q k. search rules))
    ∙ sym (bytes_sized is)

pub returns-clause-bound : goal.returns-clause-bound
returns-clause-bound g c =
    let few = c.requires.few in
    let e = sum_by_from_yields_List instruction_size few.0 c.map.result _ c.sum.ensures.ran (YieldsList-from_map {steps = g.I.Iterator.next_gives} {v = λ i. i} _ instruction_size (YieldsList-at c.map.ensures.source (record { runs = few.1 })) c.map.ensures.closure (λ x r q k. search rules)) in
    omega (arith, e, bytes_sized few.0, bytes-short few.0, few.2)
