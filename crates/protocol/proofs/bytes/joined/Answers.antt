use Rattle.std.proofs.Common.{◌/◌, map, length, rules, arith, sym, ap, ◌∙◌}
use Rattle.std.proofs.lemmas.List.{take_all}
use Rattle.protocol.proofs.Pairs.{pair_byte, paired_chunks, chunk_hex}
use Rattle.protocol.proofs.bytes.joined.Goals as goal

pub unwrap-requires : goal.unwrap-requires
unwrap-requires c =
    let hex = chunk_hex (length c.args.text.now / 2) c.loop-high.high-index c.args.text.now (omega arith) (omega arith) c.requires in
    let chunks = c.as_chunks.ensures.front in
    search rules

pub unwrap-requires-in-loop-high : goal.unwrap-requires-in-loop-high
unwrap-requires-in-loop-high c =
    let hex = chunk_hex (length c.args.text.now / 2) c.loop-high.high-index c.args.text.now (omega arith) (omega arith) c.requires in
    let chunks = c.as_chunks.ensures.front in
    search rules

pub returns : goal.returns
returns c =
    let is = paired_chunks (length c.args.text.now / 2) c.args.text.now (omega arith) (omega arith) in
    c.loop-high.invariant ∙ ap (map pair_byte) (take_all c.loop-high.high-index c.as_chunks.result.0.now (omega arith) ∙ c.as_chunks.ensures.front) ∙ sym is
