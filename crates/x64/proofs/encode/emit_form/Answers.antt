use Rattle.std.proofs.Common.{◌≡◌, take, ap, ◌∙◌, rules}
use Rattle.layout.specs.Cursors.{wrote}
use Rattle.layout.proofs.Cursors.{wrote-append, room-first}
use Rattle.x64.specs.Encodings.{spelled}
use Rattle.x64.proofs.encode.emit_form.Goals as goal

-- a piece after a piece is their sum
pub returns : goal.returns
returns c =
    let out = c.args.out.now in
    let head = c.args.head.now in
    let tail = spelled c.args.wide c.args.d in
    let cut : take c.if-wide.size c.to_le_bytes.result ≡ tail = search rules in
    c.put-2.ensures ∙ ap (wrote c.put.new.self) cut ∙ ap (λ k. wrote k tail) c.put.ensures ∙ wrote-append out head tail (room-first out head tail c.requires)
