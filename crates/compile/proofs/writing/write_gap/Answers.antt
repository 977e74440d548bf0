use Rattle.std.proofs.Common.{ap, ◌∙◌}
use Rattle.std.proofs.lemmas.List.{take-replicate}
use Rattle.layout.specs.Cursors.{wrote}
use Rattle.compile.proofs.writing.write_gap.Goals as goal

pub returns : goal.returns
returns c = c.put.ensures ∙ ap (wrote c.args.out.now) (take-replicate c.args.size 16 204 c.requires.0)
