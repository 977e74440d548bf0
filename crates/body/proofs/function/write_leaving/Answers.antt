use Rattle.std.proofs.Common.{length, sym, ap, ◌∙◌, arith}
use Rattle.layout.specs.Cursors.{wrote}
use Rattle.layout.proofs.Cursors.{wrote-none}
use Rattle.plan.specs.Bodies.{bytes}
use Rattle.body.proofs.Bytes.{one, none}
use Rattle.body.proofs.function.write_leaving.Goals as goal

pub emit-requires : goal.emit-requires
emit-requires c = omega (arith, c.requires, ap length (sym (one _) ∙ ap bytes c.in-Some.ensures))

pub returns-in-Some : goal.returns-in-Some
returns-in-Some c = c.emit.ensures ∙ ap (wrote c.args.out.now) (sym (one _) ∙ ap bytes c.in-Some.ensures)

pub returns-in_default : goal.returns-in_default
returns-in_default c = sym (ap (wrote c.args.out.now) (sym (sym none ∙ ap bytes c.in_default.ensures)) ∙ wrote-none c.args.out.now)
