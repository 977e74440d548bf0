use Rattle.std.proofs.Common.{◌-◌, length, set}
use Rattle.std.proofs.lemmas.List.{take_rest}
use Rattle.limit.proofs.Admits.{turned}
use Rattle.limit.proofs.window.insert.Goals as goal

pub returns : goal.returns
returns c =
    let ws = c.args.slots.now in
    turned ws c.args.at c.args.window _ _ c.requires (take_rest (set ws (length ws - 1) c.args.window) c.args.at) c.rotate_right.ensures.after
