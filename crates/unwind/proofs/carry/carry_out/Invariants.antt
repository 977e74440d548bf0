use Rattle.std.proofs.Common.{◌≡◌, ◌+◌, ◌-◌, true, Ok}
use Rattle.unwind.specs.Carrying.{carried}
use Rattle.unwind.specs.Epilogues.{actions, found, listed}
use Rattle.unwind.specs.declared.epilogue.Part.TheVariants.{First}
use Rattle.unwind.proofs.carry.carry_out.Given as goal

-- what is left is found too, and carried out from here leads where the whole leads
abbrev pub invariant-loop-i : goal.invariant-loop-i
invariant-loop-i g l =
    let s = g.M.Memory.shows in
    let left = actions l.frame l.part (l.start.0 + l.i) (l.left - l.i) (s l.initial.m) in
    (found left ≡ Ok true)
    × (carried (s l.initial.m) (listed (actions l.frame First l.start.0 l.left (s l.initial.m))) l.initial.registers ≡ carried (s l.initial.m) (listed left) l.registers)
    × (s l.m ≡ s l.initial.m)
