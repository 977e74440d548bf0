use Rattle.std.proofs.Common.{◌≡◌, ◌+◌, ◌-◌}
use Rattle.unwind.specs.Epilogues.{actions, found}
use Rattle.unwind.specs.declared.epilogue.Part.TheVariants.{First}
use Rattle.unwind.proofs.epilogue.is_epilogue.Given as goal

-- what is left decides what the whole does
abbrev pub invariant-loop-i : goal.invariant-loop-i
invariant-loop-i g l =
    let s = g.M.Memory.shows in
    (found (actions l.frame First l.start.0 l.left (s l.initial.m)) ≡ found (actions l.frame l.part (l.start.0 + l.i) (l.left - l.i) (s l.initial.m))) × (s l.m ≡ s l.initial.m)
