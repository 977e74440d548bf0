use Rattle.std.proofs.Common.{◌≡◌, ◌-◌}
use Rattle.infos.specs.Infos.{tail_view}
use Rattle.unwind.specs.Chains.{chain_undone}
use Rattle.unwind.proofs.chain.undo_chain.Given as goal

-- what is left of the chain leads from here where the whole leads
abbrev pub invariant-loop-links : goal.invariant-loop-links
invariant-loop-links g l =
    let s = g.M.Memory.shows in
    (chain_undone (s l.initial.m) l.area l.base 32 0 (tail_view l.initial.tail) l.initial.registers ≡ chain_undone (s l.initial.m) l.area l.base (32 - l.links) l.links (tail_view l.tail) l.registers)
    × (s l.m ≡ s l.initial.m)
