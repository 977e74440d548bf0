-- Codes undone, one after another.
use Rattle.std.proofs.Common.{◌≡◌, ℕ, ◌<◌, ◌≤◌, List, [], ◌∷◌, Ok, Err, refl, sym, ap, ◌∙◌}
use Rattle.std.proofs.lemmas.Bool.{cond-true, cond-false, le-leb, lt-leb}
use Rattle.layout.specs.declared.registers.Registers.{Registers}
use Rattle.memory.specs.Byte.{Byte}
use Rattle.infos.specs.Codes.{bind}
use Rattle.infos.specs.declared.code.Code.{Code}
use Rattle.unwind.specs.Codes.{code_undone, in_slot, codes_undone, SlotFault}
use Rattle.unwind.specs.declared.code.Saves.{Saves}

module _ (s : ℕ → Byte) (v : Saves) (limit : ℕ) (c : Code) (cs : List Code) (regs : Registers) where
  -- a code that is too far on
  pub undone_skip : limit < c.offset → codes_undone s v limit (c ∷ cs) regs ≡ codes_undone s v limit cs regs
  unfolding codes_undone
  undone_skip h = cond-false _ _ _ (lt-leb c.offset limit h)

  unfolded : c.offset ≤ limit → codes_undone s v limit (c ∷ cs) regs ≡ bind (in_slot c.slot (code_undone s v c.operation regs)) (λ t. codes_undone s v limit cs t)
  unfolding codes_undone
  unfolded h = cond-true _ _ _ (le-leb c.offset limit h)

  pub undone_ok : (t : Registers) → c.offset ≤ limit → Ok t ≡ in_slot c.slot (code_undone s v c.operation regs) → codes_undone s v limit (c ∷ cs) regs ≡ codes_undone s v limit cs t
  undone_ok t h e = unfolded h ∙ ap (λ r. bind r (λ u. codes_undone s v limit cs u)) (sym e)

  pub undone_err : (d : SlotFault) → c.offset ≤ limit → Err d ≡ in_slot c.slot (code_undone s v c.operation regs) → codes_undone s v limit (c ∷ cs) regs ≡ Err d
  undone_err d h e = unfolded h ∙ ap (λ r. bind r (λ u. codes_undone s v limit cs u)) (sym e)

pub undone_none : (s : ℕ → Byte) (v : Saves) (limit : ℕ) (regs : Registers) → codes_undone s v limit [] regs ≡ Ok regs
unfolding codes_undone
undone_none s v limit regs = refl
