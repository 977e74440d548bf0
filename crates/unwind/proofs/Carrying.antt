-- An epilogue carried out, action by action.
use Rattle.std.proofs.Common.{◌≡◌, ℕ, List, [], ◌∷◌, Ok, Err, refl, sym, ap}
use Rattle.layout.specs.declared.registers.Registers.{Registers}
use Rattle.memory.specs.Byte.{Byte}
use Rattle.memory.specs.Refusals.{Fault}
use Rattle.infos.specs.Codes.{bind}
use Rattle.unwind.specs.Undoing.{returned}
use Rattle.unwind.specs.Carrying.{acted, carried}
use Rattle.unwind.specs.declared.epilogue.Action.{Action}

module _ (s : ℕ → Byte) (a : Action) (rest : List Action) (regs : Registers) where
  pub went_on : (t : Registers) → Ok t ≡ acted s a regs → carried s (a ∷ rest) regs ≡ carried s rest t
  unfolding carried
  went_on t h = ap (λ r. bind r (λ u. carried s rest u)) (sym h)

  pub faulted : (d : Fault) → Err d ≡ acted s a regs → carried s (a ∷ rest) regs ≡ Err d
  unfolding carried
  faulted d h = ap (λ r. bind r (λ u. carried s rest u)) (sym h)

pub closed : (s : ℕ → Byte) (regs : Registers) → carried s [] regs ≡ returned s regs
unfolding carried
closed s regs = refl
