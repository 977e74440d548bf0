-- An epilogue carried out.
use Rattle.std.specs.Prelude.{ℕ, List, [], ◌∷◌, Result}
use Rattle.layout.specs.declared.registers.Registers.{Registers}
use Rattle.memory.specs.Byte.{Byte}
use Rattle.memory.specs.Refusals.{Fault}
use Rattle.infos.specs.Codes.{bind}
use Rattle.unwind.specs.Undoing.{moved, popped, returned}
use Rattle.unwind.specs.declared.epilogue.Action.{Action}
use Rattle.unwind.specs.declared.epilogue.Action.TheVariants.{Move, Pop}

abbrev pub acted : (ℕ → Byte) → Action → Registers → Result Registers Fault
acted shows (Move r d) regs = moved r d regs
acted shows (Pop r) regs = popped shows r regs

-- the opening and the pops in order, and a return pop for the close
unfoldable pub carried : (ℕ → Byte) → List Action → Registers → Result Registers Fault
carried shows [] regs = returned shows regs
carried shows (a ∷ rest) regs = bind (acted shows a regs) (λ s. carried shows rest s)
