-- One frame undone by the codes of its info.
use Rattle.std.specs.Prelude.{ℕ, Result}
use Rattle.layout.specs.declared.registers.Registers.{Registers}
use Rattle.memory.specs.Byte.{Byte}
use Rattle.tables.specs.declared.area.InfoArea.{InfoArea}
use Rattle.infos.specs.Codes.{bind}
use Rattle.infos.specs.Infos.{InfoOf}
use Rattle.unwind.specs.Bases.{base}
use Rattle.unwind.specs.Chains.{FaultOf, after_links, at_code, codes_in, saves_of, chain_undone}
use Rattle.unwind.specs.Codes.{codes_undone}

-- the base first, then the codes up to an offset in the function, then the chain
abbrev pub undone_by : (ℕ → Byte) → InfoArea → InfoOf → ℕ → Registers → Result Registers FaultOf
undone_by s area i o regs =
    bind (after_links 0 (base i (codes_in i) o regs))
    (λ b. bind (at_code 0 (codes_undone s (saves_of i b) o (codes_in i) regs))
    (λ u. chain_undone s area b 32 0 i.tail u))
