-- The codes that are left to an iterator.
use Rattle.std.specs.Prelude.{ℕ, ◌*◌, List, length, drop, Result}
use Rattle.infos.specs.Refusals.{InfoFault}
use Rattle.infos.specs.Sequences.{outcomes}
use Rattle.infos.specs.declared.code.Code.{Code}
use Rattle.infos.specs.declared.codes.Codes.{Codes}

-- the bytes of the slots that are left
abbrev pub slots_left : Codes → List ℕ
slots_left c = drop (2 * c.slot) c.slots.now

abbrev pub codes_left : Codes → List (Result Code InfoFault)
codes_left c = outcomes (length (slots_left c)) c.frame c.sofar c.slot (slots_left c)
