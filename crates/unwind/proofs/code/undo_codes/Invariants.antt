use Rattle.std.proofs.Common.{◌≡◌, List, map, Ok}
use Rattle.infos.specs.Codings.{codes_left}
use Rattle.infos.specs.Listings.{listed}
use Rattle.infos.specs.Sequences.{gathered}
use Rattle.infos.specs.declared.code.Code.{Code}
use Rattle.unwind.specs.Codes.{codes_undone}
use Rattle.unwind.proofs.code.undo_codes.Given as goal

-- the codes that are left, undone from here, lead where all lead
abbrev pub invariant-loop-code : goal.invariant-loop-code
invariant-loop-code g l =
    let s = g.M.Memory.shows in
    record {
      can : (goal.iterator-loop-code g).can_next l.code-iterator;
      ends : (goal.iterator-loop-code g).is_finite l.code-iterator;
      rest : List Code;
      left : codes_left l.code-iterator ≡ map Ok rest;
      goes : codes_undone (s l.initial.m) l.saves l.limit (listed (gathered (codes_left l.fn.codes))) l.initial.registers ≡ codes_undone (s l.initial.m) l.saves l.limit rest l.registers;
      same : s l.m ≡ s l.initial.m;
    }
