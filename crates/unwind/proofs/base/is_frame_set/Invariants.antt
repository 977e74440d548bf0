use Rattle.std.proofs.Common.{◌≡◌, List, map, Ok}
use Rattle.infos.specs.Codings.{codes_left}
use Rattle.infos.specs.Listings.{listed}
use Rattle.infos.specs.Sequences.{gathered}
use Rattle.infos.specs.declared.code.Code.{Code}
use Rattle.unwind.specs.Bases.{frame_is_set}
use Rattle.unwind.proofs.base.is_frame_set.Given as goal

-- none of the codes before sets it
abbrev pub invariant-loop-code : goal.invariant-loop-code
invariant-loop-code l =
    record {
      can : (goal.iterator-loop-code).can_next l.code-iterator;
      ends : (goal.iterator-loop-code).is_finite l.code-iterator;
      rest : List Code;
      left : codes_left l.code-iterator ≡ map Ok rest;
      same : frame_is_set l.limit (listed (gathered (codes_left l.fn.codes))) ≡ frame_is_set l.limit rest;
    }
