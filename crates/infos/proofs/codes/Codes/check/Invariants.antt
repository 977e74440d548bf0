use Rattle.std.proofs.Common.{◌≡◌, ◌+◌, ◌≤◌, length}
use Rattle.infos.specs.Codings.{codes_left}
use Rattle.infos.specs.Sequences.{counted, gathered}
use Rattle.infos.proofs.Outcomes.{more}
use Rattle.infos.proofs.codes.Codes.check.Given as goal

abbrev pub invariant-loop-code : goal.invariant-loop-code
invariant-loop-code l =
    record {
      can : (goal.iterator-loop-code).can_next l.code-iterator;
      ends : (goal.iterator-loop-code).is_finite l.code-iterator;
      small : l.n + length (codes_left l.code-iterator) ≤ 510;
      counts : counted (gathered (codes_left l.fn.self)) ≡ more l.n (counted (gathered (codes_left l.code-iterator)));
    }
