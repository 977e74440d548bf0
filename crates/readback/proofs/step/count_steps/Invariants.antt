use Rattle.std.proofs.Common.{◌≡◌, ◌+◌, ◌≤◌, List, map, length, Ok}
use Rattle.infos.specs.Codings.{codes_left}
use Rattle.infos.specs.Infos.{viewed}
use Rattle.infos.specs.declared.code.Code.{Code}
use Rattle.infos.proofs.Outcomes.{more}
use Rattle.readback.specs.Readings.{counted_in, steps_in, steps_of_codes}
use Rattle.readback.proofs.step.count_steps.Given as goal

-- the codes that are left, and what their steps count
abbrev pub invariant-loop-code : goal.invariant-loop-code
invariant-loop-code l =
    let i = viewed l.info in
    record {
      can : (goal.iterator-loop-code).can_next l.code-iterator;
      ends : (goal.iterator-loop-code).is_finite l.code-iterator;
      rest : List Code;
      left : codes_left l.code-iterator ≡ map Ok rest;
      few : l.n + length rest ≤ 255;
      counts : counted_in (steps_in i) ≡ more l.n (counted_in (steps_of_codes i.frame_register i.frame_offset rest));
    }
