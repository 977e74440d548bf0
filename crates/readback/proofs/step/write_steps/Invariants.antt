use Rattle.std.proofs.Common.{◌≡◌, ◌+◌, List, ◌++◌, map, length, take, drop, Ok}
use Rattle.std.specs.Iterator.Adapters.{zip_first, zip_second, rev_source}
use Rattle.infos.specs.Codings.{codes_left}
use Rattle.infos.specs.Infos.{viewed}
use Rattle.infos.specs.declared.code.Code.{Code}
use Rattle.plan.specs.declared.text.StepRecord.{StepRecord}
use Rattle.readback.specs.Readings.{steps_in, found, steps_of_codes}
use Rattle.readback.proofs.step.write_steps.Given as goal

-- the steps of the codes that are left come before those written
abbrev pub invariant-loop-at : goal.invariant-loop-at
invariant-loop-at l =
    let i = viewed l.info in
    let places = rev_source (zip_first l.at-iterator) in
    record {
      can : (goal.iterator-loop-at).can_next l.at-iterator;
      ends : (goal.iterator-loop-at).is_finite l.at-iterator;
      from : places.start ≡ 0;
      rest : List Code;
      steps : List StepRecord;
      done : List StepRecord;
      left : codes_left (zip_second l.at-iterator) ≡ map Ok rest;
      means : steps_of_codes i.frame_register i.frame_offset rest ≡ Ok steps;
      all : found (steps_in i) ≡ steps ++ done;
      size : places.end + length done ≡ l.end;
      written : l.records ≡ take places.end l.initial.records ++ (done ++ drop l.end l.initial.records);
    }
