use Rattle.std.proofs.Common.{◌≡◌, map, drop, Ok}
use Rattle.tables.proofs.Fill.{Filled}
use Rattle.infos.specs.Codings.{codes_left}
use Rattle.infos.specs.Listings.{listed}
use Rattle.infos.specs.Sequences.{gathered}
use Rattle.infos.proofs.listing.write_codes.Given as goal

abbrev pub invariant-loop-code : goal.invariant-loop-code
invariant-loop-code l =
    let all = listed (gathered (codes_left l.fn.codes)) in
    record {
      can : (goal.iterator-loop-code).can_next l.code-iterator;
      ends : (goal.iterator-loop-code).is_finite l.code-iterator;
      left : codes_left l.code-iterator ≡ map Ok (drop l.list.len all);
      filled : Filled all l.initial.list.records.now l.list.records.now l.list.len;
      lender : l.list.records.ghost_name ≡ l.initial.list.records.ghost_name;
    }
