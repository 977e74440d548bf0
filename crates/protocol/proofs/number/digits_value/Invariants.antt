use Rattle.std.proofs.Common.{◌≡◌, drop}
use Rattle.std.specs.List.{list_all}
use Rattle.protocol.specs.Reading.{is_digit}
use Rattle.protocol.proofs.Values.{Reads}
use Rattle.protocol.proofs.number.digits_value.Given as goal

abbrev pub invariant-loop-b : goal.invariant-loop-b
invariant-loop-b l =
    record {
      passed : list_all (is_digit l.radix) l.text ≡ list_all (is_digit l.radix) (drop l.b-index l.text);
      reads : Reads l.radix l.text l.b-index l.n;
    }
