use Rattle.std.proofs.Common.{◌≡◌, ◌-◌, length, take}
use Rattle.protocol.specs.Records.{numbers_of, record_of}
use Rattle.protocol.proofs.Numbers.{preceded}
use Rattle.protocol.proofs.record.record.Given as goal

abbrev pub invariant-loop-slot : goal.invariant-loop-slot
invariant-loop-slot g l = record {
  read : record_of g.row.N l.text ≡ preceded (take l.slot-index l.slot-items) (numbers_of (g.row.N - l.slot-index) l.parts.rest);
  separator : l.parts.separator ≡ 46;
  count : length l.slot-items ≡ g.row.N;
}
