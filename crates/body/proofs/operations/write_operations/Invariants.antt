use Rattle.std.proofs.Common.{◌≡◌, ◌+◌, map, length, drop}
use Rattle.layout.proofs.Cursors.{Rest}
use Rattle.plan.specs.Bodies.{bytes, work}
use Rattle.plan.specs.Operations.{operation_of}
use Rattle.body.proofs.operations.write_operations.Given as goal

abbrev pub invariant-loop-o : goal.invariant-loop-o
invariant-loop-o l =
    Rest l.initial.out (bytes (work l.starts l.rva (map operation_of l.operations))) l.out (bytes (work l.starts l.place (map operation_of (drop l.o-index l.operations))))
    × (l.place + length (bytes (work l.starts l.place (map operation_of (drop l.o-index l.operations)))) ≡ l.rva + length (bytes (work l.starts l.rva (map operation_of l.operations))))
