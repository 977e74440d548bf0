-- The operations of a body.
use Rattle.std.specs.Prelude.{ℕ, cond, ℤ, ◌==◌}
use Rattle.std.specs.Int.{w32}
use Rattle.std.proofs.Common.{of_z}
use Rattle.plan.specs.declared.operation.Operation.{Operation}
use Rattle.plan.specs.declared.operation.Operation.TheVariants.{Nop, Set, Reserve, Call}
use Rattle.plan.specs.declared.text.OperationRecord.{OperationRecord}

-- 32 signed bits as a number below 2 ^ 32
abbrev pub pattern : ℤ → ℕ
pattern z = of_z w32 z

-- what a record means
abbrev pub operation_of : OperationRecord → Operation
operation_of r =
    cond (r.kind == 0) Nop
    (cond (r.kind == 1) (Set r.first (pattern r.number))
    (cond (r.kind == 2) (Reserve (pattern r.number))
    (Call r.first)))
