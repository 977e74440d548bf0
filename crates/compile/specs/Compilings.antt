-- What compiling answers.
use Rattle.std.specs.Prelude.{ℕ, List, length, Ok, Err, Result, nat_le}
use Rattle.plan.specs.Functions.{Text, Function, functions_of}
use Rattle.plan.specs.Layouts.{code, infos, table}
use Rattle.plan.specs.Refusals.{PlanFault}
use Rattle.plan.specs.Verdicts.{Verdict, next, owed, plan_verdict}
use Rattle.compile.specs.declared.lengths.Lengths.{Lengths}

abbrev pub lengths : List Function → Lengths
lengths fs = record { code = length (code fs); infos = length (infos fs); table = length (table fs) }

-- 18 for the first buffer that is too short
abbrev pub room_verdict : Lengths → ℕ → ℕ → ℕ → Verdict
room_verdict n code_room info_room table_room =
    next (owed (nat_le n.code code_room) 18 0)
    (next (owed (nat_le n.infos info_room) 18 1)
    (owed (nat_le n.table table_room) 18 2))

abbrev pub answered : Verdict → Lengths → Result Lengths PlanFault
answered (Ok x) n = Ok n
answered (Err e) n = Err e

-- the lengths written into buffers of these lengths, or the first refusal
abbrev pub compiling : Text → ℕ → ℕ → ℕ → Result Lengths PlanFault
compiling t code_room info_room table_room =
    let n = lengths (functions_of t) in
    answered (next (plan_verdict t) (room_verdict n code_room info_room table_room)) n
