-- The steps of a compiled module come back.
use Rattle.std.specs.Prelude.{◌≡◌, ◌+◌, ◌^◌, ◌≤◌, List, ◌++◌, map, length, take, drop, Ok, Result}
use Rattle.plan.specs.Functions.{Text, functions_of}
use Rattle.plan.specs.Layouts.{table, infos, info_start, module_size}
use Rattle.plan.specs.Verdicts.{plan_verdict}
use Rattle.plan.specs.declared.text.Counts.{Counts}
use Rattle.plan.specs.declared.text.StepRecord.{StepRecord}
use Rattle.tables.specs.Entries.{entries_of}
use Rattle.readback.specs.Readings.{ModuleOf}
use Rattle.readback.specs.declared.read.Lengths.{Lengths}
use Rattle.readback.specs.declared.refusal.ReadRefusal.{ReadRefusal}

-- the module has the table and the infos of an accepted description, and fits at its base
pub record Compiled (t : Text) (m : ModuleOf) : Type 0 where
  pub accepted : plan_verdict t ≡ Ok tt
  pub entries : m.entries ≡ entries_of (table (functions_of t)) (length (functions_of t))
  pub area : m.area ≡ infos (functions_of t)
  pub start : m.start ≡ info_start (functions_of t)
  pub size : m.size ≡ module_size (functions_of t)
  pub fits : m.base + m.size ≤ 2 ^ 64

-- the counts of steps alone
abbrev pub without_operations : Counts → Counts
without_operations c = record { steps = c.steps; operations = 0 }

-- a description with other steps
abbrev pub with_steps : Text → List StepRecord → Text
with_steps t ss = record { counts = t.counts; steps = ss; operations = t.operations }

-- the records hold the description's counts and steps, which compile to the same table with the same operations
pub record Back (t : Text) (functions : List Counts) (steps : List StepRecord) (r : Result Lengths ReadRefusal) (functions_then : List Counts) (steps_then : List StepRecord) : Type 0 where
  pub answer : r ≡ Ok (record { functions = length t.counts; steps = length t.steps })
  pub counts : functions_then ≡ map without_operations t.counts ++ drop (length t.counts) functions
  pub steps_back : steps_then ≡ t.steps ++ drop (length t.steps) steps
  pub same_table : table (functions_of (with_steps t (take (length t.steps) steps_then))) ≡ table (functions_of t)

-- what is read of a compiled module is what it was compiled from, where the records suffice
abbrev pub CompiledBack : ModuleOf → List Counts → List StepRecord → Result Lengths ReadRefusal → List Counts → List StepRecord → Type 0
CompiledBack m functions steps r functions_then steps_then =
    (t : Text) → Compiled t m → length t.counts ≤ length functions → length t.steps ≤ length steps → Back t functions steps r functions_then steps_then
