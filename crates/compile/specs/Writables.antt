-- What is asked for before a module is written.
use Rattle.std.specs.Prelude.{◌≡◌, ℕ, ◌≤◌, List, length, Ok}
use Rattle.plan.specs.Functions.{Text, functions_of}
use Rattle.plan.specs.Layouts.{starts, code, infos, table, info_start}
use Rattle.plan.specs.Verdicts.{plan_verdict}

-- an accepted plan, with where its functions and infos start, and buffers with room
pub record Writable (p : Text) (to : List ℕ) (rva : ℕ) (c i t : List ℕ) : Type 0 where
  pub accepted : plan_verdict p ≡ Ok tt
  pub started : to ≡ starts (functions_of p)
  pub placed : rva ≡ info_start (functions_of p)
  pub bounded : rva ≤ 300000
  pub code_room : length (code (functions_of p)) ≤ length c
  pub infos_room : length (infos (functions_of p)) ≤ length i
  pub table_room : length (table (functions_of p)) ≤ length t
