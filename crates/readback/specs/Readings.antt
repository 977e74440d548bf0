-- What the unwind infos of a module say of its functions' prologues.
use Rattle.std.specs.Prelude.{ℕ, cond, ◌&&◌, List, [], ◌∷◌, ◌++◌, map, length, drop, Some, None, Ok, Err, Result, ◌==◌, nat_le}
use Rattle.infos.specs.Codes.{bind}
use Rattle.infos.specs.Infos.{InfoOf, info_at}
use Rattle.infos.specs.Refusals.{InfoFault, fault_at, outside}
use Rattle.infos.specs.Sequences.{codes_of}
use Rattle.infos.specs.declared.code.Code.{Code}
use Rattle.infos.specs.declared.code.Operation.{Operation}
use Rattle.infos.specs.declared.code.Operation.TheVariants.{Push, Allocate, SetFrame, Save, SaveXmm}
use Rattle.plan.specs.Steps.{step}
use Rattle.plan.specs.declared.text.Counts.{Counts}
use Rattle.plan.specs.declared.text.StepRecord.{StepRecord}
use Rattle.tables.specs.Modules.{module_verdict}
use Rattle.tables.specs.declared.area.InfoArea.{InfoArea}
use Rattle.tables.specs.declared.entry.Entry.{Entry}
use Rattle.tables.specs.declared.module.Module.{Module}
use Rattle.readback.specs.declared.read.Lengths.{Lengths}
use Rattle.readback.specs.declared.refusal.ReadRefusal.{ReadRefusal}

-- the step that an operation at a slot is, in an info with this frame register and offset; 43 for a save of an XMM register
abbrev pub step_by : ℕ → ℕ → ℕ → Operation → Result StepRecord InfoFault
step_by frame_register frame_offset slot (Push r) = Ok (step 0 r 0)
step_by frame_register frame_offset slot (Allocate n) = Ok (step 1 0 n)
step_by frame_register frame_offset slot SetFrame = Ok (step 2 frame_register frame_offset)
step_by frame_register frame_offset slot (Save r o) = Ok (step 3 r o)
step_by frame_register frame_offset slot (SaveXmm r o) = Err (fault_at (Some slot) 43)

abbrev pub step_of_code : ℕ → ℕ → Code → Result StepRecord InfoFault
step_of_code frame_register frame_offset c = step_by frame_register frame_offset c.slot c.operation

-- the steps of codes, the last code's first; the first code that is no step refuses
unfoldable pub steps_of_codes : ℕ → ℕ → List Code → Result (List StepRecord) InfoFault
steps_of_codes frame_register frame_offset [] = Ok []
steps_of_codes frame_register frame_offset (c ∷ cs) =
    bind (step_of_code frame_register frame_offset c) (λ s. bind (steps_of_codes frame_register frame_offset cs) (λ ss. Ok (ss ++ s ∷ [])))

abbrev pub codes_in : InfoOf → Result (List Code) InfoFault
codes_in i = codes_of i.prologue i.frame_register i.slots

-- an info's steps in prologue order
abbrev pub steps_in : InfoOf → Result (List StepRecord) InfoFault
steps_in i = bind (codes_in i) (steps_of_codes i.frame_register i.frame_offset)

-- an entry's steps: 40 to 45 where its info is none, 42 where it has flags
abbrev pub function_steps : List ℕ → ℕ → Entry → Result (List StepRecord) InfoFault
function_steps area start e = bind (info_at area start e.info.0) (λ i. cond (i.flags == 0) (steps_in i) (Err (fault_at None 42)))

-- the steps of each entry's function; the first refusal is the answer
unfoldable pub read_steps : List ℕ → ℕ → List Entry → Result (List (List StepRecord)) InfoFault
read_steps area start [] = Ok []
read_steps area start (e ∷ es) = bind (function_steps area start e) (λ ss. bind (read_steps area start es) (λ rest. Ok (ss ∷ rest)))

-- these two, of an area as a struct
abbrev pub function_steps_in : InfoArea → Entry → Result (List StepRecord) InfoFault
function_steps_in area e = function_steps area.bytes.now area.start.0 e

abbrev pub read_steps_in : InfoArea → List Entry → Result (List (List StepRecord)) InfoFault
read_steps_in area es = read_steps area.bytes.now area.start.0 es

-- the steps of functions, one function after another
unfoldable pub joint : List (List StepRecord) → List StepRecord
joint [] = []
joint (ss ∷ rest) = ss ++ joint rest

-- what was found, nothing where it is refused
abbrev pub found : {X : Type 0} → Result (List X) InfoFault → List X
found (Ok xs) = xs
found (Err e) = []

abbrev pub counted_in : {X : Type 0} → Result (List X) InfoFault → Result ℕ InfoFault
counted_in r = bind r (λ xs. Ok (length xs))

abbrev pub joint_count : Result (List (List StepRecord)) InfoFault → Result ℕ InfoFault
joint_count r = bind r (λ rest. Ok (length (joint rest)))

-- a function's counts; its operations are not known
abbrev pub counts_of : List StepRecord → Counts
counts_of ss = record { steps = length ss; operations = 0 }

-- a module with its entries and its area as lists
pub record ModuleOf : Type 0 where
  pub base : ℕ
  pub size : ℕ
  pub entries : List Entry
  pub area : List ℕ
  pub start : ℕ

abbrev pub module_view : Module → ModuleOf
module_view m = record { base = m.extent.base.0; size = m.extent.size; entries = m.entries.now; area = m.area.bytes.now; start = m.area.start.0 }

-- each function's steps: 35 and 36 for the module first
abbrev pub module_steps : ModuleOf → Result (List (List StepRecord)) InfoFault
module_steps m = bind (outside (module_verdict m.base m.size m.entries)) (λ _. read_steps m.area m.start m.entries)

-- how many functions and steps are read; last 22 where the records are too few
abbrev pub reading : ModuleOf → ℕ → ℕ → Result Lengths InfoFault
reading m functions steps =
    bind (module_steps m) (λ rest.
    cond (nat_le (length rest) functions && nat_le (length (joint rest)) steps)
    (Ok (record { functions = length rest; steps = length (joint rest) }))
    (Err (fault_at None 22)))

-- the records of functions and of steps after that
abbrev pub functions_after : ModuleOf → List Counts → Result Lengths ReadRefusal → List Counts
functions_after m records (Ok n) = map counts_of (found (module_steps m)) ++ drop n.functions records
functions_after m records (Err _) = records

abbrev pub steps_after : ModuleOf → List StepRecord → Result Lengths ReadRefusal → List StepRecord
steps_after m records (Ok n) = joint (found (module_steps m)) ++ drop n.steps records
steps_after m records (Err _) = records
