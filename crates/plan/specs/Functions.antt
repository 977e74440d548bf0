-- The functions that a plan describes.
use Rattle.std.specs.Prelude.{List, [], ◌∷◌, take, drop}
use Rattle.plan.specs.declared.text.Counts.{Counts}
use Rattle.plan.specs.declared.text.Function.{Function as FunctionParts}
use Rattle.plan.specs.declared.text.Functions.{Functions}
use Rattle.plan.specs.declared.text.OperationRecord.{OperationRecord}
use Rattle.plan.specs.declared.text.Plan.{Plan}
use Rattle.plan.specs.declared.text.StepRecord.{StepRecord}

-- the three lists of a plan
pub record Text : Type 0 where
  pub counts : List Counts
  pub steps : List StepRecord
  pub operations : List OperationRecord

abbrev pub text_of : Plan → Text
text_of p = record { counts = p.functions.now; steps = p.steps.now; operations = p.operations.now }

-- one function
pub record Function : Type 0 where
  pub steps : List StepRecord
  pub operations : List OperationRecord

abbrev pub function_of : FunctionParts → Function
function_of f = record { steps = f.steps.now; operations = f.operations.now }

-- each function has its counts of the joint lists, after the functions before it
unfoldable pub functions_in : List Counts → List StepRecord → List OperationRecord → List Function
functions_in [] ss os = []
functions_in (c ∷ cs) ss os = record { steps = take c.steps ss; operations = take c.operations os } ∷ functions_in cs (drop c.steps ss) (drop c.operations os)

abbrev pub functions_of : Text → List Function
functions_of t = functions_in t.counts t.steps t.operations

-- what an iterator over functions has left
abbrev pub functions_left : Functions → List Function
functions_left s = functions_in s.counts.now s.steps.now s.operations.now
