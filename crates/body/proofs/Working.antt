-- The operations of a body, and a function by its parts.
use Rattle.std.proofs.Common.{◌≡◌, ℕ, ◌+◌, ◌-◌, ◌^◌, ◌<◌, ◌≤◌, List, [], ◌∷◌, ◌++◌, map, length, get_or, drop, Option, sym, refl, ap, ◌∙◌, arith}
use Rattle.std.specs.List.{sum_by}
use Rattle.std.proofs.lemmas.List.Sums.{sum_by-cons}
use Rattle.std.proofs.lemmas.List.{length-append, at_drop_more, at_drop_all}
use Rattle.layout.specs.Cursors.{HasRoom, wrote}
use Rattle.layout.specs.declared.cursor.Cursor.{Cursor}
use Rattle.layout.proofs.Cursors.{Rest, begin, recast, room, step}
use Rattle.x64.specs.Encodings.{encode}
use Rattle.x64.specs.declared.instruction.Instruction.{Instruction}
use Rattle.x64.specs.declared.instruction.Instruction.TheVariants.{Ret}
use Rattle.plan.specs.Bodies.{bytes, backward, enter, operation_instruction, work, loading, leave_by, popping, leave, steps_of, function_bytes, function_size}
use Rattle.plan.specs.Functions.{Function}
use Rattle.plan.specs.Operations.{operation_of}
use Rattle.plan.specs.Steps.{block, frame}
use Rattle.plan.specs.declared.operation.Operation.{Operation}
use Rattle.plan.specs.declared.step.Step.{Step}
use Rattle.plan.specs.declared.text.OperationRecord.{OperationRecord}
use Rattle.steps.specs.declared.set_frame.SetFrameStep.{SetFrameStep}
use Rattle.plan.proofs.Sizes.{same_operation, few_bytes}
use Rattle.body.proofs.Bytes.{bytes-append, one}

-- how many bytes an operation has, wherever it stands
abbrev pub own_size : OperationRecord → ℕ
own_size r = length (encode (operation_instruction [] 0 (operation_of r)))

pub work_sized : (st : List ℕ) (at : ℕ) (rs : List OperationRecord) → length (bytes (work st at (map operation_of rs))) ≡ sum_by own_size rs
unfolding bytes work
work_sized st at [] = refl
work_sized st at (r ∷ rs) =
    let i = operation_instruction st at (operation_of r) in
    length-append (encode i) (bytes (work st (at + length (encode i)) (map operation_of rs)))
    ∙ ap (λ n. n + length (bytes (work st (at + length (encode i)) (map operation_of rs)))) (same_operation st [] at 0 (operation_of r))
    ∙ ap (λ n. own_size r + n) (work_sized st (at + length (encode i)) rs) ∙ sym (sum_by-cons own_size r rs)

-- one more operation, whose instruction has n bytes
module _ (rs : List OperationRecord) (i : ℕ) (d : OperationRecord) (h : i < length rs) (o : Operation) (e : o ≡ operation_of (get_or rs i d))
    (st : List ℕ) (at : ℕ) (x : Instruction) (y : x ≡ operation_instruction st at o) (n : ℕ) (z : n ≡ length (encode x)) where
  pub work_one : bytes (work st at (map operation_of (drop i rs))) ≡ encode x ++ bytes (work st (at + n) (map operation_of (drop (i + 1) rs)))
  unfolding bytes work
  work_one =
      at_drop_more (λ l. bytes (work st at (map operation_of l))) rs i d h
      ∙ ap (λ z. encode z ++ bytes (work st (at + length (encode z)) (map operation_of (drop (i + 1) rs)))) (sym (y ∙ ap (operation_instruction st at) e))
      ∙ ap (λ k. encode x ++ bytes (work st (at + k) (map operation_of (drop (i + 1) rs)))) (sym z)

  pub work_length : length (bytes (work st at (map operation_of (drop i rs)))) ≡ n + length (bytes (work st (at + n) (map operation_of (drop (i + 1) rs))))
  work_length =
      let rest = bytes (work st (at + n) (map operation_of (drop (i + 1) rs))) in
      ap length work_one ∙ length-append (encode x) rest ∙ ap (λ k. k + length rest) (sym z)

pub work_none : (st : List ℕ) (at : ℕ) (rs : List OperationRecord) (i : ℕ) → length rs ≤ i → bytes (work st at (map operation_of (drop i rs))) ≡ []
unfolding bytes work
work_none st at rs i h = at_drop_all (λ l. bytes (work st at (map operation_of l))) rs i h

-- loads and epilogue, part by part
pub leave_parts : (ss : List Step) → bytes (leave ss) ≡ bytes (backward (loading (frame ss)) ss) ++ (bytes (leave_by (frame ss) (block ss)) ++ (bytes (backward popping ss) ++ encode Ret))
leave_parts ss =
    let loads = backward (loading (frame ss)) ss in
    let middle = leave_by (frame ss) (block ss) in
    let pops = backward popping ss in
    bytes-append loads (middle ++ (pops ++ Ret ∷ []))
    ∙ ap (λ l. bytes loads ++ l) (bytes-append middle (pops ++ Ret ∷ [])
    ∙ ap (λ l. bytes middle ++ l) (bytes-append pops (Ret ∷ [])
    ∙ ap (λ l. bytes pops ++ l) (one Ret)))

pub function_parts : (st : List ℕ) (at : ℕ) (f : Function) → function_bytes st at f
    ≡ bytes (enter (steps_of f)) ++ (bytes (work st (at + length (bytes (enter (steps_of f)))) (map operation_of f.operations)) ++ bytes (leave (steps_of f)))
function_parts st at f =
    let entered = enter (steps_of f) in
    let worked = work st (at + length (bytes entered)) (map operation_of f.operations) in
    bytes-append entered (worked ++ leave (steps_of f)) ∙ ap (λ l. bytes entered ++ l) (bytes-append worked (leave (steps_of f)))

leave_sized : (ss : List Step) → length (bytes (leave ss)) ≡ length (bytes (backward (loading (frame ss)) ss)) + length (bytes (leave_by (frame ss) (block ss))) + length (bytes (backward popping ss)) + 1
leave_sized ss =
    let loads = bytes (backward (loading (frame ss)) ss) in
    let middle = bytes (leave_by (frame ss) (block ss)) in
    let pops = bytes (backward popping ss) in
    let a = ap length (leave_parts ss) in
    let b = length-append loads (middle ++ (pops ++ encode Ret)) in
    let c = length-append middle (pops ++ encode Ret) in
    let d = length-append pops (encode Ret) in
    omega (arith, a, b, c, d)

-- the size by parts, the same wherever the function stands
pub function_sized : (st : List ℕ) (at : ℕ) (f : Function) → length (function_bytes st at f)
    ≡ length (bytes (enter (steps_of f))) + sum_by own_size f.operations + length (bytes (leave (steps_of f)))
function_sized st at f =
    let entered = bytes (enter (steps_of f)) in
    let worked = bytes (work st (at + length entered) (map operation_of f.operations)) in
    let a = ap length (function_parts st at f) in
    let b = length-append entered (worked ++ bytes (leave (steps_of f))) in
    let c = length-append worked (bytes (leave (steps_of f))) in
    let d = work_sized st (at + length entered) f.operations in
    omega (arith, a, b, c, d)

pub size_by_parts : (f : Function) → function_size f
    ≡ length (bytes (enter (steps_of f))) + length (bytes (work [] 0 (map operation_of f.operations))) + length (bytes (backward (loading (frame (steps_of f))) (steps_of f)))
    + length (bytes (leave_by (frame (steps_of f)) (block (steps_of f)))) + length (bytes (backward popping (steps_of f))) + 1
size_by_parts f =
    let a = function_sized [] 0 f in
    let b = leave_sized (steps_of f) in
    let c = work_sized [] 0 f.operations in
    omega (arith, a, b, c)

pub operations_few : (rs : List OperationRecord) → length rs ≤ 255 → sum_by own_size rs ≤ 2300
operations_few rs h =
    let f : Function = record { steps = []; operations = rs } in
    omega (arith, function_sized [] 0 f, few_bytes f (omega arith) h)

-- what is to be written, in the form in which it is written
pub leave_begin : (c : Cursor) (ss : List Step) → HasRoom c (bytes (leave ss)) → (fr : Option SetFrameStep) → fr ≡ frame ss →
    Rest c (bytes (leave ss)) c (bytes (backward (loading fr) ss) ++ (bytes (leave_by (frame ss) (block ss)) ++ (bytes (backward popping ss) ++ encode Ret)))
leave_begin c ss h fr e =
    recast (begin c (bytes (leave ss)) h)
    (leave_parts ss ∙ ap (λ f. bytes (backward (loading f) ss) ++ (bytes (leave_by (frame ss) (block ss)) ++ (bytes (backward popping ss) ++ encode Ret))) (sym e))

-- a function in the form in which it is written, and how far: the operations stand behind the prologue
module _ (c : Cursor) (st : List ℕ) (rva : ℕ) (f : Function) (h : HasRoom c (function_bytes st rva f)) where
  function_begin : Rest c (function_bytes st rva f) c (bytes (enter (steps_of f)) ++ (bytes (work st (rva + length (bytes (enter (steps_of f)))) (map operation_of f.operations)) ++ bytes (leave (steps_of f))))
  function_begin = recast (begin c (function_bytes st rva f) h) (function_parts st rva f)

  pub enter_room : HasRoom c (bytes (enter (steps_of f)))
  enter_room = room _ _ function_begin

  module _ (d : Cursor) (e : d ≡ wrote c (bytes (enter (steps_of f)))) where
    abbrev body : ℕ
    body = rva + (d.at - c.at)

    entered : body ≡ rva + length (bytes (enter (steps_of f)))
    entered = omega (arith, ap (λ k. k.at) e)

    pub function_next : Rest c (function_bytes st rva f) d (bytes (work st body (map operation_of f.operations)) ++ bytes (leave (steps_of f)))
    function_next =
        recast (step (bytes (enter (steps_of f))) _ function_begin d e)
        (ap (λ p. bytes (work st p (map operation_of f.operations)) ++ bytes (leave (steps_of f))) (sym entered))

    -- the operations end where the loads begin, inside the function
    pub body_inside : rva + length (function_bytes st rva f) + 5 < 2 ^ 32 → body + length (bytes (work st body (map operation_of f.operations))) + 5 < 2 ^ 32
    body_inside low = omega (arith, function_sized st rva f, work_sized st body f.operations, entered, low)
