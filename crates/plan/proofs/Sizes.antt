-- How many bytes a function has, wherever it lies.
use Rattle.std.proofs.Common.{◌≡◌, ℕ, ◌+◌, ◌*◌, ◌≤◌, Bool, true, false, cond, not, eqb, ltb, List, [], ◌∷◌, ◌++◌, map, length, Some, None, Option, sym, refl, ap, ◌∙◌, arith}
use Rattle.std.proofs.lemmas.List.{length-append, length-map}
use Rattle.x64.specs.Encodings.{encode, encode_as, short, displacement_of, spelled, low}
use Rattle.x64.specs.declared.instruction.Instruction.{Instruction}
use Rattle.x64.specs.declared.instruction.Instruction.TheVariants.{Push, Pop, SubRsp, AddRsp, StoreAtRsp, LoadAtRsp, LeaAtRsp, StoreAtFrame, LoadAtFrame, LeaRspAtFrame, Set, Nop, Call, Ret}
use Rattle.steps.specs.declared.set_frame.SetFrameStep.{SetFrameStep}
use Rattle.plan.specs.Bodies.{bytes, forward, backward, enter, operation_instruction, work, loading, leave_by, popping, leave, steps_of, function_bytes, function_size}
use Rattle.plan.specs.Functions.{Function}
use Rattle.plan.specs.Operations.{operation_of}
use Rattle.plan.specs.Steps.{step_of, frame, block}
use Rattle.plan.specs.declared.operation.Operation.{Operation}
use Rattle.plan.specs.declared.operation.Operation.TheVariants.{Nop as DoNothing, Set as SetTo, Reserve, Call as CallOf}
use Rattle.plan.specs.declared.step.Step.{Step}
use Rattle.plan.specs.declared.step.Step.TheVariants.{Push as PushStep, Allocate as AllocateStep, SetFrame as FrameStep, Save as SaveStep}

-- an instruction has at most 8 bytes
one_short : (b : Bool) (x y : ℕ) → length (cond b (x ∷ []) (65 ∷ y ∷ [])) ≤ 2
one_short true x y = omega arith
one_short false x y = omega arith

spelled-short : (wide : Bool) (d : ℕ) → length (spelled wide d) ≤ 4
spelled-short true d = omega arith
spelled-short false d = omega arith

encoded_short : (wide : Bool) (i : Instruction) → length (encode_as wide i) ≤ 8
encoded_short wide (Push r) = let h = one_short (ltb r 8) (80 + low r) (80 + low r) in omega arith
encoded_short wide (Pop r) = let h = one_short (ltb r 8) (88 + low r) (88 + low r) in omega arith
encoded_short wide (SubRsp d) = let h = spelled-short wide d in omega arith
encoded_short wide (AddRsp d) = let h = spelled-short wide d in omega arith
encoded_short wide (StoreAtRsp r d) = let h = spelled-short wide d in omega arith
encoded_short wide (LoadAtRsp r d) = let h = spelled-short wide d in omega arith
encoded_short wide (LeaAtRsp r d) = let h = spelled-short wide d in omega arith
encoded_short wide (StoreAtFrame r f d) = let h = spelled-short wide d in omega arith
encoded_short wide (LoadAtFrame r f d) = let h = spelled-short wide d in omega arith
encoded_short wide (LeaRspAtFrame f d) = let h = spelled-short wide d in omega arith
encoded_short wide (Set r d) = omega arith
encoded_short wide Nop = omega arith
encoded_short wide (Call d) = omega arith
encoded_short wide Ret = omega arith

pub bytes-short : (is : List Instruction) → length (bytes is) ≤ 8 * length is
unfolding bytes
bytes-short [] = omega arith
bytes-short (i ∷ is) =
    let first : length (encode i) ≤ 8 = encoded_short (not (short (displacement_of i))) i in
    omega (arith, length-append (encode i) (bytes is), bytes-short is, first)

bytes_more : (is js : List Instruction) → length (bytes (is ++ js)) ≡ length (bytes is) + length (bytes js)
unfolding bytes
bytes_more [] js = omega arith
bytes_more (i ∷ is) js = omega (arith, length-append (encode i) (bytes (is ++ js)), length-append (encode i) (bytes is), bytes_more is js)

-- how many instructions there are
enter-count : (ss : List Step) → length (enter ss) ≡ length ss
unfolding forward
enter-count [] = refl
enter-count (s ∷ ss) = omega (arith, enter-count ss)

work-count : (starts : List ℕ) (at : ℕ) (os : List Operation) → length (work starts at os) ≡ length os
unfolding work
work-count starts at [] = refl
work-count starts at (o ∷ os) = omega (arith, work-count starts (at + length (encode (operation_instruction starts at o))) os)

pub backward-count : (g : Step → List Instruction) → ((s : Step) → length (g s) ≤ 1) → (ss : List Step) → length (backward g ss) ≤ length ss
unfolding backward
backward-count g h [] = omega arith
backward-count g h (s ∷ ss) = omega (arith, length-append (backward g ss) (g s), h s, backward-count g h ss)

pub loading-count : (f : Option SetFrameStep) (s : Step) → length (loading f s) ≤ 1
loading-count f (PushStep k) = omega arith
loading-count f (AllocateStep k) = omega arith
loading-count f (FrameStep k) = omega arith
loading-count f (SaveStep k) = omega arith

pub popping-count : (s : Step) → length (popping s) ≤ 1
popping-count (PushStep k) = omega arith
popping-count (AllocateStep k) = omega arith
popping-count (FrameStep k) = omega arith
popping-count (SaveStep k) = omega arith

leave_if : (b : Bool) (i : Instruction) → length (cond b [] (i ∷ [])) ≤ 1
leave_if true i = omega arith
leave_if false i = omega arith

leave_by-count : (f : Option SetFrameStep) (size : ℕ) → length (leave_by f size) ≤ 1
leave_by-count None size = leave_if (eqb size 0) (AddRsp size)
leave_by-count (Some f) size = omega arith

leave-count : (ss : List Step) → length (leave ss) ≤ 2 * length ss + 2
leave-count ss =
    let a : List Instruction = backward (loading (frame ss)) ss in
    let b : List Instruction = leave_by (frame ss) (block ss) in
    let c : List Instruction = backward popping ss in
    omega (
      arith,
      length-append a (b ++ (c ++ Ret ∷ [])),
      length-append b (c ++ Ret ∷ []),
      length-append c (Ret ∷ []),
      backward-count (loading (frame ss)) (loading-count (frame ss)) ss,
      leave_by-count (frame ss) (block ss),
      backward-count popping popping-count ss,
    )

-- an operation has as many bytes anywhere
pub same_operation : (s t : List ℕ) (a b : ℕ) (o : Operation) → length (encode (operation_instruction s a o)) ≡ length (encode (operation_instruction t b o))
same_operation s t a b DoNothing = refl
same_operation s t a b (SetTo r v) = refl
same_operation s t a b (Reserve n) = refl
same_operation s t a b (CallOf g) = refl

same_work : (s t : List ℕ) (a b : ℕ) (os : List Operation) → length (bytes (work s a os)) ≡ length (bytes (work t b os))
unfolding work bytes
same_work s t a b [] = refl
same_work s t a b (o ∷ os) =
    let i : Instruction = operation_instruction s a o in
    let j : Instruction = operation_instruction t b o in
    let is : List Instruction = work s (a + length (encode i)) os in
    let js : List Instruction = work t (b + length (encode j)) os in
    omega (arith, length-append (encode i) (bytes is), length-append (encode j) (bytes js), same_operation s t a b o, same_work s t (a + length (encode i)) (b + length (encode j)) os)

module _ (f : Function) where
  abbrev ss : List Step
  ss = steps_of f

  abbrev os : List Operation
  os = map operation_of f.operations

  abbrev rest : List ℕ → ℕ → List Instruction
  rest to at = work to (at + length (bytes (enter ss))) os ++ leave ss

  parts : (to : List ℕ) (at : ℕ) → length (function_bytes to at f) ≡ length (bytes (enter ss)) + (length (bytes (work to (at + length (bytes (enter ss))) os)) + length (bytes (leave ss)))
  parts to at = bytes_more (enter ss) (rest to at) ∙ ap (λ n. length (bytes (enter ss)) + n) (bytes_more (work to (at + length (bytes (enter ss))) os) (leave ss))

  pub same_size : (to : List ℕ) (at : ℕ) → length (function_bytes to at f) ≡ function_size f
  same_size to at =
      parts to at ∙ ap (λ n. length (bytes (enter ss)) + (n + length (bytes (leave ss)))) (same_work to [] (at + length (bytes (enter ss))) (0 + length (bytes (enter ss))) os) ∙ sym (parts [] 0)

  last : 1 ≤ length (bytes (leave ss))
  unfolding bytes
  last =
      let a : List Instruction = backward (loading (frame ss)) ss in
      let b : List Instruction = leave_by (frame ss) (block ss) in
      let c : List Instruction = backward popping ss in
      omega (arith, bytes_more a (b ++ (c ++ Ret ∷ [])), bytes_more b (c ++ Ret ∷ []), bytes_more c (Ret ∷ []))

  pub some_bytes : 1 ≤ function_size f
  some_bytes = omega (arith, parts [] 0, last)

  pub few_bytes : length f.steps ≤ 10 → length f.operations ≤ 255 → function_size f ≤ 2300
  few_bytes h g =
      let n : length ss ≡ length f.steps = length-map f.steps step_of in
      let m : length os ≡ length f.operations = length-map f.operations operation_of in
      let at : ℕ = 0 + length (bytes (enter ss)) in
      omega (
        arith,
        parts [] 0,
        bytes-short (enter ss),
        enter-count ss,
        bytes-short (work [] at os),
        work-count [] at os,
        bytes-short (leave ss),
        leave-count ss,
      )
