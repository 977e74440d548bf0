-- How a reading ends.
use Rattle.std.proofs.Common.{◌≡◌, ℕ, ◌<◌, ◌≤◌, true, false, cond, ◌&&◌, leb, ◌⊎◌, List, length, None, Ok, Err, Result, sym, refl, ap, ◌∙◌, ⊎_elim, arith}
use Rattle.std.proofs.lemmas.Bool.{le-leb, lt-leb, and_from, and_left, and_right, cond-true, cond-false}
use Rattle.infos.specs.Codes.{bind}
use Rattle.infos.specs.Refusals.{InfoFault, fault_at, outside}
use Rattle.plan.specs.declared.text.StepRecord.{StepRecord}
use Rattle.tables.specs.Modules.{module_verdict}
use Rattle.readback.specs.Readings.{ModuleOf, module_steps, read_steps, reading, joint, joint_count, found}
use Rattle.readback.specs.declared.read.Lengths.{Lengths}
use Rattle.readback.proofs.Passes.{count_read}

abbrev All : Type 0
All = Result (List (List StepRecord)) InfoFault

-- the end of a reading, by what was read
abbrev ended : ℕ → ℕ → List (List StepRecord) → Result Lengths InfoFault
ended functions steps rest = cond (leb (length rest) functions && leb (length (joint rest)) steps) (Ok (record { functions = length rest; steps = length (joint rest) })) (Err (fault_at None 22))

counted_read : (r : All) (n : ℕ) → Ok n ≡ joint_count r → (rest : List (List StepRecord)) × (r ≡ Ok rest) × (length (joint rest) ≡ n)
counted_read (Ok rest) n e = (rest, refl, cc)
counted_read (Err d) n e = let z : ◌≡◌ {A = ℕ} 0 1 = cc in absurd (omega arith)

module _ (m : ModuleOf) (good : Ok tt ≡ module_verdict m.base m.size m.entries) (n : ℕ) (counted : Ok n ≡ joint_count (read_steps m.area m.start m.entries)) where
  pub all_read : module_steps m ≡ read_steps m.area m.start m.entries
  all_read = ap (λ v. bind (outside v) (λ _. read_steps m.area m.start m.entries)) (sym good)

  abbrev had : (rest : List (List StepRecord)) × (read_steps m.area m.start m.entries ≡ Ok rest) × (length (joint rest) ≡ n)
  had = counted_read (read_steps m.area m.start m.entries) n counted

  entries_are : length had.0 ≡ length m.entries
  entries_are = count_read m.area m.start m.entries had.0 had.1

  reading_is : (functions steps : ℕ) → reading m functions steps ≡ ended functions steps had.0
  reading_is functions steps = ap (λ r. bind r (ended functions steps)) (all_read ∙ had.1)

  pub enough : (functions steps : ℕ) → length m.entries ≤ functions → n ≤ steps → Ok (record { functions = length m.entries; steps = n }) ≡ reading m functions steps
  enough functions steps a b =
      let f : leb (length had.0) functions ≡ true = le-leb _ _ (omega (arith, entries_are)) in
      let s : leb (length (joint had.0)) steps ≡ true = le-leb _ _ (omega (arith, had.2)) in
      sym (reading_is functions steps ∙ cond-true _ _ _ (and_from _ _ f s) ∙ ap (λ k. Ok (record { functions = k; steps = length (joint had.0) })) entries_are ∙ ap (λ k. Ok (record { functions = length m.entries; steps = k })) had.2)

  pub too_few : (functions steps : ℕ) → (functions < length m.entries) ⊎ (steps < n) → Err (fault_at None 22) ≡ reading m functions steps
  too_few functions steps h =
      let no : (leb (length had.0) functions && leb (length (joint had.0)) steps) ≡ false =
      ⊎_elim (λ a. and_left _ (leb (length (joint had.0)) steps) (lt-leb (length had.0) functions (omega (arith, entries_are)))) (λ b. and_right (leb (length had.0) functions) _ (lt-leb (length (joint had.0)) steps (omega (arith, had.2)))) h in
      sym (reading_is functions steps ∙ cond-false _ _ _ no)

  pub steps-count : n ≡ length (joint (found (read_steps m.area m.start m.entries)))
  steps-count = sym (ap (λ r. length (joint (found r))) had.1 ∙ had.2)

-- a module, or one of its functions, that is refused
pub refused_module : (m : ModuleOf) (functions steps e : ℕ) → Err e ≡ module_verdict m.base m.size m.entries → Err (fault_at None e) ≡ reading m functions steps
refused_module m functions steps e h = ap (λ v. bind (bind (outside v) (λ _. read_steps m.area m.start m.entries)) (ended functions steps)) h

none_counted : (r : All) (e : InfoFault) (functions steps : ℕ) → Err e ≡ joint_count r → Err e ≡ bind r (ended functions steps)
none_counted (Ok rest) e functions steps h = let z : ◌≡◌ {A = ℕ} 0 1 = cc in absurd (omega arith)
none_counted (Err d) e functions steps h = let same : e ≡ d = cc in ap Err same

pub refused_function : (m : ModuleOf) (functions steps : ℕ) (e : InfoFault) → Ok tt ≡ module_verdict m.base m.size m.entries → Err e ≡ joint_count (read_steps m.area m.start m.entries) → Err e ≡ reading m functions steps
refused_function m functions steps e good h =
    none_counted (read_steps m.area m.start m.entries) e functions steps h
    ∙ ap (λ v. bind (bind (outside v) (λ _. read_steps m.area m.start m.entries)) (ended functions steps)) good
