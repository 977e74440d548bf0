-- A compiled module is read back as what it was compiled from.
use Rattle.std.proofs.Common.{◌≡◌, ℕ, suc, ◌+◌, ◌*◌, ◌/◌, ◌%◌, ◌^◌, ◌<◌, ◌≤◌, true, cond, ◌&&◌, leb, List, [], ◌∷◌, ◌++◌, map, length, take, drop, None, Ok, Err, Result, sym, refl, ap, ◌∙◌, arith}
use native.Mathlib.Nat.{mul-mod_right}
use Rattle.std.proofs.lemmas.List.{length-map, length-take-le, length-drop, take_all, take_at, take-take, drop-take, take-append-drop}
use Rattle.std.proofs.lemmas.Bool.{le-leb, lt-ltb, and_from, cond-true}
use Rattle.infos.specs.Codes.{bind}
use Rattle.infos.specs.Refusals.{InfoFault, fault_at, outside}
use Rattle.plan.specs.Functions.{Text, Function, functions_in, functions_of}
use Rattle.plan.specs.Layouts.{up, starts, code, infos, info_start, table, module_size}
use Rattle.plan.specs.Steps.{step, block}
use Rattle.plan.specs.Verdicts.{limits_verdict, steps_counted, operations_counted, steps_verdict, operations_verdict, functions_verdict, plan_verdict}
use Rattle.plan.specs.declared.text.Counts.{Counts}
use Rattle.plan.specs.declared.text.OperationRecord.{OperationRecord}
use Rattle.plan.specs.declared.text.StepRecord.{StepRecord}
use Rattle.tables.specs.Entries.{entries_of, entries_good}
use Rattle.tables.specs.Modules.{size_verdict, module_verdict}
use Rattle.readback.specs.Laws.{Compiled, CompiledBack, without_operations, with_steps}
use Rattle.readback.specs.Readings.{ModuleOf, read_steps, joint, found, counts_of, module_steps, reading, functions_after, steps_after}
use Rattle.readback.specs.Refusals.{told}
use Rattle.readback.specs.declared.read.Lengths.{Lengths}
use Rattle.readback.specs.declared.refusal.ReadRefusal.{ReadRefusal}
use Rattle.plan.proofs.Accepted.{Accepted, accepted}
use Rattle.readback.proofs.Laid.{end_of, end_near, laid, length_laid, laid_good, code-length, infos_near, table-entries, records_of, reads_back}

-- the functions of a description, by their counts
pub length_functions : (cs : List Counts) (ss : List StepRecord) (os : List OperationRecord) → length (functions_in cs ss os) ≡ length cs
unfolding functions_in
length_functions [] ss os = refl
length_functions (c ∷ cs) ss os = ap suc (length_functions cs (drop c.steps ss) (drop c.operations os))

take_both : {X : Type 0} (n m : ℕ) (xs : List X) → take n xs ++ take m (drop n xs) ≡ take (n + m) xs
take_both n m xs = ap (λ l. l ++ take m (drop n xs)) (sym (take-take n (n + m) xs (omega arith))) ∙ ap (λ l. take n (take (n + m) xs) ++ l) (sym (drop-take n m xs)) ∙ take-append-drop n (take (n + m) xs)

joint_functions : (cs : List Counts) (ss : List StepRecord) (os : List OperationRecord) → joint (records_of (functions_in cs ss os)) ≡ take (steps_counted cs) ss
unfolding functions_in joint steps_counted
joint_functions [] ss os = refl
joint_functions (c ∷ cs) ss os = ap (λ l. take c.steps ss ++ l) (joint_functions cs (drop c.steps ss) (drop c.operations os)) ∙ take_both c.steps (steps_counted cs) ss

counts_functions : (cs : List Counts) (ss : List StepRecord) (os : List OperationRecord) → steps_counted cs ≤ length ss → map counts_of (records_of (functions_in cs ss os)) ≡ map without_operations cs
unfolding functions_in steps_counted
counts_functions [] ss os h = refl
counts_functions (c ∷ cs) ss os h =
    let own : length (take c.steps ss) ≡ c.steps = length-take-le c.steps ss (omega arith) in
    ap (λ n. record { steps = n; operations = 0 } ∷ map counts_of (records_of (functions_in cs (drop c.steps ss) (drop c.operations os)))) own
    ∙ ap (λ l. without_operations c ∷ l) (counts_functions cs (drop c.steps ss) (drop c.operations os) (omega (arith, h, length-drop c.steps ss)))

told_ok : (r : Result Lengths ReadRefusal) (n : Lengths) → told r ≡ Ok n → r ≡ Ok n
told_ok (Ok k) n e = let same : k ≡ n = cc in ap Ok same
told_ok (Err d) n e = let z : ◌≡◌ {A = ℕ} 0 1 = cc in absurd (omega arith)

up_page : (x : ℕ) → (x ≤ up 4096 x) × (up 4096 x ≤ x + 4095)
up_page x = (omega arith, omega arith)

page_even : (x : ℕ) → (4096 + up 4096 x) % 4 ≡ 0
page_even x =
    let split : 4096 + up 4096 x ≡ 4 * (1024 + 1024 * ((x + 4095) / 4096)) = omega arith in
    ap (λ n. n % 4) split ∙ mul-mod_right 4 (1024 + 1024 * ((x + 4095) / 4096))

-- where the parts of an accepted description's module lie
module _ (t : Text) (a : Accepted t) where
  abbrev fs : List Function
  fs = functions_of t

  abbrev info : ℕ
  info = info_start fs

  count : length fs ≡ length t.counts
  count = length_functions t.counts t.steps t.operations

  code_ends : 4096 + length (code fs) ≡ end_of 4096 fs
  code_ends = code-length (starts fs) 4096 fs

  ends : end_of 4096 fs ≤ 266240
  ends = omega (arith, end_near 4096 fs a.good, count, a.few)

  info_above : end_of 4096 fs ≤ info
  info_above = omega (arith, code_ends, (up_page (length (code fs))).0)

  info_near : info + length (infos fs) < 2 ^ 32
  info_near = omega (arith, code_ends, ends, (up_page (length (code fs))).1, infos_near fs a.good, count, a.few)

  -- the steps of such a module
  module _ (m : ModuleOf) (c : Compiled t m) where
    entries_are : m.entries ≡ laid 4096 info fs
    entries_are = c.entries ∙ table-entries 4096 info fs (omega (arith, ends)) info_near

    verdict : module_verdict m.base m.size m.entries ≡ Ok tt
    verdict =
        let size : m.size ≡ info + length (infos fs) = c.size in
        let long : length (laid 4096 info fs) ≤ 65536 = omega (arith, length_laid 4096 info fs, count, a.few) in
        let good : entries_good m.size 0 (laid 4096 info fs) ≡ true = laid_good m.size 0 4096 info fs (omega arith) (omega (arith, info_above, size)) in
        let fits : size_verdict m.base m.size ≡ Ok tt = cond-true _ _ _ (and_from _ _ (lt-ltb 0 m.size (omega (arith, size))) (le-leb (m.base + m.size) (2 ^ 64) c.fits)) in
        ap (λ es. module_verdict m.base m.size es) entries_are ∙ cond-true _ _ _ (and_from _ _ (le-leb _ _ long) good) ∙ fits

    reads : read_steps m.area m.start m.entries ≡ Ok (records_of fs)
    reads =
        ap (λ x. read_steps x m.start m.entries) c.area ∙ ap (λ x. read_steps (infos fs) x m.entries) c.start ∙ ap (λ x. read_steps (infos fs) info x) entries_are
        ∙ reads_back info 4096 info [] fs a.good (omega arith) (page_even (length (code fs)))

    all-steps : module_steps m ≡ Ok (records_of fs)
    all-steps = ap (λ v. bind (outside v) (λ _. read_steps m.area m.start m.entries)) verdict ∙ reads

    joint-is : joint (records_of fs) ≡ t.steps
    joint-is = joint_functions t.counts t.steps t.operations ∙ ap (λ n. take n t.steps) a.counted ∙ take_all (length t.steps) t.steps (omega arith)

    length-records : length (records_of fs) ≡ length t.counts
    length-records = length-map fs (λ f. f.steps) ∙ count

    counts-are : map counts_of (records_of fs) ≡ map without_operations t.counts
    counts-are = counts_functions t.counts t.steps t.operations (omega (arith, a.counted))

    abbrev lengths : Lengths
    lengths = record { functions = length t.counts; steps = length t.steps }

    abbrev ended : ℕ → ℕ → List (List StepRecord) → Result Lengths InfoFault
    ended functions steps rest = cond (leb (length rest) functions && leb (length (joint rest)) steps) (Ok (record { functions = length rest; steps = length (joint rest) })) (Err (fault_at None 22))

    read_is : (functions steps : ℕ) → length t.counts ≤ functions → length t.steps ≤ steps → reading m functions steps ≡ Ok lengths
    read_is functions steps h g =
        let size : length (joint (records_of fs)) ≡ length t.steps = ap length joint-is in
        let x : leb (length (records_of fs)) functions ≡ true = le-leb _ _ (omega (arith, length-records, h)) in
        let y : leb (length (joint (records_of fs))) steps ≡ true = le-leb _ _ (omega (arith, size, g)) in
        ap (λ r. bind r (ended functions steps)) all-steps ∙ cond-true _ _ _ (and_from _ _ x y)
        ∙ ap (λ n. Ok (record { functions = n; steps = length (joint (records_of fs)) })) length-records ∙ ap (λ n. Ok (record { functions = length t.counts; steps = n })) size

-- whatever reads a module as its definition says reads a compiled one back
pub compiled_back : (m : ModuleOf) (functions : List Counts) (steps : List StepRecord) (r : Result Lengths ReadRefusal) (functions_then : List Counts) (steps_then : List StepRecord) →
    told r ≡ reading m (length functions) (length steps) → functions_then ≡ functions_after m functions r → steps_then ≡ steps_after m steps r → CompiledBack m functions steps r functions_then steps_then
compiled_back m functions steps r functions_then steps_then said fa sa t c h g =
    let a = accepted t c.accepted in
    let ok : r ≡ Ok (lengths t a m c) = told_ok r (lengths t a m c) (said ∙ read_is t a m c (length functions) (length steps) h g) in
    let ss : steps_then ≡ t.steps ++ drop (length t.steps) steps =
    sa ∙ ap (steps_after m steps) ok ∙ ap (λ q. joint (found q) ++ drop (length t.steps) steps) (all-steps t a m c) ∙ ap (λ l. l ++ drop (length t.steps) steps) (joint-is t a m c) in
    record {
      answer = ok;
      counts = fa ∙ ap (functions_after m functions) ok ∙ ap (λ q. map counts_of (found q) ++ drop (length t.counts) functions) (all-steps t a m c) ∙ ap (λ l. l ++ drop (length t.counts) functions) (counts-are t a m c);
      steps_back = ss;
      same_table = ap (λ l. table (functions_of (with_steps t l))) (ap (take (length t.steps)) ss ∙ take_at t.steps (drop (length t.steps) steps) (length t.steps) refl);
    }

-- every accepted description has such a module at base 0
pub has_module : (t : Text) → plan_verdict t ≡ Ok tt → (m : ModuleOf) × Compiled t m
has_module t v =
    let fs : List Function = functions_of t in
    let near : module_size fs < 2 ^ 32 = info_near t (accepted t v) in (
      record { base = 0; size = module_size fs; entries = entries_of (table fs) (length fs); area = infos fs; start = info_start fs },
      record { accepted = v; entries = refl; area = refl; start = refl; size = refl; fits = omega (arith, near) },
    )

-- and there are accepted descriptions: a push, an allocation, a frame and a save
a_text : Text
a_text = record { counts = record { steps = 4; operations = 0 } ∷ []; steps = step 0 5 0 ∷ step 1 0 32 ∷ step 2 5 16 ∷ step 3 3 8 ∷ []; operations = [] }

pub some_text : (t : Text) × (plan_verdict t ≡ Ok tt)
unfolding a_text limits_verdict steps_counted operations_counted functions_in steps_verdict operations_verdict functions_verdict block
some_text = (a_text, refl)
