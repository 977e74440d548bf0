-- The table and the infos of a compiled module: its entries, in order, and what they say.
use Rattle.std.proofs.Common.{◌≡◌, ℕ, zero, suc, ◌+◌, ◌-◌, ◌*◌, ◌%◌, ◌^◌, ◌<◌, ◌≤◌, true, ltb, leb, List, [], ◌∷◌, ◌++◌, map, length, take, drop, Ok, sym, refl, ap, ◌∙◌, arith}
use Rattle.std.specs.List.{range_with_len}
use Rattle.std.proofs.lemmas.List.{append_assoc, length-append, length-map, length-replicate, drop-drop}
use Rattle.std.proofs.lemmas.Bool.{le-leb, lt-ltb, and_from}
use Rattle.layout.specs.Words.{le_value, le_at}
use Rattle.x64.specs.Encodings.{four}
use Rattle.infos.specs.Codes.{bind}
use Rattle.plan.specs.Bodies.{steps_of, function_bytes, function_size}
use Rattle.plan.specs.Functions.{Function}
use Rattle.plan.specs.Layouts.{up, gap, code_from, infos, entry, table_from}
use Rattle.plan.specs.Steps.{step_of}
use Rattle.plan.specs.UnwindInfos.{info_bytes}
use Rattle.plan.specs.declared.text.StepRecord.{StepRecord}
use Rattle.tables.specs.Entries.{rva, entry_at, entries_of, entry_good, entries_good}
use Rattle.tables.specs.declared.entry.Entry.{Entry}
use Rattle.readback.specs.Readings.{function_steps, read_steps}
use Rattle.plan.proofs.Accepted.{Good, Goods}
use Rattle.readback.proofs.Decoded.{four-value}
use Rattle.readback.proofs.Infos.{info_whole, info_short, steps_back}
use Rattle.plan.proofs.Sizes.{same_size, some_bytes, few_bytes}

abbrev laid_entry : ℕ → ℕ → ℕ → Entry
laid_entry begin end info = record { begin = rva begin; end = rva end; info = rva info }

-- where the functions from an RVA on end
unfoldable pub end_of : ℕ → List Function → ℕ
end_of at [] = at
end_of at (f ∷ fs) = end_of (up 16 at + function_size f) fs

-- the entries of functions from an RVA on, whose infos lie from another on
unfoldable pub laid : ℕ → ℕ → List Function → List Entry
laid at info [] = []
laid at info (f ∷ fs) = laid_entry (up 16 at) (up 16 at + function_size f) info ∷ laid (up 16 at + function_size f) (info + length (info_bytes (steps_of f))) fs

pub length_laid : (at info : ℕ) (fs : List Function) → length (laid at info fs) ≡ length fs
unfolding laid
length_laid at info [] = refl
length_laid at info (f ∷ fs) = ap suc (length_laid (up 16 at + function_size f) (info + length (info_bytes (steps_of f))) fs)

up_above : (at : ℕ) → (at ≤ up 16 at) × (up 16 at ≤ at + 15)
up_above at = (omega arith, omega arith)

-- functions end past where they start, and not far
module _ (f : Function) (at : ℕ) where
  abbrev next : ℕ
  next = up 16 at + function_size f

  later : at < next
  later = omega (arith, (up_above at).0, some_bytes f)

  near : Good f → next ≤ at + 4096
  near g = omega (arith, (up_above at).1, few_bytes f g.few_steps g.few_operations)

pub end_above : (at : ℕ) (fs : List Function) → at ≤ end_of at fs
unfolding end_of
end_above at [] = omega arith
end_above at (f ∷ fs) = omega (arith, later f at, end_above (up 16 at + function_size f) fs)

pub end_near : (at : ℕ) (fs : List Function) → Goods fs → end_of at fs ≤ at + 4096 * length fs
unfolding end_of
end_near at [] g = omega arith
end_near at (f ∷ fs) g = omega (arith, near f at g.0, end_near (up 16 at + function_size f) fs g.1)

-- the code reaches to that end
pub code-length : (to : List ℕ) (at : ℕ) (fs : List Function) → at + length (code_from to at fs) ≡ end_of at fs
unfolding code_from end_of
code-length to at [] = omega arith
code-length to at (f ∷ fs) =
    let own : List ℕ = function_bytes to (up 16 at) f in
    let rest : List ℕ = code_from to (up 16 at + function_size f) fs in
    let size : length (gap at ++ (own ++ rest)) ≡ up 16 at - at + (function_size f + length rest) =
    length-append (gap at) (own ++ rest) ∙ ap (λ n. n + length (own ++ rest)) (length-replicate (up 16 at - at) 204) ∙ ap (λ n. up 16 at - at + n) (length-append own rest ∙ ap (λ n. n + length rest) (same_size f to (up 16 at))) in
    omega (arith, size, (up_above at).0, code-length to (up 16 at + function_size f) fs)

pub infos_near : (fs : List Function) → Goods fs → length (infos fs) ≤ 100 * length fs
unfolding infos
infos_near [] g = omega arith
infos_near (f ∷ fs) g =
    let own : length (info_bytes (steps_of f)) ≤ 100 = info_short (steps_of f) g.0.fine (omega (arith, length-map f.steps step_of, g.0.few_steps)) in
    omega (arith, length-append (info_bytes (steps_of f)) (infos fs), own, infos_near fs g.1)

-- the entries are in order inside the module
pub laid_good : (size floor at info : ℕ) (fs : List Function) → floor ≤ at → end_of at fs ≤ size → entries_good size floor (laid at info fs) ≡ true
unfolding laid end_of
laid_good size floor at info [] h g = refl
laid_good size floor at info (f ∷ fs) h g =
    let end : ℕ = up 16 at + function_size f in
    let within : end ≤ size = omega (arith, end_above end fs, g) in
    and_from (entry_good size floor (laid_entry (up 16 at) end info)) (entries_good size end (laid end (info + length (info_bytes (steps_of f))) fs))
    (and_from (ltb (up 16 at) end) _ (lt-ltb (up 16 at) end (omega (arith, some_bytes f))) (and_from (leb floor (up 16 at)) (leb end size) (le-leb floor (up 16 at) (omega (arith, h, (up_above at).0))) (le-leb end size within)))
    (laid_good size end end (info + length (info_bytes (steps_of f))) fs (omega arith) g)

-- the entries of a table's bytes
first_entry : (b e i : ℕ) (rest : List ℕ) → b < 2 ^ 32 → e < 2 ^ 32 → i < 2 ^ 32 → entry_at (entry b e i ++ rest) 0 ≡ laid_entry b e i
first_entry b e i rest x y z =
    ap (λ n. laid_entry n (le_value (four e)) (le_value (four i))) (four-value b x) ∙ ap (λ n. laid_entry b n (le_value (four i))) (four-value e y) ∙ ap (λ n. laid_entry b e n) (four-value i z)

past_first : (b e i : ℕ) (rest : List ℕ) (n m : ℕ) → n ≡ 12 + m → drop n (entry b e i ++ rest) ≡ drop m rest
past_first b e i rest n m h = ap (λ k. drop k (entry b e i ++ rest)) h ∙ sym (drop-drop m 12 (entry b e i ++ rest))

entry_later : (b e i : ℕ) (rest : List ℕ) (k : ℕ) → entry_at (entry b e i ++ rest) (12 * (k + 1)) ≡ entry_at rest (12 * k)
entry_later b e i rest k =
    let word : (n m : ℕ) → n ≡ 12 + m → le_at 4 (entry b e i ++ rest) n ≡ le_at 4 rest m = λ n m h. ap (λ l. le_value (take 4 l)) (past_first b e i rest n m h) in
    let bs : List ℕ = entry b e i ++ rest in
    let at : ℕ = 12 * (k + 1) in
    ap (λ n. laid_entry n (le_at 4 bs (at + 4)) (le_at 4 bs (at + 8))) (word at (12 * k) (omega arith))
    ∙ ap (λ n. laid_entry (le_at 4 rest (12 * k)) n (le_at 4 bs (at + 8))) (word (at + 4) (12 * k + 4) (omega arith))
    ∙ ap (λ n. laid_entry (le_at 4 rest (12 * k)) (le_at 4 rest (12 * k + 4)) n) (word (at + 8) (12 * k + 8) (omega arith))

entries_later : (b e i : ℕ) (rest : List ℕ) (n a : ℕ) → map (λ k. entry_at (entry b e i ++ rest) (12 * k)) (range_with_len (a + 1) n) ≡ map (λ k. entry_at rest (12 * k)) (range_with_len a n)
entries_later b e i rest zero a = refl
entries_later b e i rest (suc n) a =
    ap (λ x. x ∷ map (λ k. entry_at (entry b e i ++ rest) (12 * k)) (range_with_len (a + 1 + 1) n)) (entry_later b e i rest a) ∙ ap (λ l. entry_at rest (12 * a) ∷ l) (entries_later b e i rest n (a + 1))

pub table-entries : (at info : ℕ) (fs : List Function) → end_of at fs < 2 ^ 32 → info + length (infos fs) < 2 ^ 32 → entries_of (table_from at info fs) (length fs) ≡ laid at info fs
unfolding table_from laid end_of infos
table-entries at info [] h g = refl
table-entries at info (f ∷ fs) h g =
    let begin : ℕ = up 16 at in
    let end : ℕ = begin + function_size f in
    let own : ℕ = length (info_bytes (steps_of f)) in
    let rest : List ℕ = table_from end (info + own) fs in
    let low : end < 2 ^ 32 = omega (arith, end_above end fs, h) in
    let size : length (info_bytes (steps_of f) ++ infos fs) ≡ own + length (infos fs) = length-append (info_bytes (steps_of f)) (infos fs) in
    ap (λ x. x ∷ map (λ k. entry_at (entry begin end info ++ rest) (12 * k)) (range_with_len (0 + 1) (length fs))) (first_entry begin end info rest (omega (arith, low)) low (omega (arith, g, size)))
    ∙ ap (λ l. laid_entry begin end info ∷ l) (entries_later begin end info rest (length fs) 0)
    ∙ ap (λ l. laid_entry begin end info ∷ l) (table-entries end (info + own) fs h (omega (arith, g, size)))

-- each function's steps come back
abbrev pub records_of : List Function → List (List StepRecord)
records_of fs = map (λ f. f.steps) fs

pub reads_back : (start at info : ℕ) (front : List ℕ) (fs : List Function) → Goods fs → info ≡ start + length front → info % 4 ≡ 0 → read_steps (front ++ infos fs) start (laid at info fs) ≡ Ok (records_of fs)
unfolding read_steps laid infos
reads_back start at info front [] g here even = refl
reads_back start at info front (f ∷ fs) g here even =
    let own : List ℕ = info_bytes (steps_of f) in
    let whole : length own % 4 ≡ 0 = info_whole (steps_of f) g.0.fine in
    let end : ℕ = up 16 at + function_size f in
    let area : List ℕ = front ++ (own ++ infos fs) in
    let first : function_steps area start (laid_entry (up 16 at) end info) ≡ Ok f.steps = steps_back (steps_of f) g.0.fine front (infos fs) start info here even (laid_entry (up 16 at) end info) refl ∙ ap Ok g.0.records in
    let joined : (front ++ own) ++ infos fs ≡ area = append_assoc front own (infos fs) in
    let more = reads_back start end (info + length own) (front ++ own) fs g.1 (omega (arith, here, length-append front own)) (omega (arith, even, whole)) in
    let others : read_steps area start (laid end (info + length own) fs) ≡ Ok (records_of fs) = ap (λ a. read_steps a start (laid end (info + length own) fs)) (sym joined) ∙ more in
    ap (λ r. bind r (λ ss. bind (read_steps area start (laid end (info + length own) fs)) (λ rest. Ok (ss ∷ rest)))) first ∙ ap (λ r. bind r (λ rest. Ok (f.steps ∷ rest))) others
