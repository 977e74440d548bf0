-- What the compiler has when it comes to write.
use Rattle.std.proofs.Common.{◌≡◌, ℕ, ◌+◌, ◌*◌, ◌≤◌, leb, List, [], ◌∷◌, length, Ok, Err, sym, refl, ap, ◌∙◌, arith}
use Rattle.std.proofs.lemmas.Bool.{leb-true}
use Rattle.std.proofs.lemmas.List.{length-append}
use Rattle.plan.specs.Bodies.{steps_of, function_size}
use Rattle.plan.specs.Functions.{Text, Function, functions_of}
use Rattle.plan.specs.Layouts.{up, starts, code, infos, entry, table, table_from, info_start}
use Rattle.plan.specs.Refusals.{PlanFault}
use Rattle.plan.specs.UnwindInfos.{info_bytes}
use Rattle.plan.specs.Verdicts.{next, owed, plan_verdict}
use Rattle.plan.proofs.Passes.{next_ok, owed_good, length-functions_in}
use Rattle.compile.specs.Compilings.{lengths, room_verdict, answered, compiling}
use Rattle.compile.specs.Writables.{Writable}
use Rattle.compile.specs.declared.lengths.Lengths.{Lengths}
use Rattle.compile.proofs.Laying.{table-cons}

table-length : (at info : ℕ) (fs : List Function) → length (table_from at info fs) ≡ 12 * length fs
unfolding table_from
table-length at info [] = refl
table-length at info (f ∷ fs) =
    let rest = table_from (up 16 at + function_size f) (info + length (info_bytes (steps_of f))) fs in
    let a = ap length (table-cons f fs at info) in
    let b = length-append (entry (up 16 at) (up 16 at + function_size f) info) rest in
    let c = table-length (up 16 at + function_size f) (info + length (info_bytes (steps_of f))) fs in
    omega (arith, a, b, c)

-- the lengths that were measured
pub lengths_are : (p : Text) (c i : ℕ) → c ≡ length (code (functions_of p)) → i ≡ length (infos (functions_of p)) →
    record { code = c; infos = i; table = 12 * length p.counts } ≡ lengths (functions_of p)
lengths_are p c i ec ei =
    let fs = functions_of p in
    let et : 12 * length p.counts ≡ length (table fs) = ap (λ n. 12 * n) (sym (length-functions_in p.counts p.steps p.operations)) ∙ sym (table-length 4096 (info_start fs) fs) in
    ap (λ x. record { code = x; infos = i; table = 12 * length p.counts }) ec ∙ ap (λ x. record { code = length (code fs); infos = x; table = 12 * length p.counts }) ei
    ∙ ap (λ x. record { code = length (code fs); infos = length (infos fs); table = x }) et

pub writable : (p : Text) → plan_verdict p ≡ Ok tt → (n : Lengths) → n ≡ lengths (functions_of p) → (c i b : List ℕ) → room_verdict n (length c) (length i) (length b) ≡ Ok tt →
    (st : List ℕ) → st ≡ starts (functions_of p) → (rva : ℕ) → rva ≡ 4096 + up 4096 n.code → n.code ≤ 200000 → Writable p st rva c i b
writable p ok n e c i b room st es rva er small =
    let q = next_ok (owed (leb n.code (length c)) 18 0) _ room in
    let r = next_ok (owed (leb n.infos (length i)) 18 1) (owed (leb n.table (length b)) 18 2) q.1 in
    let x : n.code ≤ length c = leb-true _ _ (owed_good _ 18 0 q.0) in
    let y : n.infos ≤ length i = leb-true _ _ (owed_good _ 18 1 r.0) in
    let z : n.table ≤ length b = leb-true _ _ (owed_good _ 18 2 r.1) in
    let ec : n.code ≡ length (code (functions_of p)) = ap (λ l. l.code) e in
    record {
      accepted = ok;
      started = es;
      placed = er ∙ ap (λ k. 4096 + up 4096 k) ec;
      bounded = omega (arith, er, small);
      code_room = omega (arith, x, ec);
      infos_room = omega (arith, y, ap (λ l. l.infos) e);
      table_room = omega (arith, z, ap (λ l. l.table) e);
    }

-- the answer, with and without room
module _ (t : Text) (ok : plan_verdict t ≡ Ok tt) (n : Lengths) (e : n ≡ lengths (functions_of t)) (c i b : ℕ) where
  pub compiled_ok : room_verdict n c i b ≡ Ok tt → compiling t c i b ≡ Ok n
  compiled_ok room =
      let fs = functions_of t in
      ap (λ v. answered (next v (room_verdict (lengths fs) c i b)) (lengths fs)) ok
      ∙ ap (λ m. answered (room_verdict m c i b) m) (sym e)
      ∙ ap (λ v. answered v n) room

  pub compiled_short : (f : PlanFault) → room_verdict n c i b ≡ Err f → compiling t c i b ≡ Err f
  compiled_short f room =
      let fs = functions_of t in
      ap (λ v. answered (next v (room_verdict (lengths fs) c i b)) (lengths fs)) ok
      ∙ ap (λ m. answered (room_verdict m c i b) m) (sym e)
      ∙ ap (λ v. answered v n) room
