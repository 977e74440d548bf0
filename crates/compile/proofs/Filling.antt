-- A module written function by function.
use Rattle.std.proofs.Common.{◌≡◌, ℕ, ◌+◌, ◌-◌, ◌*◌, ◌^◌, ◌<◌, ◌≤◌, false, List, [], ◌∷◌, ◌++◌, length, replicate, sym, refl, ap, ◌∙◌, subst, arith}
use lib.ListN.{length-replicate}
use native.Mathlib.Nat.{div-div-eq-div-mul}
use Rattle.layout.specs.Cursors.{HasRoom, wrote}
use Rattle.layout.specs.Words.{le_bytes}
use Rattle.layout.specs.declared.cursor.Cursor.{Cursor}
use Rattle.layout.proofs.Cursors.{Rest, begin as rest-begin, recast, room, step, finish}
use Rattle.x64.specs.Encodings.{four}
use Rattle.plan.specs.Bodies.{steps_of, function_bytes, function_size}
use Rattle.plan.specs.Functions.{Text, Function, functions_of}
use Rattle.plan.specs.Layouts.{up, code, code_from, infos, entry, table, table_from, info_start}
use Rattle.plan.specs.Steps.{AllSound, frame}
use Rattle.plan.specs.UnwindInfos.{info_bytes}
use Rattle.plan.proofs.Accepted.{Good, Goods, accepted, all_sound}
use Rattle.plan.proofs.Passes.{length-functions_in}
use Rattle.plan.proofs.Sizes.{same_size, few_bytes}
use Rattle.compile.specs.Writables.{Writable}
use Rattle.compile.proofs.Bounds.{info_at_most}
use Rattle.compile.proofs.Laying.{up_fits, code-cons, infos-cons, table-cons, nothing_left}

spelled : (n : ℕ) → le_bytes 4 n ≡ four n
unfolding le_bytes
spelled n = simp div-div-eq-div-mul

-- an entry in three pieces
pub entry_written : (c : Cursor) (begin end info : ℕ) → HasRoom c (entry begin end info) → wrote (wrote (wrote c (le_bytes 4 begin)) (le_bytes 4 end)) (le_bytes 4 info) ≡ wrote c (entry begin end info)
entry_written c begin end info h = rw (spelled begin, spelled end, spelled info)
    (step (four end) (four info) (step (four begin) (four end ++ four info) (rest-begin c (entry begin end info) h) _ refl) _ refl).same

-- what is left to write of each part, where these functions are left
pub record Written (fs : List Function) (st : List ℕ) (rva : ℕ) (c₀ i₀ t₀ c i t : Cursor) (left : List Function) : Type 0 where
  pub good : Goods left
  pub in_code : Rest c₀ (code fs) c (code_from st (4096 + c.at) left)
  pub in_infos : Rest i₀ (infos fs) i (infos left)
  pub in_table : Rest t₀ (table fs) t (table_from (4096 + c.at) (rva + i.at) left)
  pub high : c.at + 2400 * length left ≤ 2400 * 64
  pub few : i.at + 66 * length left ≤ 66 * 64

pub written_none : (p : Text) (st : List ℕ) (rva : ℕ) (c i t : Cursor) → Writable p st rva c.out.now i.out.now t.out.now → c.at ≡ 0 → i.at ≡ 0 → t.at ≡ 0 → Written (functions_of p) st rva c i t c i t (functions_of p)
written_none p st rva c i t w zc zi zt =
    let fs = functions_of p in
    let a = accepted p w.accepted in
    let n = length-functions_in p.counts p.steps p.operations in
    let here : 4096 ≡ 4096 + c.at = omega (arith, zc) in
    let there : info_start fs ≡ rva + i.at = omega (arith, w.placed, zi) in
    record {
      good = a.good;
      in_code = recast (rest-begin c (code fs) (omega (arith, w.code_room, zc))) (ap (λ l. code_from l 4096 fs) (sym w.started) ∙ ap (λ e. code_from st e fs) here);
      in_infos = rest-begin i (infos fs) (omega (arith, w.infos_room, zi));
      in_table = recast (rest-begin t (table fs) (omega (arith, w.table_room, zt))) (ap (λ r. table_from 4096 r fs) there ∙ ap (λ e. table_from e (rva + i.at) fs) here);
      high = omega (arith, zc, n, a.few);
      few = omega (arith, zi, n, a.few);
    }

-- a function that stands: what writing its entry and its info asks for, and what is left then
pub record Stands (fs : List Function) (st : List ℕ) (rva : ℕ) (c₀ i₀ t₀ i t : Cursor) (f : Function) (later : List Function) (from : ℕ) (e : Cursor) : Type 0 where
  pub low : e.at + 2400 * length later ≤ 2400 * 64
  pub entry_room : HasRoom t (entry from (4096 + e.at) (rva + i.at))
  pub info_room : HasRoom i (info_bytes (steps_of f))
  pub on : (t' i' : Cursor) → t' ≡ wrote t (entry from (4096 + e.at) (rva + i.at)) → i' ≡ wrote i (info_bytes (steps_of f)) → Written fs st rva c₀ i₀ t₀ e i' t' later

-- one function: a gap, its code, its entry and its info
module _ {fs : List Function} {st : List ℕ} {rva : ℕ} {c₀ i₀ t₀ c i t : Cursor} {left : List Function} (w : Written fs st rva c₀ i₀ t₀ c i t left) (f : Function) (later : List Function) (cons : left ≡ f ∷ later) where
  pub next_good : Good f
  next_good = (subst Goods cons w.good).0

  pub next_sound : AllSound (steps_of f)
  next_sound = all_sound (frame (steps_of f)) false (steps_of f) next_good.fine

  small : function_size f ≤ 2300
  small = few_bytes f next_good.few_steps next_good.few_operations

  pub places : c.at + 2400 + 2400 * length later ≤ 2400 * 64
  places = omega (arith, w.high, ap length cons)

  pub info_places : i.at + 66 + 66 * length later ≤ 66 * 64
  info_places = omega (arith, w.few, ap length cons)

  module _ (from : ℕ) (eu : from ≡ up 16 (4096 + c.at)) where
    code-next : Rest c₀ (code fs) c (replicate (from - (4096 + c.at)) 204 ++ (function_bytes st from f ++ code_from st (from + function_size f) later))
    code-next =
        let at = 4096 + c.at in
        recast w.in_code
        (ap (code_from st at) cons ∙ code-cons f later st at
        ∙ ap (λ u. replicate (u - at) 204 ++ (function_bytes st u f ++ code_from st (u + function_size f) later)) (sym eu))

    pub gap_room : (from - (4096 + c.at) ≤ 16) × HasRoom c (replicate (from - (4096 + c.at)) 204)
    gap_room = let u = up_fits (4096 + c.at) in (omega (arith, u.1, eu), room _ _ code-next)

    module _ (d : Cursor) (ed : d ≡ wrote c (replicate (from - (4096 + c.at)) 204)) where
      code-body : Rest c₀ (code fs) d (function_bytes st from f ++ code_from st (from + function_size f) later)
      code-body = step _ _ code-next d ed

      pub function_room : HasRoom d (function_bytes st from f)
      function_room = room _ _ code-body

      pub function_low : from + length (function_bytes st from f) + 5 < 2 ^ 32
      function_low = let u = up_fits (4096 + c.at) in omega (arith, same_size f st from, small, u.1, eu, places)

      module _ (e : Cursor) (ee : e ≡ wrote d (function_bytes st from f)) where
        pub ends : 4096 + e.at ≡ from + function_size f
        ends =
            let u = up_fits (4096 + c.at) in
            omega (arith, ap (λ k. k.at) ee, ap (λ k. k.at) ed, length-replicate {A = ℕ} (from - (4096 + c.at)) 204, same_size f st from, eu, u.0)

        code_end : e.at + 2400 * length later ≤ 2400 * 64
        code_end = let u = up_fits (4096 + c.at) in omega (arith, ends, small, u.1, eu, places)

        code-done : Rest c₀ (code fs) e (code_from st (4096 + e.at) later)
        code-done = recast (step _ _ code-body e ee) (ap (λ k. code_from st k later) (sym ends))

        table-next : Rest t₀ (table fs) t (entry from (4096 + e.at) (rva + i.at) ++ table_from (4096 + e.at) (rva + i.at + length (info_bytes (steps_of f))) later)
        table-next =
            let at = 4096 + c.at in
            let info = rva + i.at in
            let after = info + length (info_bytes (steps_of f)) in
            let to_end : up 16 at + function_size f ≡ 4096 + e.at = omega (arith, ends, eu) in
            recast w.in_table
            (ap (table_from at info) cons ∙ table-cons f later at info
            ∙ ap (λ k. entry (up 16 at) k info ++ table_from k after later) to_end
            ∙ ap (λ u. entry u (4096 + e.at) info ++ table_from (4096 + e.at) after later) (sym eu))

        infos-next : Rest i₀ (infos fs) i (info_bytes (steps_of f) ++ infos later)
        infos-next = recast w.in_infos (ap infos cons ∙ infos-cons f later)

        written_on : (t' i' : Cursor) → t' ≡ wrote t (entry from (4096 + e.at) (rva + i.at)) → i' ≡ wrote i (info_bytes (steps_of f)) → Written fs st rva c₀ i₀ t₀ e i' t' later
        written_on t' i' wt wi =
            let moved : rva + i.at + length (info_bytes (steps_of f)) ≡ rva + i'.at = omega (arith, ap (λ k. k.at) wi) in
            record {
              good = (subst Goods cons w.good).1;
              in_code = code-done;
              in_infos = step (info_bytes (steps_of f)) _ infos-next i' wi;
              in_table = recast (step (entry from (4096 + e.at) (rva + i.at)) _ table-next t' wt) (ap (λ r. table_from (4096 + e.at) r later) moved);
              high = code_end;
              few = omega (arith, info_places, ap (λ k. k.at) wi, info_at_most f.steps next_good.few_steps);
            }

        pub stands : Stands fs st rva c₀ i₀ t₀ i t f later from e
        stands = record {
          low = code_end;
          entry_room = room (entry from (4096 + e.at) (rva + i.at)) _ table-next;
          info_room = room (info_bytes (steps_of f)) _ infos-next;
          on = written_on;
        }

-- all functions written
pub written_all : {fs : List Function} {st : List ℕ} {rva : ℕ} {c₀ i₀ t₀ c i t : Cursor} {left : List Function} → Written fs st rva c₀ i₀ t₀ c i t left → left ≡ [] →
    (c ≡ wrote c₀ (code fs)) × (i ≡ wrote i₀ (infos fs)) × (t ≡ wrote t₀ (table fs))
written_all {st = st} {rva = rva} {c = c} {i = i} w none =
    let e = nothing_left st (4096 + c.at) (rva + i.at) in (
      finish (recast w.in_code (ap (code_from st (4096 + c.at)) none ∙ e.1)),
      finish (recast w.in_infos (ap infos none ∙ e.2)),
      finish (recast w.in_table (ap (table_from (4096 + c.at) (rva + i.at)) none ∙ e.3)),
    )
