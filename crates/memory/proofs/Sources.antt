-- What a sparse dump shows, by the range that a search finds; and that its bytes lie in the run.
use Rattle.std.proofs.Common.{◌≡◌, ℕ, ◌+◌, ◌-◌, ◌<◌, ◌≤◌, Bool, true, false, cond, ltb, leb, List, [], ◌∷◌, length, get_or, is_ok, Some, None, Ok, Err, Option, sym, refl, ap, ◌∙◌, arith}
use Rattle.std.specs.List.{list_all}
use Rattle.std.proofs.lemmas.List.Elements.{All-get_or}
use Rattle.std.proofs.lemmas.List.Sums.{AllPass-from_list_all}
use Rattle.std.proofs.lemmas.Bool.{and_parts, leb-true, ltb-true, true≢false}
use Rattle.records.specs.Spans.{holds, ascending, onward, found}
use Rattle.memory.specs.Byte.{Byte, shown, lacking}
use Rattle.memory.specs.Sources.{within, reaches, range_first, range_last, source_verdict, sparse_map}
use Rattle.memory.specs.declared.range.DumpRange.{DumpRange}

-- the byte of the range with this index
abbrev pub byte_of : List DumpRange → List ℕ → ℕ → Option ℕ → Byte
byte_of rs bytes at None = lacking
byte_of rs bytes at (Some i) = let r = get_or rs i (record { start = record { 0 = 0 }; length = 0; place = 0 }) in shown (get_or bytes (r.place + (at - r.start.0)) 0)

-- one range more in front
shifted : (r : DumpRange) (rs : List DumpRange) (bytes : List ℕ) (at : ℕ) (o : Option ℕ) → byte_of rs bytes at o ≡ byte_of (r ∷ rs) bytes at (onward o)
shifted r rs bytes at None = refl
shifted r rs bytes at (Some i) = refl

first_or : (r : DumpRange) (rs : List DumpRange) (bytes : List ℕ) (at : ℕ) (b : Bool) (o : Option ℕ) → cond b (shown (get_or bytes (r.place + (at - r.start.0)) 0)) (byte_of rs bytes at o) ≡ byte_of (r ∷ rs) bytes at (cond b (Some 0) (onward o))
first_or r rs bytes at true o = refl
first_or r rs bytes at false o = shifted r rs bytes at o

pub shown_by_found : (rs : List DumpRange) (bytes : List ℕ) (at : ℕ) → sparse_map rs bytes at ≡ byte_of rs bytes at (found range_first range_last at rs)
shown_by_found [] bytes at = refl
shown_by_found (r ∷ rs) bytes at =
    let b : Bool = holds range_first range_last at r in
    ap (cond b (shown (get_or bytes (r.place + (at - r.start.0)) 0))) (shown_by_found rs bytes at) ∙ first_or r rs bytes at b (found range_first range_last at rs)

-- what was taken passed both checks
taken_by : (a b : Bool) → is_ok {T = Unit {0}} {E = ℕ} (cond a (cond b (Ok tt) (Err 21)) (Err 20)) ≡ true → (a ≡ true) × (b ≡ true)
taken_by true true h = (refl, refl)
taken_by true false h = absurd (true≢false (sym h))
taken_by false b h = absurd (true≢false (sym h))

module _ (rs : List DumpRange) (size : ℕ) (taken : is_ok (source_verdict rs size) ≡ true) where
  pub in_order : ascending range_first range_last rs ≡ true
  in_order = (and_parts (list_all reaches rs) (ascending range_first range_last rs) (taken_by (list_all (within size) rs) _ taken).1).1

  pub in_run : (i at : ℕ) (d : DumpRange) → i < length rs → range_first (get_or rs i d) ≤ at → at ≤ range_last (get_or rs i d) → (get_or rs i d).place + (at - (get_or rs i d).start.0) < size
  in_run i at d h l m =
      let r : DumpRange = get_or rs i d in
      let p = and_parts (ltb 0 r.length) (leb (r.place + r.length) size) (All-get_or (λ x. within size x ≡ true) rs i d h (AllPass-from_list_all (within size) rs (taken_by (list_all (within size) rs) _ taken).0)) in
      omega (arith, ltb-true 0 r.length p.0, leb-true (r.place + r.length) size p.1)
