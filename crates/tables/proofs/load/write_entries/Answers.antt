use Rattle.std.proofs.Common.{◌≡◌, ℕ, ◌+◌, ◌*◌, ◌/◌, ◌<◌, ◌++◌, List, length, drop, arith, inl, refl, ap, ◌∙◌, sym}
use Rattle.std.specs.Iterator.Adapters.{enumerate_source, enumerate_count}
use Rattle.std.proofs.lemmas.List.{length-drop}
use Rattle.std.proofs.lemmas.List.FromFn.{length-map-range_with_len}
use Rattle.tables.specs.Entries.{entry_at, entries_of}
use Rattle.tables.specs.Tables.{entries_left}
use Rattle.tables.proofs.Fill.{below, left_next, filled_none, filled_more, filled_all}
use Rattle.tables.proofs.load.write_entries.Goals as goal

long : (bs : List ℕ) → length (entries_of bs (length bs / 12)) ≡ length bs / 12
long bs = length-map-range_with_len (λ k. entry_at bs (12 * k)) 0 (length bs / 12)

pub loop-k-init : goal.loop-k-init
loop-k-init c =
    let bs = c.args.bytes.now in
    let same = c.into_iter-k-iterator.ensures.into_iter_gives in
    let none : enumerate_count c.into_iter-k-iterator.result ≡ 0 = ap enumerate_count same ∙ c.enumerate-k-items.ensures.count in
    let source = ap enumerate_source same ∙ c.enumerate-k-items.ensures.source in
    let all : entries_left (enumerate_source c.into_iter-k-iterator.result) ≡ entries_of bs (length bs / 12) = ap entries_left source ∙ ap (λ b. entries_of b (length b / 12)) c.new.ensures in
    rw (none, all) record { can = (tt, tt, inl (omega (arith, long bs))); ends = tt; left = refl; filled = filled_none _ _ }

pub bounds-records-k : goal.bounds-records-k
bounds-records-k c =
    let bs = c.args.bytes.now in
    let all = entries_of bs (length bs / 12) in
    let s = c.in-Some.ensures.steps in
    let b : enumerate_count c.loop-k.k-iterator < length all = below all _ _ _ (sym c.loop-k.invariant.left ∙ s.0) in
    omega (arith, long bs, s.1)

pub loop-k-preserved : goal.loop-k-preserved
loop-k-preserved c =
    let bs = c.args.bytes.now in
    let all = entries_of bs (length bs / 12) in
    let k = enumerate_count c.loop-k.k-iterator in
    let s = c.in-Some.ensures.steps in
    let left = sym c.loop-k.invariant.left ∙ s.0 in
    let b : k < length all = below all k _ _ left in
    let rest : entries_left (enumerate_source c.next.new.self) ≡ drop (k + 1) all = sym (left_next all k _ _ left) in
    rw (s.1, s.2, rest)
    record {
      can = (tt, tt, inl (omega (arith, long bs, length-drop (k + 1) all)));
      ends = tt;
      left = refl;
      filled = filled_more all _ _ k (omega (arith, long bs)) c.loop-k.invariant.filled _ _ left;
    }

pub returns : goal.returns
returns c =
    let bs = c.args.bytes.now in
    let all = entries_of bs (length bs / 12) in
    let none = sym c.loop-k.invariant.left ∙ c.in-None.ensures.steps.0.0 in
    filled_all all c.args.records.now _ _ c.loop-k.invariant.filled none ∙ ap (λ n. all ++ drop n c.args.records.now) (long bs)
