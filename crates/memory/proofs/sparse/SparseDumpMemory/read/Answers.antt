use Rattle.std.proofs.Common.{◌≡◌, ℕ, true, length, Some, None, Option, sym, refl, ap, ◌∙◌, arith}
use Rattle.layout.specs.declared.address.Address.{Address}
use Rattle.records.specs.Spans.{ascending, found}
use Rattle.memory.specs.Reads.{answer}
use Rattle.memory.specs.Sources.{range_first, range_last, sparse_map}
use Rattle.memory.specs.declared.range.DumpRange.{DumpRange}
use Rattle.memory.specs.declared.sparse.SparseDump.{SparseDump}
use Rattle.memory.proofs.Sources.{byte_of, shown_by_found, in_order, in_run}
use Rattle.memory.proofs.sparse.SparseDumpMemory.read.Goals as goal

-- what a search that answered o tells of the byte shown
told : (s : SparseDump) (at : Address) (o : Option ℕ) → (ascending range_first range_last s.ranges.now ≡ true → o ≡ found range_first range_last at.0 s.ranges.now) → answer (sparse_map s.ranges.now s.bytes.now at.0) at ≡ answer (byte_of s.ranges.now s.bytes.now at.0 o) at
told s at o finds =
    let rs = s.ranges.now in
    let bytes = s.bytes.now in
    let f = finds (in_order rs (length bytes) s.ok) in
    ap (λ b. answer b at) (shown_by_found rs bytes at.0 ∙ ap (byte_of rs bytes at.0) (sym f))

pub overflow_add-result : goal.overflow_add-result
overflow_add-result c =
    let s = c.args.self.now in
    let f = c.in-Some.ensures.inside in
    let d : DumpRange = record { start = record { 0 = 0 }; length = 0; place = 0 } in
    omega (arith, in_run s.ranges.now (length s.bytes.now) s.ok c.in-Some.i c.args.at.0 d f.0 (f.1 d).0 (f.1 d).1)

pub bounds-self-range : goal.bounds-self-range
bounds-self-range c =
    let s = c.args.self.now in
    let f = c.in-Some.ensures.inside in
    let d : DumpRange = record { start = record { 0 = 0 }; length = 0; place = 0 } in
    in_run s.ranges.now (length s.bytes.now) s.ok c.in-Some.i c.args.at.0 d f.0 (f.1 d).0 (f.1 d).1

pub returns : goal.returns
returns c = record { answer = sym (told c.args.self.now c.args.at (Some c.in-Some.i) c.in-Some.ensures.finds); same = refl }

pub returns-in_default : goal.returns-in_default
returns-in_default c = record { answer = sym (told c.args.self.now c.args.at None (λ a. sym c.in_default.is ∙ c.find.ensures.finds a)); same = refl }
