use Rattle.std.proofs.Common.{◌≡◌, ℕ, ◌+◌, ◌<◌, ◌≤◌, cond, true, ltb, List, [], ◌++◌, map, length, take, drop, set, is_ok, Ok, Err, Result, arith, rules, refl, ap, ◌∙◌, sym, subst}
use Rattle.std.specs.Result.{result_map_both}
use Rattle.std.proofs.lemmas.List.{length-drop, length-append, length-take-le}
use Rattle.std.proofs.lemmas.Bool.{cond-true, lt-ltb, false≢true}
use Rattle.records.specs.Refusals.{list_number}
use Rattle.records.specs.declared.list.NoRecord.{NoRecord}
use Rattle.tables.proofs.Fill.{Filled, below, left_next, filled_none, filled_more, filled_all}
use Rattle.infos.specs.Codings.{codes_left}
use Rattle.infos.specs.Listings.{listed}
use Rattle.infos.specs.Sequences.{gathered}
use Rattle.infos.proofs.Outcomes.{all_good, good_none, next_ok, next_is}
use Rattle.infos.proofs.listing.write_codes.Goals as goal

pub loop-code-init : goal.loop-code-init
loop-code-init c =
    let all = listed (gathered (codes_left c.args.codes)) in
    let first = c.new-list.result.records.now in
    let len : c.new-list.result.len ≡ 0 = c.new-list.ensures.len in
    let source : codes_left c.into_iter-code-iterator.result ≡ codes_left c.args.codes = ap codes_left c.into_iter-code-iterator.ensures.into_iter_gives in
    record {
      can = tt;
      ends = tt;
      left = source ∙ all_good (codes_left c.args.codes) c.requires.0 ∙ ap (λ n. map Ok (drop n all)) (sym len);
      filled = subst (λ n. Filled all first first n) (sym len) (filled_none all first);
      lender = refl;
    }

pub unwrap-requires : goal.unwrap-requires
unwrap-requires c = next_ok c.loop-code.code-iterator _ _ _ c.loop-code.invariant.left c.in-Some.ensures.steps

-- a push that is not refused
taken_by : (n m : ℕ) (r : Result (Unit {0}) NoRecord) → result_map_both (λ x. x) list_number r ≡ cond (ltb n m) (Ok tt) (Err 22) → n < m → is_ok r ≡ true
taken_by n m (Ok x) e h = refl
taken_by n m (Err d) e h = absurd (false≢true (ap is_ok (e ∙ cond-true (ltb n m) _ _ (lt-ltb n m h))))

filled_length : {X : Type 0} (all before records : List X) (k : ℕ) → length all ≤ length before → Filled all before records k → length records ≡ length before
filled_length all before records k room f = ap length f.written ∙ length-append (take k all) (drop k before) ∙ omega (arith, length-take-le k all f.within, length-drop k before, f.within)

pub loop-code-preserved : goal.loop-code-preserved
loop-code-preserved c =
    let all = listed (gathered (codes_left c.args.codes)) in
    let first = c.new-list.result.records.now in
    let list = c.loop-code.list in
    let inv = c.loop-code.invariant in
    let f = next_is c.loop-code.code-iterator (drop list.len all) _ _ inv.left c.in-Some.ensures.steps _ c.unwrap.ensures in
    let b : list.len < length all = below all list.len _ _ f.1 in
    let room : length all ≤ length first = omega (arith, c.requires.1, ap length c.new-list.ensures.records) in
    let size : length list.records.now ≡ length first = filled_length all first list.records.now list.len room inv.filled in
    let taken : is_ok c.push.result ≡ true = taken_by list.len (length list.records.now) c.push.result c.push.ensures.answer (omega arith) in
    let len : c.push.new.self.len ≡ list.len + 1 = c.push.ensures.len ∙ ap (λ y. cond y (list.len + 1) list.len) taken in
    let put : c.push.new.self.records.now ≡ set list.records.now list.len c.unwrap.result = c.push.ensures.records ∙ ap (λ y. cond y (set list.records.now list.len c.unwrap.result) list.records.now) taken in
    rw (len, put)
    record {
      can = tt;
      ends = tt;
      left = f.2 ∙ ap (map Ok) (sym (left_next all list.len _ _ f.1));
      filled = filled_more all first list.records.now list.len room inv.filled _ _ f.1;
      lender = c.push.ensures.lender ∙ inv.lender;
    }

pub returns : goal.returns
returns c =
    let all = listed (gathered (codes_left c.args.codes)) in
    let inv = c.loop-code.invariant in
    let none : drop c.loop-code.list.len all ≡ [] = good_none _ (sym inv.left ∙ c.in-None.ensures.steps.0) in
    let written : c.loop-code.list.records.now ≡ all ++ drop (length all) c.args.records.now =
    filled_all all c.new-list.result.records.now c.loop-code.list.records.now c.loop-code.list.len inv.filled none ∙ ap (λ l. all ++ drop (length all) l) c.new-list.ensures.records in
    let named = inv.lender ∙ c.new-list.ensures.lender in
    search rules
