use Rattle.std.proofs.Common.{◌≡◌, ℕ, ◌-◌, ◌<◌, ◌≤◌, Bool, true, ◌⊎◌, List, ◌++◌, length, get_or, Some, Option, inl, sym, ap, ◌∙◌, arith, rules}
use Rattle.std.proofs.lemmas.Bool.Decides.{nat_tests}
use Rattle.x64.specs.Decodings.{rexed, ending, plain, upper_plain, decoded}
use Rattle.x64.specs.Encodings.{encode_as, well_formed}
use Rattle.x64.specs.Laws.{Form}
use Rattle.x64.specs.declared.instruction.Instruction.{Instruction}
use Rattle.x64.specs.declared.instruction.Instruction.TheVariants.{Call}
use Rattle.x64.proofs.Decoding.{by_call, by_upper, by_plain, by_rex}
use Rattle.x64.proofs.Laws.{decodes_back}
use Rattle.x64.proofs.decode.decode.Goals as goal

-- the clauses, from what the answer is
both : (bs : List ℕ) (r : Option (Instruction × ℕ)) → r ≡ decoded bs → record { value : r ≡ decoded bs; back : (i : Instruction) (wide : Bool) (rest : List ℕ) → well_formed i ≡ true → Form wide i → bs ≡ encode_as wide i ++ rest → r ≡ Some (i, length (encode_as wide i)) }
both bs r e = record { value = e; back = λ i wide rest w f is. e ∙ ap decoded is ∙ decodes_back i wide rest w f }

pub returns-in_err-b : goal.returns-in_err-b
returns-in_err-b c =
    let none : get_or c.args.bytes.now 0 0 ≡ 0 = grind (arith, nat_tests) in
    both c.args.bytes.now _ (c.from_residual.ensures ∙ sym (by_plain c.args.bytes.now (λ e. absurd (omega arith)) (λ e. absurd (omega arith)) (inl (omega arith)) ∙ ap (λ b. ending (plain b) 1) none))

pub returns-in_err-get-in-65 : goal.returns-in_err-get-in-65
returns-in_err-get-in-65 c =
    let here : get_or c.args.bytes.now 0 0 ≡ 65 = grind (arith, nat_tests) in
    let none : get_or c.args.bytes.now 1 0 ≡ 0 = grind (arith, nat_tests) in
    both c.args.bytes.now _ (c.from_residual-in_err-get-in-65.ensures ∙ sym (by_upper c.args.bytes.now here ∙ ap (λ b. ending (upper_plain b) 2) none))

pub returns-in-232 : goal.returns-in-232
returns-in-232 c =
    let here : get_or c.args.bytes.now 0 0 ≡ c.in_ok-b.field-0.now = search rules in
    both c.args.bytes.now _ (c.with_displacement.ensures (λ d. Some (Call d)) (λ d i p. search rules) ∙ sym (by_call c.args.bytes.now (here ∙ c.in-232.is)))

pub returns-in_ok-get-in-65 : goal.returns-in_ok-get-in-65
returns-in_ok-get-in-65 c =
    let here : get_or c.args.bytes.now 0 0 ≡ c.in_ok-b.field-0.now = search rules in
    let next : c.in_ok-get-in-65.field-0.now ≡ get_or c.args.bytes.now 1 0 = search rules in
    let is : c.map.result ≡ ending c.push_or_pop.result 2 = search rules in
    both c.args.bytes.now _ (is ∙ ap (λ i. ending i 2) (c.push_or_pop.ensures ∙ ap upper_plain next) ∙ sym (by_upper c.args.bytes.now (here ∙ c.in-65.is)))

pub returns-in-72-to-79 : goal.returns-in-72-to-79
returns-in-72-to-79 c =
    let bs = c.args.bytes.now in
    let here : c.in_ok-b.field-0.now ≡ get_or bs 0 0 = search rules in
    let r = c.in-72-to-79 in
    both bs _ (c.decode_rex.ensures ∙ ap (λ b. rexed (b - 72) bs) here ∙ sym (by_rex bs (omega arith) (omega arith)))

pub returns-in_default : goal.returns-in_default
returns-in_default c =
    let bs = c.args.bytes.now in
    let here : c.in_ok-b.field-0.now ≡ get_or bs 0 0 = search rules in
    let is : c.map-in_default.result ≡ ending c.plain_form.result 1 = search rules in
    let out : (get_or bs 0 0 < 72) ⊎ (80 ≤ get_or bs 0 0) = grind arith in
    both bs _ (is ∙ ap (λ i. ending i 1) (c.plain_form.ensures ∙ ap plain here)
    ∙ sym (by_plain bs (λ e. absurd (omega arith)) (λ e. absurd (omega arith)) out))
