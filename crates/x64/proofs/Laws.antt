-- The laws between encoding and decoding.
use Rattle.std.proofs.Common.{◌≡◌, ℕ, ◌+◌, ◌-◌, ◌*◌, ◌/◌, ◌%◌, ◌^◌, ◌<◌, ◌≤◌, Bool, true, false, cond, not, ◌&&◌, eqb, ltb, ◌≢◌, List, [], ◌∷◌, ◌++◌, length, Some, None, Option, sym, refl, ap, ◌∙◌, inr, ⊎_elim, arith}
use Rattle.std.proofs.lemmas.Bool.{and_parts, ltb-true, le-leb, lt-ltb, le-ltb, ne_eqb, eqb-false, not-true, cases_lt, cond-true, cond-false, true≢false}
use Rattle.x64.specs.Decodings.{ending, formed, push_or_pop, plain, rsp_form, set_form, set_in, at_rsp_form, at_frame_form, decoded}
use Rattle.x64.specs.Encodings.{high, short, four, spelled, nameable, addressing, encode_as, one_register, on_rsp, at_rsp, at_frame}
use Rattle.x64.specs.Laws.{DecodesBack, EncodesApart}
use Rattle.x64.specs.declared.instruction.Instruction.{Instruction}
use Rattle.x64.specs.declared.instruction.Instruction.TheVariants.{Push, Pop, SubRsp, AddRsp, StoreAtRsp, LoadAtRsp, LeaAtRsp, StoreAtFrame, LoadAtFrame, LeaRspAtFrame, Set, Nop, Call, Ret}
use Rattle.x64.proofs.Back.{displacement, high_le, halves, rsp_access, frame_access}
use Rattle.x64.proofs.Decoding.{by_call, by_upper, by_plain, by_rex}

-- what a register that may be named is
named : (r : ℕ) → nameable r ≡ true → (r < 16) × (eqb r 4 ≡ false)
named r w = let p = and_parts (ltb r 16) (not (eqb r 4)) w in (ltb-true r 16 p.0, not-true (eqb r 4) p.1)

based : (q : ℕ) → addressing q ≡ true → (q < 16) × (q % 8 ≢ 4)
based q w = let p = and_parts (ltb q 16) (not (eqb (q % 8) 4)) w in (ltb-true q 16 p.0, eqb-false (q % 8) 4 (not-true (eqb (q % 8) 4) p.1))

push_is : (first b : ℕ) → 80 ≤ b → b < 88 → push_or_pop first b ≡ Some (Push (first + (b - 80)))
push_is first b l h = rw (le-leb 80 b l, lt-ltb b 88 h)

pop_is : (first b : ℕ) → 88 ≤ b → b < 96 → push_or_pop first b ≡ Some (Pop (first + (b - 88)))
pop_is first b l h = rw (le-leb 80 b (omega arith), le-ltb b 88 l, le-leb 88 b l, lt-ltb b 96 h)

-- a byte of a push or pop of a lower register, but for RSP
plain_is : (b : ℕ) → b < 96 → b ≢ 84 → b ≢ 92 → plain b ≡ push_or_pop 0 b
plain_is b h m n = rw (ne_eqb b 144 (λ e. absurd (omega arith)), ne_eqb b 195 (λ e. absurd (omega arith)), ne_eqb b 84 m, ne_eqb b 92 n)

-- push or pop: an operation whose eight bytes read as one kind of instruction
module _ (op : ℕ) (make : ℕ → Instruction) (low_end : 80 ≤ op) (high_end : op ≤ 88)
    (rsp : (b : ℕ) → op ≤ b → b < op + 8 → b ≢ op + 4 → (b ≢ 84) × (b ≢ 92))
    (made : (first b : ℕ) → op ≤ b → b < op + 8 → push_or_pop first b ≡ Some (make (first + (b - op))))
    (r : ℕ) (rest : List ℕ) (w : nameable r ≡ true) where
  lower : (b : ℕ) → op ≤ b → b < op + 8 → b ≢ op + 4 → plain b ≡ Some (make (0 + (b - op)))
  lower b l h n = plain_is b (omega arith) (rsp b l h n).0 (rsp b l h n).1 ∙ made 0 b l h

  small : r < 8 → decoded (one_register op r ++ rest) ≡ Some (make r, length (one_register op r))
  small h =
      let n : r ≢ 4 = eqb-false r 4 (named r w).1 in
      let b : ℕ = op + r % 8 in
      let is : 0 + (b - op) ≡ r = omega arith in
      let shape : one_register op r ≡ b ∷ [] = cond-true _ _ _ (lt-ltb r 8 h) in
      ap (λ l. decoded (l ++ rest)) shape ∙ by_plain (b ∷ rest) (λ e. absurd (omega arith)) (λ e. absurd (omega arith)) (inr (omega arith))
      ∙ ap (λ i. ending i 1) (lower b (omega arith) (omega arith) (λ e. n (omega arith))) ∙ ap (λ q. Some (make q, 1)) is ∙ ap (λ l. Some (make r, length l)) (sym shape)

  large : 8 ≤ r → decoded (one_register op r ++ rest) ≡ Some (make r, length (one_register op r))
  large h =
      let l : r < 16 = (named r w).0 in
      let b : ℕ = op + r % 8 in
      let is : 8 + (b - op) ≡ r = omega arith in
      let shape : one_register op r ≡ 65 ∷ b ∷ [] = cond-false _ _ _ (le-ltb r 8 h) in
      ap (λ l. decoded (l ++ rest)) shape ∙ by_upper (65 ∷ b ∷ rest) refl
      ∙ ap (λ i. ending i 2) (made 8 b (omega arith) (omega arith)) ∙ ap (λ q. Some (make q, 2)) is ∙ ap (λ l. Some (make r, length l)) (sym shape)

  register_back : decoded (one_register op r ++ rest) ≡ Some (make r, length (one_register op r))
  register_back = ⊎_elim small large (cases_lt r 8)

-- add or sub RSP
module _ (op d : ℕ) (make : ℕ → Instruction) (is : rsp_form op d ≡ Some (make d)) (rest : List ℕ) (h : d < 2 ^ 32) where
  rsp_back : (wide : Bool) → (wide ≡ false → short d ≡ true) → decoded (on_rsp op wide d ++ rest) ≡ Some (make d, length (on_rsp op wide d))
  rsp_back true f =
      by_rex (on_rsp op true d ++ rest) (omega arith) (omega arith) ∙ ap (λ o. formed o (rsp_form op)) (displacement true (72 ∷ 129 ∷ op ∷ []) d rest h f) ∙ ap (λ i. ending i 7) is
  rsp_back false f =
      by_rex (on_rsp op false d ++ rest) (omega arith) (omega arith) ∙ ap (λ o. formed o (rsp_form op)) (displacement false (72 ∷ 131 ∷ op ∷ []) d rest h f) ∙ ap (λ i. ending i 4) is

-- set
set_back : (r d : ℕ) (rest : List ℕ) → nameable r ≡ true → d < 2 ^ 32 → decoded (encode_as true (Set r d) ++ rest) ≡ Some (Set r d, 7)
set_back r d rest w h =
    let l : r < 16 = (named r w).0 in
    let hr : ℕ = high r in
    let one : hr ≤ 1 = high_le r in
    let b0 : ℕ = 72 + hr in
    let m : ℕ = 192 + r % 8 in
    let rex : ℕ = b0 - 72 in
    let bs : List ℕ = b0 ∷ 199 ∷ m ∷ (four d ++ rest) in
    let no : rex / 2 % 2 ≡ 0 = omega arith in
    let is : m - 192 + 8 * rex ≡ r = omega (arith, halves r l) in
    let set : set_in rex bs ≡ Some (Set r d, 7) = rw (le-leb 192 m (omega arith), lt-ltb m 200 (omega arith), lt-ltb rex 2 (omega arith), is) (ap (λ o. formed o (set_form r)) (displacement true (b0 ∷ 199 ∷ m ∷ []) d rest h (λ e. absurd (true≢false e))) ∙ ap (λ t. ending (cond t None (Some (Set r d))) 7) (named r w).1) in
    by_rex bs (omega arith) (omega arith) ∙ rw no set

call_back : (d : ℕ) (rest : List ℕ) → d < 2 ^ 32 → decoded (encode_as true (Call d) ++ rest) ≡ Some (Call d, 5)
call_back d rest h = by_call (232 ∷ (four d ++ rest)) refl ∙ ap (λ o. formed o (λ x. Some (Call x))) (displacement true (232 ∷ []) d rest h (λ e. absurd (true≢false e)))

-- accesses at RSP and at a frame register
at_rsp_back : (op r d : ℕ) (wide : Bool) (rest : List ℕ) (i : Instruction) → eqb op 129 ≡ false → eqb op 131 ≡ false → eqb op 199 ≡ false → (eqb r 4 ≡ false → at_rsp_form op r d ≡ Some i) → nameable r ≡ true → d < 2 ^ 32 → (wide ≡ false → short d ≡ true) →
    decoded (at_rsp op wide r d ++ rest) ≡ Some (i, length (at_rsp op wide r d))
at_rsp_back op r d wide rest i a b c is w h f =
    let long : 4 + length (spelled wide d) ≡ length (at_rsp op wide r d) = omega arith in
    rsp_access op d wide rest a b c h f r (named r w).0 ∙ ap (λ x. ending x (4 + length (spelled wide d))) (is (named r w).1) ∙ ap (λ n. Some (i, n)) long

at_frame_back : (op r q d : ℕ) (wide : Bool) (rest : List ℕ) (i : Instruction) → eqb op 129 ≡ false → eqb op 131 ≡ false → eqb op 199 ≡ false → at_frame_form op r q d ≡ Some i → r < 16 → addressing q ≡ true → d < 2 ^ 32 → (wide ≡ false → short d ≡ true) →
    decoded (at_frame op wide r q d ++ rest) ≡ Some (i, length (at_frame op wide r q d))
at_frame_back op r q d wide rest i a b c is l w h f =
    let long : 3 + length (spelled wide d) ≡ length (at_frame op wide r q d) = omega arith in
    frame_access op d wide rest a b c h f r q l (based q w).0 (based q w).1 ∙ ap (λ x. ending x (3 + length (spelled wide d))) is ∙ ap (λ n. Some (i, n)) long

pub decodes_back : DecodesBack
decodes_back (Push r) wide rest w f = register_back 80 Push (omega arith) (omega arith) (λ b l h n. (n, λ e. absurd (omega arith))) push_is r rest w
decodes_back (Pop r) wide rest w f = register_back 88 Pop (omega arith) (omega arith) (λ b l h n. (λ e. absurd (omega arith), n)) pop_is r rest w
decodes_back (SubRsp d) wide rest w f = rsp_back 236 d SubRsp refl rest (ltb-true d (2 ^ 32) w) wide f
decodes_back (AddRsp d) wide rest w f = rsp_back 196 d AddRsp refl rest (ltb-true d (2 ^ 32) w) wide f
decodes_back (StoreAtRsp r d) wide rest w f = let p = and_parts (nameable r) (ltb d (2 ^ 32)) w in at_rsp_back 137 r d wide rest (StoreAtRsp r d) refl refl refl (λ e. rw e) p.0 (ltb-true d (2 ^ 32) p.1) f
decodes_back (LoadAtRsp r d) wide rest w f = let p = and_parts (nameable r) (ltb d (2 ^ 32)) w in at_rsp_back 139 r d wide rest (LoadAtRsp r d) refl refl refl (λ e. rw e) p.0 (ltb-true d (2 ^ 32) p.1) f
decodes_back (LeaAtRsp r d) wide rest w f = let p = and_parts (nameable r) (ltb d (2 ^ 32)) w in at_rsp_back 141 r d wide rest (LeaAtRsp r d) refl refl refl (λ e. rw e) p.0 (ltb-true d (2 ^ 32) p.1) f
decodes_back (StoreAtFrame r q d) wide rest w f =
    let p = and_parts (nameable r) (addressing q && ltb d (2 ^ 32)) w in
    let o = and_parts (addressing q) (ltb d (2 ^ 32)) p.1 in
    at_frame_back 137 r q d wide rest (StoreAtFrame r q d) refl refl refl (rw (named r p.0).1) (named r p.0).0 o.0 (ltb-true d (2 ^ 32) o.1) f
decodes_back (LoadAtFrame r q d) wide rest w f =
    let p = and_parts (nameable r) (addressing q && ltb d (2 ^ 32)) w in
    let o = and_parts (addressing q) (ltb d (2 ^ 32)) p.1 in
    at_frame_back 139 r q d wide rest (LoadAtFrame r q d) refl refl refl (rw (named r p.0).1) (named r p.0).0 o.0 (ltb-true d (2 ^ 32) o.1) f
decodes_back (LeaRspAtFrame q d) wide rest w f =
    let o = and_parts (addressing q) (ltb d (2 ^ 32)) w in
    at_frame_back 141 4 q d wide rest (LeaRspAtFrame q d) refl refl refl refl (omega arith) o.0 (ltb-true d (2 ^ 32) o.1) f
decodes_back (Set r d) wide rest w f = let p = and_parts (nameable r) (ltb d (2 ^ 32)) w in set_back r d rest p.0 (ltb-true d (2 ^ 32) p.1)
decodes_back Nop wide rest w f = by_plain (144 ∷ rest) (λ e. absurd (omega arith)) (λ e. absurd (omega arith)) (inr (omega arith))
decodes_back (Call d) wide rest w f = call_back d rest (ltb-true d (2 ^ 32) w)
decodes_back Ret wide rest w f = by_plain (195 ∷ rest) (λ e. absurd (omega arith)) (λ e. absurd (omega arith)) (inr (omega arith))

abbrev first_of : Option (Instruction × ℕ) → Instruction
first_of None = Nop
first_of (Some p) = p.0

pub encodes_apart : EncodesApart
encodes_apart i j wide wi wj fi fj e = ap first_of (sym (decodes_back i wide [] wi fi) ∙ ap (λ l. decoded (l ++ [])) e ∙ decodes_back j wide [] wj fj)
