-- Bytes written one piece after another are written as one, and what is still to be written on the way.
use Rattle.std.proofs.Common.{◌≡◌, ℕ, ◌+◌, ◌-◌, ◌≤◌, List, [], ◌++◌, length, take, drop, sym, refl, ap, ◌∙◌, subst, add-zero, arith}
use Rattle.std.proofs.lemmas.List.{length-append, length-take-le, length-drop, drop-drop, drop_at, take_at, append_assoc, take-append-drop}
use Rattle.layout.specs.Words.{overwritten}
use Rattle.layout.specs.Cursors.{HasRoom, wrote}
use Rattle.layout.specs.declared.cursor.Cursor.{Cursor}

pub length-overwritten : (d : List ℕ) (at : ℕ) (x : List ℕ) → at + length x ≤ length d → length (overwritten d at x) ≡ length d
length-overwritten d at x h =
    let front : length (take at d) ≡ at = length-take-le at d (omega arith) in
    let back : length (drop (at + length x) d) ≡ length d - (at + length x) = length-drop (at + length x) d in
    let a = length-append (take at d) (x ++ drop (at + length x) d) in
    let b = length-append x (drop (at + length x) d) in
    omega (arith, a, b, front, back)

-- two pieces, one right after the other, are one
pub two_pieces : (d : List ℕ) (at : ℕ) (x y : List ℕ) → at + length x ≤ length d → overwritten (overwritten d at x) (at + length x) y ≡ overwritten d at (x ++ y)
two_pieces d at x y h =
    let front : length (take at d) ≡ at = length-take-le at d (omega arith) in
    let head : length (take at d ++ x) ≡ at + length x = length-append (take at d) x ∙ ap (λ n. n + length x) front in
    let whole : overwritten d at x ≡ (take at d ++ x) ++ drop (at + length x) d = sym (append_assoc (take at d) x _) in
    let t : take (at + length x) (overwritten d at x) ≡ take at d ++ x = ap (take (at + length x)) whole ∙ take_at (take at d ++ x) _ (at + length x) head in
    let n : length (x ++ y) ≡ length x + length y = length-append x y in
    let r : drop (at + length x + length y) (overwritten d at x) ≡ drop (at + length (x ++ y)) d =
    sym (drop-drop (length y) (at + length x) (overwritten d at x))
    ∙ ap (λ l. drop (length y) (drop (at + length x) l)) whole
    ∙ ap (drop (length y)) (drop_at (take at d ++ x) _ (at + length x) head)
    ∙ drop-drop (length y) (at + length x) d
    ∙ ap (λ k. drop k d) (omega (arith, n)) in
    ap (λ l. l ++ (y ++ drop (at + length x + length y) (overwritten d at x))) t
    ∙ ap (λ l. (take at d ++ x) ++ (y ++ l)) r
    ∙ append_assoc (take at d) x _
    ∙ ap (λ l. take at d ++ l) (sym (append_assoc x y _))

pub nothing : (d : List ℕ) (at : ℕ) → overwritten d at [] ≡ d
nothing d at = ap (λ k. take at d ++ drop k d) (add-zero at) ∙ take-append-drop at d

-- the cursor over the same slice, with these bytes in it and at this place
abbrev at_with : Cursor → List ℕ → ℕ → Cursor
at_with c bs at = record { out = record { ref_ptr = c.out.ref_ptr; ghost_name = c.out.ghost_name; now = bs }; at = at }

pub wrote-append : (c : Cursor) (x y : List ℕ) → HasRoom c x → wrote (wrote c x) y ≡ wrote c (x ++ y)
wrote-append c x y h =
    let far : c.at + length x + length y ≡ c.at + length (x ++ y) = omega (arith, length-append x y) in
    ap (λ bs. at_with c bs (c.at + length x + length y)) (two_pieces c.out.now c.at x y h) ∙ ap (at_with c (overwritten c.out.now c.at (x ++ y))) far

pub wrote-none : (c : Cursor) → wrote c [] ≡ c
wrote-none c = ap (λ bs. at_with c bs (c.at + 0)) (nothing c.out.now c.at) ∙ ap (at_with c c.out.now) (add-zero c.at)

pub room-first : (c : Cursor) (x y : List ℕ) → HasRoom c (x ++ y) → HasRoom c x
room-first c x y h = omega (arith, length-append x y)

pub room-rest : (c : Cursor) (x y : List ℕ) → HasRoom c (x ++ y) → HasRoom (wrote c x) y
room-rest c x y h = omega (arith, length-append x y, length-overwritten c.out.now c.at x (room-first c x y h))

-- the rest still to be written leaves what the whole leaves over the cursor at the start
pub record Rest (from : Cursor) (whole : List ℕ) (c : Cursor) (rest : List ℕ) : Type 0 where
  pub room : HasRoom c rest
  pub same : wrote c rest ≡ wrote from whole

pub begin : (c : Cursor) (whole : List ℕ) → HasRoom c whole → Rest c whole c whole
begin c whole h = record { room = h; same = refl }

-- the same with the rest in another form
pub recast : {from : Cursor} {whole : List ℕ} {c : Cursor} {x y : List ℕ} → Rest from whole c x → x ≡ y → Rest from whole c y
recast {c = c} r e = record { room = omega (arith, r.room, ap length e); same = ap (wrote c) (sym e) ∙ r.same }

-- after the first piece of the rest
pub step : {from : Cursor} {whole : List ℕ} {c : Cursor} (x y : List ℕ) → Rest from whole c (x ++ y) → (d : Cursor) → d ≡ wrote c x → Rest from whole d y
step {from = from} {whole = whole} {c = c} x y r d e =
    let there : Rest from whole (wrote c x) y = record { room = room-rest c x y r.room; same = wrote-append c x y (room-first c x y r.room) ∙ r.same } in
    subst (λ k. Rest from whole k y) (sym e) there

pub room : {from : Cursor} {whole : List ℕ} {c : Cursor} (x y : List ℕ) → Rest from whole c (x ++ y) → HasRoom c x
room {c = c} x y r = room-first c x y r.room

-- with nothing left, all is written
pub finish : {from : Cursor} {whole : List ℕ} {c : Cursor} → Rest from whole c [] → c ≡ wrote from whole
finish {c = c} r = sym (wrote-none c) ∙ r.same
