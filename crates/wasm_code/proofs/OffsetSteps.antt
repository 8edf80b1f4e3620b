-- This file proves the laws of the offsets at which the visitor visits a body.
use Rattle.wasm_base.proofs.Words.{◌≡◌, ℕ, ◌<◌, ◌≤◌, List, [], ◌∷◌, ◌++◌, length, take, drop, refl, sym, ap, ap₂, ◌∙◌, append_assoc, append-nil, arith, length-drop, length-take-le, take-append-drop}
use Rattle.wasm_base.proofs.Words.{take_at, Mode, Format, u32, members, pair, vec, Unambiguous, Decodes, val_type}
use Rattle.std.proofs.lemmas.List.{length-append}
use Rattle.wasm_insn.proofs.Words.{Plain, instruction, table, unique}
use Rattle.wasm_code.specs.{Body, Run, body, body_of, and_then, HasVisited, OffsetLaws}
use Rattle.wasm_code.proofs.BodyLaws.{runs_unambiguous}
use Rattle.wasm_code.proofs.ExpressionLaws.{members_join, members_one}

-- The encoding of the value at the front is the bytes before the offset.
front_is : {m : Mode} {X : Type 0} (F : Format X) (bytes : List ℕ) (offset : ℕ) (x : X) → offset ≤ length bytes → (h : Decodes F m bytes x (drop offset bytes)) → take offset bytes ≡ h.front
front_is F bytes offset x l h =
    ap (take offset) h.split ∙ take_at h.front (drop offset bytes) offset (omega (arith, l, ap length h.split, length-append h.front (drop offset bytes), length-drop offset bytes))

begun : (mode : Mode) (bytes : List ℕ) (offset : ℕ) (runs : List Run) → Decodes (vec (pair u32 val_type)) mode bytes runs (drop offset bytes) → offset ≤ length bytes → HasVisited mode bytes offset (record { runs = runs; code = [] })
begun mode bytes offset runs h l =
    ((runs, []), refl, record { front = h.front; back = []; joined = front_is (vec (pair u32 val_type)) bytes offset runs l h ∙ sym (append-nil h.front); first = h.encodes; second = refl })

-- The bytes before a later offset are those before the offset and those between.
between : (bytes middle : List ℕ) (offset after : ℕ) → offset ≤ length bytes → after ≤ length bytes → offset ≤ after → drop offset bytes ≡ middle ++ drop after bytes → take after bytes ≡ take offset bytes ++ middle
between bytes middle offset after l m n e =
    let whole : bytes ≡ (take offset bytes ++ middle) ++ drop after bytes = sym (take-append-drop offset bytes) ∙ ap (λ z. take offset bytes ++ z) e ∙ sym (append_assoc (take offset bytes) middle (drop after bytes)) in
    let long : length (take offset bytes ++ middle) ≡ after =
    omega (arith, l, m, n, length-append (take offset bytes) middle, length-take-le offset bytes l, ap length e, length-append middle (drop after bytes), length-drop offset bytes, length-drop after bytes)
    in
    ap (take after) whole ∙ take_at (take offset bytes ++ middle) (drop after bytes) after long

continues : (mode : Mode) (bytes : List ℕ) (offset after : ℕ) (x : Body) (i : Plain) → HasVisited mode bytes offset x → Decodes (instruction table) mode (drop offset bytes) i (drop after bytes) → offset < after → after ≤ length bytes → HasVisited mode bytes after (and_then x (i ∷ []))
continues mode bytes offset after x i h g l m =
    let p = h.2 in (
      (h.0.0, h.0.1 ++ i ∷ []),
      ap (λ z. and_then z (i ∷ [])) h.1,
      record {
        front = p.front;
        back = p.back ++ g.front;
        joined = between bytes g.front offset after (omega (arith, l, m)) m (omega (arith, l)) g.split ∙ ap (λ z. z ++ g.front) p.joined ∙ append_assoc p.front p.back g.front;
        first = p.first;
        second = members_join (instruction table) mode p.back g.front h.0.1 (i ∷ []) p.second (members_one (instruction table) mode g.front i g.encodes);
      },
    )

-- If equally many members decode from the front of the same bytes, they are equal.
same_members : {X : Type 0} {F : Format X} → Unambiguous F → (mode : Mode) (s t r q : List ℕ) (xs ys : List X) → members F mode s xs → members F mode t ys → s ++ r ≡ t ++ q → length xs ≡ length ys → (xs ≡ ys) × (s ≡ t)
same_members unambiguous mode s t r q [] [] h g e l = (refl, h ∙ sym g)
same_members unambiguous mode s t r q [] (y ∷ ys) h g e l = absurd (omega (arith, l))
same_members unambiguous mode s t r q (x ∷ xs) [] h g e l = absurd (omega (arith, l))
same_members unambiguous mode s t r q (x ∷ xs) (y ∷ ys) h g e l =
    let a = unambiguous.unique mode h.0 g.0 (h.1 ++ r) (g.1 ++ q) x y h.3 g.3 (sym (append_assoc h.0 h.1 r) ∙ ap (λ z. z ++ r) (sym h.2) ∙ e ∙ ap (λ z. z ++ q) g.2 ∙ append_assoc g.0 g.1 q) in
    let more = same_members unambiguous mode h.1 g.1 r q xs ys h.4 g.4 a.2 (omega (arith, l)) in
    (ap₂ ◌∷◌ a.0 more.0, h.2 ∙ ap₂ ◌++◌ a.1 more.1 ∙ sym g.2)

same : (mode : Mode) (front more : List ℕ) (offset : ℕ) (x y : Body) → body mode front x → HasVisited mode (front ++ more) offset y → offset ≤ length (front ++ more) → length y.code ≡ length x.code → (y ≡ x) × (offset ≡ length front)
same mode front more offset x y h g l n =
    let bytes = front ++ more in
    let a = g.2 in
    let b = h.2 in
    let whole : a.front ++ (a.back ++ drop offset bytes) ≡ b.front ++ (b.back ++ more) =
    sym (append_assoc a.front a.back (drop offset bytes)) ∙ ap (λ z. z ++ drop offset bytes) (sym a.joined) ∙ take-append-drop offset bytes ∙ ap (λ z. z ++ more) b.joined ∙ append_assoc b.front b.back more
    in
    let r = runs_unambiguous.unique mode a.front b.front (a.back ++ drop offset bytes) (b.back ++ more) g.0.0 h.0.0 a.first b.first whole in
    let many : length g.0.1 ≡ length h.0.1 = ap (λ z. length z.code) g.1 ∙ n ∙ ap (λ z. length z.code) (sym h.1) in
    let m = same_members unique mode a.back b.back (drop offset bytes) more g.0.1 h.0.1 a.second b.second r.2 many in
    let encodings : take offset bytes ≡ front = a.joined ∙ ap₂ ◌++◌ r.1 m.1 ∙ sym b.joined in
    (sym g.1 ∙ ap₂ (λ runs code. body_of (runs, code)) r.0 m.0 ∙ h.1, sym (length-take-le offset bytes l) ∙ ap length encodings)

pub offsets : (mode : Mode) → OffsetLaws mode
offsets mode = record { begun = begun mode; continues = continues mode; same = same mode }
