-- This file proves that the opcodes of a shape are those of its rows in the table, and what a lookup
-- in a list of instructions says.
use Rattle.wasm_base.proofs.Words.{◌≡◌, ◌≢◌, ℕ, zero, suc, ◌+◌, List, [], ◌∷◌, Bool, true, false, ◌&&◌, ◌||◌, ◌<◌, ◌≤◌, cond, eqb, length, Option, Some, None, get_or, refl, sym, ap, ◌∙◌, arith, ⊤}
use Rattle.wasm_base.proofs.Words.{eqb-true, eq-eqb, and_parts}
use Rattle.std.specs.Prelude.{is_some, IfSome, IfNone}
use Rattle.std.proofs.Common.{slice_get}
use Rattle.wasm_insn.specs.declared.op.Op.{Op}
use Rattle.wasm_insn.specs.declared.op.Op.TheVariants.{Byte, Prefixed}
use Rattle.wasm_insn.specs.declared.op.Shape.{Shape}
use Rattle.wasm_insn.specs.declared.op.Shape.TheVariants as shapes
use Rattle.wasm_insn.specs.Plain.{Table, shape_of, same_op}

-- ---- the opcodes of a shape

-- The index of a shape.
abbrev index_of : Shape → ℕ
index_of shapes.Nothing = 0
index_of shapes.U = 1
index_of shapes.Uu = 2
index_of shapes.M = 3
index_of shapes.Ml = 4
index_of shapes.L = 5
index_of shapes.B = 6
index_of shapes.H = 7
index_of shapes.O = 8
index_of shapes.Ou = 9
index_of shapes.Ouu = 10
index_of shapes.C32 = 11
index_of shapes.C64 = 12
index_of shapes.F32 = 13
index_of shapes.F64 = 14
index_of shapes.V = 15
index_of shapes.Ls = 16
index_of shapes.Bt = 17
index_of shapes.Tt = 18
index_of shapes.Ts = 19
index_of shapes.K = 20
index_of shapes.Uh = 21
index_of shapes.Uuh = 22

-- An opcode of one byte.
abbrev pub byte_of : Op → Option ℕ
byte_of (Byte b) = Some b
byte_of (Prefixed p n) = None

-- The prefix of an opcode.
abbrev pub prefix_of : Op → Option ℕ
prefix_of (Byte b) = None
prefix_of (Prefixed p n) = Some p

-- The number of an opcode after this prefix.
abbrev pub number_after : ℕ → Op → Option ℕ
number_after q (Byte b) = None
number_after q (Prefixed p n) = cond (eqb p q) (Some n) None

abbrev with_key : Option ℕ → Bool → List ℕ → List ℕ
with_key None t ns = ns
with_key (Some n) false ns = ns
with_key (Some n) true ns = n ∷ ns

-- The keys of the opcodes with this shape.
abbrev pub keys : (Op → Option ℕ) → Shape → Table → List ℕ
keys key s [] = []
keys key s (row ∷ rows) = with_key (key row.0) (eqb (index_of row.1) (index_of s)) (keys key s rows)

-- The number is one of the list.
pub record IsAmong (n : ℕ) (ns : List ℕ) : Type 0 where
  pub index : ℕ
  pub is : slice_get ns index ≡ Some n

later : (k : Option ℕ) (t : Bool) (n : ℕ) (ns : List ℕ) → IsAmong n ns → IsAmong n (with_key k t ns)
later None t n ns h = h
later (Some m) false n ns h = h
later (Some m) true n ns h = record { index = suc h.index; is = h.is }

same_is : (a b : Op) → same_op a b ≡ true → a ≡ b
same_is (Byte a) (Byte b) e = ap Byte (eqb-true a b e)
same_is (Byte a) (Prefixed q m) e = absurd (cc e)
same_is (Prefixed p n) (Byte b) e = absurd (cc e)
same_is (Prefixed p n) (Prefixed q m) e =
    let h = and_parts (eqb p q) (eqb n m) e in
    ap (λ r. Prefixed r n) (eqb-true p q h.0) ∙ ap (Prefixed q) (eqb-true n m h.1)

-- The key of an opcode with this shape is one of those.
pub listed : (key : Op → Option ℕ) (s : Shape) (rows : Table) (op : Op) (n : ℕ) → key op ≡ Some n → shape_of rows op ≡ Some s → IsAmong n (keys key s rows)
listed key s [] op n k e = absurd (cc e)
listed key s (row ∷ rows) op n k e = go (same_op row.0 op) refl (λ f. listed key s rows op n k f)
  where
    go : (t : Bool) → same_op row.0 op ≡ t → (shape_of rows op ≡ Some s → IsAmong n (keys key s rows)) → IsAmong n (keys key s (row ∷ rows))
    go true h further =
        let has : Some row.1 ≡ Some s = sym (ap (λ t. cond t (Some row.1) (shape_of rows op)) h) ∙ e in
        let same : row.1 ≡ s = cc has in
        rw (ap key (same_is row.0 op h) ∙ k, eq-eqb (index_of row.1) (index_of s) (ap index_of same)) (record { index = 0; is = refl })
    go false h further = later (key row.0) (eqb (index_of row.1) (index_of s)) n (keys key s rows) (further (sym (ap (λ t. cond t (Some row.1) (shape_of rows op)) h) ∙ e))

-- ---- numbers that pass a test

-- Whether each number of the list passes.
abbrev pub all_pass : (ℕ → Bool) → List ℕ → Bool
all_pass test [] = true
all_pass test (n ∷ ns) = test n && all_pass test ns

passes : (test : ℕ → Bool) (ns : List ℕ) (n : ℕ) → all_pass test ns ≡ true → IsAmong n ns → test n ≡ true
passes test ns n all h = go ns all h.index h.is
  where
    go : (ns : List ℕ) → all_pass test ns ≡ true → (i : ℕ) → slice_get ns i ≡ Some n → test n ≡ true
    go [] all i e = absurd (cc e)
    go (k ∷ ns) all zero e = let is : n ≡ k = cc e in ap test is ∙ (and_parts (test k) (all_pass test ns) all).0
    go (k ∷ ns) all (suc i) e = go ns (and_parts (test k) (all_pass test ns) all).1 i e

-- Whether the number is one of the list.
abbrev pub is_in : List ℕ → ℕ → Bool
is_in [] n = false
is_in (k ∷ ks) n = eqb n k || is_in ks n

-- The number is none of the list.
abbrev pub IsNoneOf : ℕ → List ℕ → Type 0
IsNoneOf n [] = ⊤
IsNoneOf n (k ∷ ks) = (n ≢ k) × IsNoneOf n ks

not_in : (known : List ℕ) (n : ℕ) → IsNoneOf n known → is_in known n ≡ true → ⊥
not_in [] n out e = absurd (cc e)
not_in (k ∷ known) n out e = go (eqb n k) refl (λ f. not_in known n out.1 f)
  where
    go : (t : Bool) → eqb n k ≡ t → (is_in known n ≡ true → ⊥) → ⊥
    go true h further = out.0 (eqb-true n k h)
    go false h further = further (sym (ap (λ t. t || is_in known n) h) ∙ e)

-- A number that is none of those known is none of a list of these.
pub none_of : (known ns : List ℕ) (n : ℕ) → all_pass (is_in known) ns ≡ true → IsNoneOf n known → IsAmong n ns → ⊥
none_of known ns n all out h = not_in known n out (passes (is_in known) ns n all h)

-- ---- lists of instructions by number

-- Whether the number of each instruction in the list is its index, from `k` on.
abbrev pub are_at : {X : Type 0} → (X → ℕ) → List (Option X) → ℕ → Bool
are_at number [] k = true
are_at number (None ∷ items) k = are_at number items (k + 1)
are_at number (Some v ∷ items) k = eqb (number v) k && are_at number items (k + 1)

found_at : {X : Type 0} (number : X → ℕ) (items : List (Option X)) (k n : ℕ) (v : X) → are_at number items k ≡ true → get_or items n None ≡ Some v → number v ≡ k + n
found_at number [] k n v e f = absurd (cc f)
found_at number (None ∷ items) k zero v e f = absurd (cc f)
found_at number (None ∷ items) k (suc n) v e f = let h = found_at number items (k + 1) n v e f in omega (arith, h)
found_at number (Some w ∷ items) k zero v e f =
    let at : number w ≡ k = eqb-true (number w) k (and_parts (eqb (number w) k) (are_at number items (k + 1)) e).0 in
    let same : w ≡ v = cc f in
    let is : number w ≡ number v = ap number same in
    omega (arith, at, is)
found_at number (Some w ∷ items) k (suc n) v e f = let h = found_at number items (k + 1) n v (and_parts (eqb (number w) k) (are_at number items (k + 1)) e).1 f in omega (arith, h)

-- The number of an instruction in the list is its index.
pub found : {X : Type 0} (number : X → ℕ) (items : List (Option X)) (n : ℕ) (v : X) → are_at number items 0 ≡ true → get_or items n None ≡ Some v → number v ≡ n
found number items n v e f = let h = found_at number items 0 n v e f in omega (arith, h)

-- A number that is none of those known, and has no instruction, is none of a list of these.
pub none_at : {X : Type 0} (items : List (Option X)) (known ns : List ℕ) (n : ℕ) → all_pass (λ k. is_in known k || is_some (get_or items k None)) ns ≡ true → IsNoneOf n known → get_or items n None ≡ None → IsAmong n ns → ⊥
none_at items known ns n all out none h = go (is_in known n) refl
  where
    go : (t : Bool) → is_in known n ≡ t → ⊥
    go true f = not_in known n out f
    go false f =
        let some : is_in known n || is_some (get_or items n None) ≡ true = passes (λ k. is_in known k || is_some (get_or items k None)) ns n all h in
        let is : false ≡ true = sym (ap is_some none) ∙ (sym (ap (λ t. t || is_some (get_or items n None)) f) ∙ some) in
        absurd (cc is)

-- ---- indexing

in_range : {X : Type 0} (items : List (Option X)) (n : ℕ) (d : Option X) → n < length items → get_or items n d ≡ get_or items n None
in_range [] n d l = absurd (omega (arith, l))
in_range (x ∷ items) zero d l = refl
in_range (x ∷ items) (suc n) d l = in_range items n d (omega (arith, l))

-- The item at an index has it as its number.
pub item_is : {X : Type 0} (number : X → ℕ) (items : List (Option X)) (n : ℕ) (d : Option X) → are_at number items 0 ≡ true → n < length items → IfSome (get_or items n d) (λ v. number v ≡ n)
item_is {X = X} number items n d all l = go (get_or items n d) refl
  where
    go : (x : Option X) → get_or items n d ≡ x → IfSome x (λ v. number v ≡ n)
    go None e = tt
    go (Some v) e = found number items n v all (sym (in_range items n d l) ∙ e)

-- What is known where an item is absent.
pub item_none : {X : Type 0} {P : Type 0} (items : List (Option X)) (n : ℕ) (d : Option X) → n < length items → (get_or items n None ≡ None → P) → IfNone (get_or items n d) P
item_none {X = X} {P = P} items n d l known = go (get_or items n d) refl
  where
    go : (x : Option X) → get_or items n d ≡ x → IfNone x P
    go None e = known (sym (in_range items n d l) ∙ e)
    go (Some v) e = tt

pub beyond : {X : Type 0} (items : List (Option X)) (n : ℕ) → length items ≤ n → get_or items n None ≡ None
beyond [] n l = refl
beyond (x ∷ items) zero l = absurd (omega (arith, l))
beyond (x ∷ items) (suc n) l = beyond items n (omega (arith, l))
