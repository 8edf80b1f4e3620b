-- This file proves that a lookup in the table is a lookup in its runs.
use Rattle.wasm_base.proofs.Words.{◌≡◌, ◌≢◌, ℕ, zero, suc, ◌+◌, ◌-◌, ◌<◌, ◌≤◌, ◌⊎◌, List, [], ◌∷◌, ◌++◌, map, Bool, true, false, eqb, leb, Option, Some, None, refl, sym, ap, ◌∙◌, arith, inl, inr}
use Rattle.wasm_base.proofs.Words.{append_assoc, eqb-false, cases_lt, ne_eqb, leb-true, leb-false, and_parts, and_cases, nat_tests, flat_map}
use Rattle.std.proofs.lemmas.Bool.{eq-eqb}
use Rattle.wasm_insn.specs.declared.op.Op.{Op}
use Rattle.wasm_insn.specs.Plain.{Table}
use Rattle.wasm_insn.specs.{same_op, shape_of, one_byte, after_fb, after_fc, after_fd, after_fe, count_up, rows_of, table_of, table, has_number, shape_in}
use Rattle.wasm_insn.specs.declared.op.Op.TheVariants.{Byte, Prefixed}
use Rattle.wasm_insn.specs.declared.op.Shape.{Shape}
use Rattle.wasm_insn.specs.declared.table.Run.{Run}

-- The first of two optional shapes that is present.
abbrev or_else : Option Shape → Option Shape → Option Shape
or_else None y = y
or_else (Some x) y = Some x

-- Opcodes made of numbers are equal exactly if their numbers are.
abbrev DeterminesNumber : (ℕ → Op) → Type 0
DeterminesNumber op = (a b : ℕ) → same_op (op a) (op b) ≡ eqb a b

-- None of the opcodes made of numbers is this one.
abbrev IsNever : (ℕ → Op) → Op → Type 0
IsNever op other = (a : ℕ) → same_op (op a) other ≡ false

-- ---- the rows of one run

abbrev rows_up : (ℕ → Op) → Shape → ℕ → ℕ → Table
rows_up op s k m = map (λ n. (op n, s)) (count_up k m)

inside : (op : ℕ → Op) (s : Shape) (rest : Table) (n k m : ℕ) → DeterminesNumber op → m ≤ n → n < m + k → shape_of (rows_up op s k m ++ rest) (op n) ≡ Some s
inside op s rest n zero m tells low high = absurd (omega arith)
inside op s rest n (suc k) m tells low high = go (eqb m n) refl (λ e. inside op s rest n k (m + 1) tells (omega (arith, low, eqb-false m n e)) (omega (arith, high)))
  where
    go : (t : Bool) → eqb m n ≡ t → (eqb m n ≡ false → shape_of (rows_up op s k (m + 1) ++ rest) (op n) ≡ Some s) → shape_of (rows_up op s (suc k) m ++ rest) (op n) ≡ Some s
    go true e further = rw (tells m n, e) refl
    go false e further = rw (tells m n, e) (further e)

outside : (op : ℕ → Op) (s : Shape) (rest : Table) (n k m : ℕ) → DeterminesNumber op → (n < m) ⊎ (m + k ≤ n) → shape_of (rows_up op s k m ++ rest) (op n) ≡ shape_of rest (op n)
outside op s rest n zero m tells out = refl
outside op s rest n (suc k) m tells out = rw (tells m n, differs out) (outside op s rest n k (m + 1) tells (next out))
  where
    differs : (n < m) ⊎ (m + suc k ≤ n) → eqb m n ≡ false
    differs (inl h) = grind (arith, nat_tests)
    differs (inr h) = grind (arith, nat_tests)

    next : (n < m) ⊎ (m + suc k ≤ n) → (n < m + 1) ⊎ (m + 1 + k ≤ n)
    next (inl h) = inl (omega arith)
    next (inr h) = inr (omega arith)

-- ---- the rows of some runs

among : (op : ℕ → Op) (rest : Table) (n : ℕ) → DeterminesNumber op → (runs : List Run) → shape_of (flat_map (rows_of op) runs ++ rest) (op n) ≡ or_else (shape_in runs n) (shape_of rest (op n))
among op rest n tells [] = refl
among op rest n tells (r ∷ runs) = regrouped ∙ go (has_number n r) refl (among op rest n tells runs)
  where
    more : Table
    more = flat_map (rows_of op) runs ++ rest

    regrouped : shape_of (flat_map (rows_of op) (r ∷ runs) ++ rest) (op n) ≡ shape_of (rows_of op r ++ more) (op n)
    regrouped = ap (λ t. shape_of t (op n)) (append_assoc (rows_of op r) (flat_map (rows_of op) runs) rest)

    go : (t : Bool) → has_number n r ≡ t → shape_of more (op n) ≡ or_else (shape_in runs n) (shape_of rest (op n)) → shape_of (rows_of op r ++ more) (op n) ≡ or_else (shape_in (r ∷ runs) n) (shape_of rest (op n))
    go true e further =
        let h = and_parts (leb r.0 n) (leb n r.1) e in
        rw e (inside op r.2 more n (r.1 + 1 - r.0) r.0 tells (leb-true r.0 n h.0) (omega (arith, leb-true r.0 n h.0, leb-true n r.1 h.1)))
    go false e further = rw e (outside op r.2 more n (r.1 + 1 - r.0) r.0 tells (out (and_cases (leb r.0 n) (leb n r.1) e)) ∙ further)
      where
        out : (leb r.0 n ≡ false) ⊎ (leb n r.1 ≡ false) → (n < r.0) ⊎ (r.0 + (r.1 + 1 - r.0) ≤ n)
        out (inl f) = inl (leb-false r.0 n f)
        out (inr f) = elim (cases_lt n r.0) [ inl below ↦ inl below | inr from ↦ inr (omega (arith, from, leb-false n r.1 f)) ]

never_up : (op : ℕ → Op) (s : Shape) (rest : Table) (other : Op) (k m : ℕ) → IsNever op other → shape_of (rows_up op s k m ++ rest) other ≡ shape_of rest other
never_up op s rest other zero m never = refl
never_up op s rest other (suc k) m never = rw (never m) (never_up op s rest other k (m + 1) never)

-- The lookup skips rows whose opcodes are never this one.
skipped : (op : ℕ → Op) (rest : Table) (other : Op) → IsNever op other → (runs : List Run) → shape_of (flat_map (rows_of op) runs ++ rest) other ≡ shape_of rest other
skipped op rest other never [] = refl
skipped op rest other never (r ∷ runs) =
    ap (λ t. shape_of t other) (append_assoc (rows_of op r) (flat_map (rows_of op) runs) rest)
    ∙ never_up op r.2 (flat_map (rows_of op) runs ++ rest) other (r.1 + 1 - r.0) r.0 never
    ∙ skipped op rest other never runs

or_else-None : (x : Option Shape) → or_else x None ≡ x
or_else-None None = refl
or_else-None (Some x) = refl

-- ---- the whole table

-- The rows after the one-byte opcodes, and after each prefix.
abbrev from_fe : (fe : List Run) → Table
from_fe fe = flat_map (rows_of (Prefixed 0xFE)) fe ++ []

abbrev from_fd : (fd fe : List Run) → Table
from_fd fd fe = flat_map (rows_of (Prefixed 0xFD)) fd ++ from_fe fe

abbrev from_fc : (fc fd fe : List Run) → Table
from_fc fc fd fe = flat_map (rows_of (Prefixed 0xFC)) fc ++ from_fd fd fe

abbrev from_fb : (fb fc fd fe : List Run) → Table
from_fb fb fc fd fe = flat_map (rows_of (Prefixed 0xFB)) fb ++ from_fc fc fd fe

determines_after : (p : ℕ) → DeterminesNumber (Prefixed p)
determines_after p a b = rw (eq-eqb p p refl) refl

other_prefix : (p q n : ℕ) → eqb p q ≡ false → IsNever (Prefixed p) (Prefixed q n)
other_prefix p q n e a = rw e refl

past_fe : (fe : List Run) (other : Op) → IsNever (Prefixed 0xFE) other → shape_of (from_fe fe) other ≡ None
past_fe fe other never = skipped (Prefixed 0xFE) [] other never fe

past_fd : (fd fe : List Run) (other : Op) → IsNever (Prefixed 0xFD) other → IsNever (Prefixed 0xFE) other → shape_of (from_fd fd fe) other ≡ None
past_fd fd fe other d e = skipped (Prefixed 0xFD) (from_fe fe) other d fd ∙ past_fe fe other e

past_fc : (fc fd fe : List Run) (other : Op) → IsNever (Prefixed 0xFC) other → IsNever (Prefixed 0xFD) other → IsNever (Prefixed 0xFE) other → shape_of (from_fc fc fd fe) other ≡ None
past_fc fc fd fe other c d e = skipped (Prefixed 0xFC) (from_fd fd fe) other c fc ∙ past_fd fd fe other d e

past_fb : (fb fc fd fe : List Run) (other : Op) → IsNever (Prefixed 0xFB) other → IsNever (Prefixed 0xFC) other → IsNever (Prefixed 0xFD) other → IsNever (Prefixed 0xFE) other → shape_of (from_fb fb fc fd fe) other ≡ None
past_fb fb fc fd fe other b c d e = skipped (Prefixed 0xFB) (from_fc fc fd fe) other b fb ∙ past_fc fc fd fe other c d e

-- The shape by the runs, if no row after them has the opcode.
only_among : (op : ℕ → Op) (rest : Table) (n : ℕ) → DeterminesNumber op → (runs : List Run) → shape_of rest (op n) ≡ None → shape_of (flat_map (rows_of op) runs ++ rest) (op n) ≡ shape_in runs n
only_among op rest n tells runs none = among op rest n tells runs ∙ ap (or_else (shape_in runs n)) none ∙ or_else-None (shape_in runs n)

bytes_among : (bytes fb fc fd fe : List Run) (n : ℕ) → shape_of (table_of bytes fb fc fd fe) (Byte n) ≡ shape_in bytes n
bytes_among bytes fb fc fd fe n = only_among Byte (from_fb fb fc fd fe) n (λ a b. refl) bytes (past_fb fb fc fd fe (Byte n) (λ a. refl) (λ a. refl) (λ a. refl) (λ a. refl))

fb_among : (bytes fb fc fd fe : List Run) (n : ℕ) → shape_of (table_of bytes fb fc fd fe) (Prefixed 0xFB n) ≡ shape_in fb n
fb_among bytes fb fc fd fe n =
    skipped Byte (from_fb fb fc fd fe) (Prefixed 0xFB n) (λ a. refl) bytes
    ∙ only_among (Prefixed 0xFB) (from_fc fc fd fe) n (determines_after 0xFB) fb (past_fc fc fd fe (Prefixed 0xFB n) (λ a. refl) (λ a. refl) (λ a. refl))

fc_among : (bytes fb fc fd fe : List Run) (n : ℕ) → shape_of (table_of bytes fb fc fd fe) (Prefixed 0xFC n) ≡ shape_in fc n
fc_among bytes fb fc fd fe n =
    skipped Byte (from_fb fb fc fd fe) (Prefixed 0xFC n) (λ a. refl) bytes
    ∙ skipped (Prefixed 0xFB) (from_fc fc fd fe) (Prefixed 0xFC n) (λ a. refl) fb
    ∙ only_among (Prefixed 0xFC) (from_fd fd fe) n (determines_after 0xFC) fc (past_fd fd fe (Prefixed 0xFC n) (λ a. refl) (λ a. refl))

fd_among : (bytes fb fc fd fe : List Run) (n : ℕ) → shape_of (table_of bytes fb fc fd fe) (Prefixed 0xFD n) ≡ shape_in fd n
fd_among bytes fb fc fd fe n =
    skipped Byte (from_fb fb fc fd fe) (Prefixed 0xFD n) (λ a. refl) bytes
    ∙ skipped (Prefixed 0xFB) (from_fc fc fd fe) (Prefixed 0xFD n) (λ a. refl) fb
    ∙ skipped (Prefixed 0xFC) (from_fd fd fe) (Prefixed 0xFD n) (λ a. refl) fc
    ∙ only_among (Prefixed 0xFD) (from_fe fe) n (determines_after 0xFD) fd (past_fe fe (Prefixed 0xFD n) (λ a. refl))

fe_among : (bytes fb fc fd fe : List Run) (n : ℕ) → shape_of (table_of bytes fb fc fd fe) (Prefixed 0xFE n) ≡ shape_in fe n
fe_among bytes fb fc fd fe n =
    skipped Byte (from_fb fb fc fd fe) (Prefixed 0xFE n) (λ a. refl) bytes
    ∙ skipped (Prefixed 0xFB) (from_fc fc fd fe) (Prefixed 0xFE n) (λ a. refl) fb
    ∙ skipped (Prefixed 0xFC) (from_fd fd fe) (Prefixed 0xFE n) (λ a. refl) fc
    ∙ skipped (Prefixed 0xFD) (from_fe fe) (Prefixed 0xFE n) (λ a. refl) fd
    ∙ only_among (Prefixed 0xFE) [] n (determines_after 0xFE) fe refl

no_prefix_among : (bytes fb fc fd fe : List Run) (p n : ℕ) → p ≢ 0xFB → p ≢ 0xFC → p ≢ 0xFD → p ≢ 0xFE → shape_of (table_of bytes fb fc fd fe) (Prefixed p n) ≡ None
no_prefix_among bytes fb fc fd fe p n b c d e =
    skipped Byte (from_fb fb fc fd fe) (Prefixed p n) (λ a. refl) bytes
    ∙ past_fb fb fc fd fe (Prefixed p n) (never 0xFB b) (never 0xFC c) (never 0xFD d) (never 0xFE e)
  where
    never : (q : ℕ) → p ≢ q → IsNever (Prefixed q) (Prefixed p n)
    never q h = other_prefix q p n (ne_eqb q p (λ f. h (sym f)))

pub byte_shape : (n : ℕ) → shape_of table (Byte n) ≡ shape_in one_byte n
unfolding table
byte_shape n = bytes_among one_byte after_fb after_fc after_fd after_fe n

pub fb_shape : (n : ℕ) → shape_of table (Prefixed 0xFB n) ≡ shape_in after_fb n
unfolding table
fb_shape n = fb_among one_byte after_fb after_fc after_fd after_fe n

pub fc_shape : (n : ℕ) → shape_of table (Prefixed 0xFC n) ≡ shape_in after_fc n
unfolding table
fc_shape n = fc_among one_byte after_fb after_fc after_fd after_fe n

pub fd_shape : (n : ℕ) → shape_of table (Prefixed 0xFD n) ≡ shape_in after_fd n
unfolding table
fd_shape n = fd_among one_byte after_fb after_fc after_fd after_fe n

pub fe_shape : (n : ℕ) → shape_of table (Prefixed 0xFE n) ≡ shape_in after_fe n
unfolding table
fe_shape n = fe_among one_byte after_fb after_fc after_fd after_fe n

pub no_prefix_shape : (p n : ℕ) → p ≢ 0xFB → p ≢ 0xFC → p ≢ 0xFD → p ≢ 0xFE → shape_of table (Prefixed p n) ≡ None
unfolding table
no_prefix_shape p n b c d e = no_prefix_among one_byte after_fb after_fc after_fd after_fe p n b c d e

pub ruleset shapes = (byte_shape, fb_shape, fc_shape, fd_shape, fe_shape, no_prefix_shape)
