-- This file proves that minimizers append the one minimal encoding of decoded expressions and
-- bodies.
use Rattle.wasm_base.proofs.Words.{Result, Ok, Err, take, ◌≡◌, ℕ, length, drop, sym, List, [], ◌∷◌, ◌++◌, map, refl, ap, subst, ◌∙◌, append_assoc, OnOk, OnErr, map-id, Mode, minimal_of, padded_of, Format, u32}
use Rattle.wasm_base.proofs.Words.{members, ended, such, pair, vec, size_prefixed, HasEncodableSize, val_type, AppendsMinimal, builders_alone, HasEncoding, IsFrontOf, left_encoded, right_encoded, mapped_encoded}
use Rattle.wasm_base.proofs.Words.{content_encoded, behind_encodable, pair_appended, mapped_appended, cut_off}
use Rattle.wasm_base.specs.declared.refused.Refused.{Refused}
use Rattle.wasm_insn.proofs.Words.{Plain, instruction, table}
use Rattle.wasm_code.specs.{IsNoEnd, expression, Run, body_of, body}
use Rattle.wasm_code.proofs.BodyLaws.{body_whole}
use Rattle.wasm_code.proofs.ExpressionLaws.{expression_encodes}

-- ---- expressions

before_end : {X : Type 0} (P : X → Type 0) (F : Format X) (stop : ℕ) (mode : Mode) (xs : List X) (s : List ℕ) → ended stop (such P F) mode s xs → (t : List ℕ) × members F mode t xs
before_end P F stop mode [] s h = ([], refl)
before_end P F stop mode (x ∷ xs) s h = let more = before_end P F stop mode xs h.1 h.4 in (h.0 ++ more.0, (h.0, more.0, refl, h.3.0, more.1))

such_members : {X : Type 0} (P : X → Type 0) (F : Format X) (stop : ℕ) (mode other : Mode) (xs : List X) (s t : List ℕ) → ended stop (such P F) mode s xs → members F other t xs → members (such P F) other t xs
such_members P F stop mode other [] s t h g = g
such_members P F stop mode other (x ∷ xs) s t h g = (g.0, g.1, g.2, (g.3, h.3.1), such_members P F stop mode other xs h.1 g.1 h.4 g.4)

-- The instructions are appended, then `end`.
pub expression_appended : (is : List Plain) (old middle new : List ℕ) → AppendsMinimal builders_alone (members (instruction table)) is old middle → new ≡ middle ++ 0x0B ∷ [] → AppendsMinimal builders_alone expression is old new
expression_appended is old middle new a e = record {
  encoding = a.encoding ++ 0x0B ∷ [];
  appended = e ∙ ap (λ z. z ++ 0x0B ∷ []) a.appended ∙ append_assoc old a.encoding (0x0B ∷ []);
  encodes = λ w q s h.
      let read = before_end IsNoEnd (instruction table) 0x0B (padded_of w) is s h in
      expression_encodes (minimal_of w) a.encoding is (such_members IsNoEnd (instruction table) 0x0B (padded_of w) (minimal_of w) is s a.encoding h (a.encodes w q read.0 read.1));
}

-- ---- bodies

-- The runs are appended, as a reader views them, then the instructions.
pub body_appended : (runs : List Run) (code : List Plain) (old middle new : List ℕ) → AppendsMinimal builders_alone (vec (pair u32 val_type)) (map (λ r. (r.0, r.1)) runs) old middle → AppendsMinimal builders_alone (members (instruction table)) code middle new
    → AppendsMinimal builders_alone body (record { runs = runs; code = code }) old new
body_appended runs code old middle new a b =
    let given = subst (λ z. AppendsMinimal builders_alone (vec (pair u32 val_type)) z old middle) (map-id runs) a in
    mapped_appended body_of (pair (vec (pair u32 val_type)) (members (instruction table))) (runs, code) old new (λ z e. ap (λ x. (x.runs, x.code)) e) (pair_appended (vec (pair u32 val_type)) (members (instruction table)) given b)

-- ---- components that have encodings

pub code_encoded : (is : List Plain) → HasEncoding builders_alone expression is → HasEncoding builders_alone (members (instruction table)) is
code_encoded is h = let read = before_end IsNoEnd (instruction table) 0x0B (padded_of h.grammar) is h.bytes h.decoded in record { grammar = h.grammar; included = h.included; bytes = read.0; decoded = read.1 }

body_parts : (runs : List Run) (code : List Plain) → HasEncoding builders_alone (size_prefixed body) (record { runs = runs; code = code }) → HasEncoding builders_alone (pair (vec (pair u32 val_type)) (members (instruction table))) (runs, code)
body_parts runs code h = mapped_encoded body_of (pair (vec (pair u32 val_type)) (members (instruction table))) (runs, code) (λ z e. ap (λ x. (x.runs, x.code)) e) (content_encoded body (record { runs = runs; code = code }) h)

pub runs_encoded : (runs : List Run) (code : List Plain) → HasEncoding builders_alone (size_prefixed body) (record { runs = runs; code = code }) → HasEncoding builders_alone (vec (pair u32 val_type)) (map (λ r. (r.0, r.1)) runs)
runs_encoded runs code h =
    subst (λ z. HasEncoding builders_alone (vec (pair u32 val_type)) z) (sym (map-id runs)) (left_encoded (vec (pair u32 val_type)) (members (instruction table)) runs code (body_parts runs code h))

pub body_code_encoded : (runs : List Run) (code : List Plain) → HasEncoding builders_alone (size_prefixed body) (record { runs = runs; code = code }) → HasEncoding builders_alone (members (instruction table)) code
body_code_encoded runs code h = right_encoded (vec (pair u32 val_type)) (members (instruction table)) runs code (body_parts runs code h)

pub body_encodable : (runs : List Run) (code : List Plain) (start : ℕ) (old middle new : List ℕ) → start ≡ length old → AppendsMinimal builders_alone (vec (pair u32 val_type)) (map (λ r. (r.0, r.1)) runs) old middle
    → AppendsMinimal builders_alone (members (instruction table)) code middle new → HasEncoding builders_alone (size_prefixed body) (record { runs = runs; code = code }) → HasEncodableSize (drop start new)
body_encodable runs code start old middle new e a b h = behind_encodable body (record { runs = runs; code = code }) start old new body_whole.encodings e (body_appended runs code old middle new a b) h

-- ---- the old bytes at the front

pub front_sized : (start : ℕ) (old middle new encoding : List ℕ) (r : Result (Unit {0}) Refused) → start ≡ length old → IsFrontOf old middle → OnOk r (new ≡ take start middle ++ encoding) → OnErr r (new ≡ middle) → IsFrontOf old new
front_sized start old middle new encoding (Ok u) e m ok err = (encoding, ok ∙ ap (λ z. z ++ encoding) (ap (λ n. take n middle) e ∙ cut_off old middle m))
front_sized start old middle new encoding (Err x) e m ok err = subst (λ z. IsFrontOf old z) (sym err) m
