-- This file proves that expressions are unambiguous, and that stored bytes encode them.
use Rattle.wasm_base.proofs.Words.{◌≡◌, ◌≢◌, ℕ, ◌+◌, ◌≤◌, List, [], ◌∷◌, ◌++◌, length, vec_len, vec_capacity, true, false, Option, None, Some, Result, Ok, map, refl, sym, ap, subst, ◌∙◌, append_assoc}
use Rattle.wasm_base.proofs.Words.{append-nil, All-head, All-tail, ⊤, All, flat_map, Mode, minimal, padded, Format, such, members, ended, Unambiguous, UnambiguousWhole, BeginsWith, Appends}
use Rattle.wasm_base.proofs.Words.{DecodesBack, on_ok, such_unambiguous, ended_unambiguous, members_whole, decodes_uniquely}
use Rattle.std.specs.declared.alloc.Global.{Global}
use Rattle.std.specs.declared.vec.Vec.{Vec}
use Rattle.wasm_base.specs.declared.refused.Refused.{Refused}
use Rattle.std.proofs.Common.{IfSome, OnOk}
use Rattle.wasm_code.specs.declared.first.First.{First}
use Rattle.wasm_insn.specs.declared.instruction.Instruction.{Instruction}
use Rattle.wasm_insn.specs.declared.op.Op.{Op}
use Rattle.wasm_insn.proofs.Words.{Plain, instruction, op_after, same_op, table, row_of, instruction_encoding, IsEncodableInstruction, IsWellFormedInstruction, unique, decodes}
use Rattle.wasm_insn.specs.declared.op.Op.TheVariants.{Byte}
use Rattle.wasm_code.specs.{IsNoEnd, expression, expression_encoding, StoresIn, StoresInstructions, StoresPadded, normal_row, IsWellFormedInside, Stores, StoresAll, AppendsEach, StoresGiven}
use Rattle.wasm_code.specs.{instruction_of, first_encoding}
use Rattle.wasm_code.specs.declared.first.First.TheVariants as firsts

-- ---- unambiguous

-- The byte 0B alone is the opcode of `end`.
end_is : (mode : Mode) (s : List ℕ) (op : Op) → op_after 0x0B mode s op → op ≡ Byte 0x0B
end_is mode s op h = h.1

no_end : (op : Op) → same_op op (Byte 0x0B) ≡ false → op ≢ Byte 0x0B
no_end op other e = let same : true ≡ false = subst (λ o. same_op o (Byte 0x0B) ≡ false) e other in absurd (cc same)

not_end_begins : BeginsWith (λ b. b ≢ 0x0B) (such IsNoEnd (instruction table))
not_end_begins mode s i h =
    let k = h.0 in
    let op = k.2.first in (
      op.0.0,
      op.2.back ++ k.2.back,
      k.2.joined ∙ ap (λ z. z ++ k.2.back) (op.2.joined ∙ ap (λ z. z ++ op.2.back) op.2.first),
      λ e. no_end i.op h.1 (sym (ap (λ i. i.op) k.1) ∙ sym op.1 ∙ end_is mode op.2.back op.0.1 (subst (λ b. op_after b mode op.2.back op.0.1) e op.2.second)),
    )

pub expression_unambiguous : Unambiguous expression
expression_unambiguous = ended_unambiguous 0x0B not_end_begins (such_unambiguous IsNoEnd unique)

stored_whole : UnambiguousWhole (members (such IsNoEnd (instruction table)))
stored_whole = members_whole (λ b. b ≢ 0x0B) not_end_begins (such_unambiguous IsNoEnd unique)

-- A minimal encoding of instructions is a possibly padded one.
pub stores_included : (bytes : List ℕ) (is : List Plain) → StoresInstructions bytes is → StoresPadded bytes is
stores_included bytes is stored = stored_whole.encodings.included minimal padded tt bytes is stored

-- ---- encodings

-- The encodings of two lists of members, one after another, encode both lists.
pub members_join : {X : Type 0} (F : Format X) (mode : Mode) (s t : List ℕ) (xs ys : List X) → members F mode s xs → members F mode t ys → members F mode (s ++ t) (xs ++ ys)
members_join F mode s t [] ys h g = subst (λ z. members F mode (z ++ t) ys) (sym h) g
members_join F mode s t (x ∷ xs) ys h g = (h.0, h.1 ++ t, ap (λ z. z ++ t) h.2 ∙ append_assoc h.0 h.1 t, h.3, members_join F mode h.1 t xs ys h.4 g)

pub members_one : {X : Type 0} (F : Format X) (mode : Mode) (s : List ℕ) (x : X) → F mode s x → members F mode s (x ∷ [])
members_one F mode s x h = (s, [], sym (append-nil s), h, refl)

ended_encodes : {X : Type 0} (stop : ℕ) (F : Format X) (mode : Mode) (s : List ℕ) (xs : List X) → members F mode s xs → ended stop F mode (s ++ stop ∷ []) xs
ended_encodes stop F mode s [] h = ap (λ z. z ++ stop ∷ []) h
ended_encodes stop F mode s (x ∷ xs) h = (h.0, h.1 ++ stop ∷ [], ap (λ z. z ++ stop ∷ []) h.2 ∙ append_assoc h.0 h.1 (stop ∷ []), h.3, ended_encodes stop F mode h.1 xs h.4)

-- The stored bytes and `end` encode the stored instructions as an expression.
pub expression_encodes : (mode : Mode) (bytes : List ℕ) (is : List Plain) → StoresIn mode bytes is → expression mode (expression_encoding bytes) is
expression_encodes mode bytes is h = ended_encodes 0x0B (such IsNoEnd (instruction table)) mode bytes is h

pub expression_decodes : (bytes : List ℕ) → DecodesBack expression (StoresInstructions bytes) (expression_encoding bytes)
expression_decodes bytes = record { for_each = λ is h. decodes_uniquely {F = expression} expression_unambiguous (expression_encodes minimal bytes is h) }

-- ---- calls

-- The encoding of a well-formed instruction encodes its normal form.
pub normal_encodes : {A : Type 0} (i : Instruction A) → IsWellFormedInstruction i → instruction table minimal (instruction_encoding i) (normal_row i)
normal_encodes i h = ((decodes i).unique h).encodes

pub stores : (i : Instruction Global) (old new : List ℕ) → IsNoEnd (row_of i) → new ≡ old ++ instruction_encoding i → Stores i old new
stores i old new other e = record {
  encoding = e;
  plain = λ h is held.
      let inside : such IsNoEnd (instruction table) minimal (instruction_encoding i) (normal_row i) = (normal_encodes i h, other) in
      subst (λ z. StoresInstructions z (is ++ normal_row i ∷ [])) (sym e)
      (members_join (such IsNoEnd (instruction table)) minimal old (instruction_encoding i) is (normal_row i ∷ []) held
      (members_one (such IsNoEnd (instruction table)) minimal (instruction_encoding i) (normal_row i) inside));
}

-- An expression that begins with other instructions gains the instruction too.
pub stores_more : (i : Instruction Global) (front old new whole : List ℕ) → front ++ old ≡ whole → IsNoEnd (row_of i) → new ≡ old ++ instruction_encoding i → Stores i whole (front ++ new)
stores_more i front old new whole is other e =
    stores i whole (front ++ new) other (ap (λ z. front ++ z) e ∙ sym (append_assoc front old (instruction_encoding i)) ∙ ap (λ z. z ++ instruction_encoding i) is)

first_no_end : (first : First) → IsNoEnd (row_of (instruction_of first))
first_no_end (firsts.GlobalGet index) = refl
first_no_end first = refl

pub stores_first : (first : First) (new : List ℕ) → new ≡ first_encoding first → Stores (instruction_of first) [] new
stores_first first new e = stores (instruction_of first) [] new (first_no_end first) e

stored : {A : Type 0} (is : List (Instruction A)) → All IsWellFormedInside is → StoresInstructions (flat_map instruction_encoding is) (map normal_row is)
stored [] h = refl
stored (i ∷ is) h =
    let inside = All-head IsWellFormedInside i is h in
    (instruction_encoding i, flat_map instruction_encoding is, refl, (normal_encodes i inside.plain, inside.no_end), stored is (All-tail IsWellFormedInside i is h))

pub stores_all : (is : List (Instruction Global)) (bytes : List ℕ) → bytes ≡ flat_map instruction_encoding is → StoresAll is bytes
stores_all is bytes e = record { plain = λ h. subst (λ z. StoresInstructions z (map normal_row is)) (sym e) (stored is h) }

pub stores_given : {U S : Type 0} (becomes : U → S → Type 0) (gives : S → Option (Instruction Global) → S → Type 0) (elements : U) (old new : List ℕ) → old ≡ []
    → AppendsEach becomes gives IsEncodableInstruction instruction_encoding elements old new (Ok (tt {0})) → StoresGiven becomes gives elements (Ok new)
stores_given becomes gives elements old new e h =
    let given = h.ok in
    let encoding : new ≡ flat_map instruction_encoding given.1 = given.5 ∙ ap (λ z. z ++ flat_map instruction_encoding given.1) e in
    record { ok = (given.0, given.1, given.2, given.3, given.4, encoding, stores_all given.1 new encoding); too_long = λ encodable is. absurd (cc is) }

-- ---- the bytes that a call appends

pub encodable_always : {X : Type 0} (part : Option X) → IfSome part (λ x. ⊤)
encodable_always None = tt
encodable_always (Some x) = tt

-- A promise about one form of an encoding holds of an equal form.
pub appends_whole : {A : Type 0} {Encodable : Type 0} {encoding whole : List ℕ} {old new : Vec ℕ A} {result : Result (Unit {0}) Refused} → Encodable → encoding ≡ whole → Appends encoding Encodable old new result → Appends whole ⊤ old new result
appends_whole {old = old} {new = new} {result = result} encodable e h = record {
  ok = subst (λ t. OnOk result (new.items ≡ old.items ++ t)) e h.ok;
  err = h.err;
  was_encodable = on_ok result _ _ h.was_encodable (λ f. tt);
  too_long = λ f. h.too_long encodable;
  spare = λ f l. h.spare encodable (subst (λ t. vec_len old + length t ≤ vec_capacity old) (sym e) l);
  capacity = h.capacity;
}
