-- This file proves that decoded instructions are well-formed and in normal form, so that their
-- encoding is the minimal one.
use Rattle.wasm_base.proofs.Words.{zero, suc, length, get_or, arith, ◌≡◌, ℕ, ◌^◌, ◌<◌, List, [], ◌∷◌, ◌++◌, map, Bool, true, false, Option, Some, None, refl, sym, ap, ap₂, subst, ◌∙◌, append_assoc}
use Rattle.wasm_base.proofs.Words.{flat_map, minimal, padded, u32, mapped, fixed, when, IsEncodableVec, IsVal, val_type, AllValues, AppendsMinimal, builders_alone, built_encoding, padded_of, HasEncoding, little_endian_below, heap_is}
use Rattle.wasm_base.proofs.Words.{val_type_is, vec_is}
use Rattle.wasm_immediates.proofs.Words.{IsWellFormedCatch, IsWellFormedHandle, catch, handle, memory_is, block_is, catch_is, handle_is}
use Rattle.wasm_insn.specs.declared.op.Op.{Op}
use Rattle.wasm_insn.specs.{parts_of, op_encoding, Argument, argument_encodable, memory, part_of, argument_encoding, arguments_encoding, IsWellFormed, IsOpcode, IsWellFormedArgument, AreWellFormed, normal_argument}
use Rattle.wasm_insn.specs.{normal_arguments, normal, part, arguments, arguments_after, opcode, op_after, is_prefix, shape_of, plain_of, plain_encoding, instruction, table, argument_view}
use Rattle.wasm_insn.specs.Words.{Plain}
use Rattle.wasm_insn.specs.Arguments.{unsigned, signed32, signed64, float32, float64, vector, lane, lanes, block, heap, ordering, labels, catches, types, handles, flag}
use Rattle.wasm_insn.specs.declared.op.Op.TheVariants.{Byte, Prefixed}
use Rattle.wasm_insn.specs.declared.op.Shape.{Shape}
use Rattle.wasm_insn.specs.declared.part.Part.{Part}
use Rattle.wasm_insn.proofs.PlainLaws.{plain_encodes}
use Rattle.wasm_insn.specs.declared.arguments.Arg.{Arg}
use Rattle.wasm_insn.specs.declared.part.Part.TheVariants as parts

-- The immediate is well-formed, in normal form and of this type.
abbrev IsDecoded : Part → Argument → Type 0
IsDecoded p x = IsWellFormedArgument x × (normal_argument x ≡ x) × (part_of x ≡ p)

pub argument_is : (p : Part) → AllValues (IsDecoded p) (part p)
argument_is parts.Unsigned mode s x h = subst (IsDecoded parts.Unsigned) h.1 (h.2.range, refl, refl)
argument_is parts.Signed32 mode s x h = subst (IsDecoded parts.Signed32) h.1 ((h.2.above, h.2.below), refl, refl)
argument_is parts.Signed64 mode s x h = subst (IsDecoded parts.Signed64) h.1 ((h.2.above, h.2.below), refl, refl)
argument_is parts.Float32 mode s x h = subst (IsDecoded parts.Float32) h.1 (little_endian_below 4 mode s h.0 h.2, refl, refl)
argument_is parts.Float64 mode s x h = subst (IsDecoded parts.Float64) h.1 (little_endian_below 8 mode s h.0 h.2, refl, refl)
argument_is parts.Vector mode s x h = subst (IsDecoded parts.Vector) h.1 (h.2.1, refl, refl)
argument_is parts.Memory mode s x h = let m = memory_is mode s h.0 h.2 in subst (IsDecoded parts.Memory) h.1 (m.plain, ap memory m.normal, refl)
argument_is parts.Lane mode s x h = subst (IsDecoded parts.Lane) h.1 (tt, refl, refl)
argument_is parts.Lanes mode s x h = subst (IsDecoded parts.Lanes) h.1 (h.2.1, refl, refl)
argument_is parts.Block mode s x h = subst (IsDecoded parts.Block) h.1 (block_is mode s h.0 h.2, refl, refl)
argument_is parts.Heap mode s x h = subst (IsDecoded parts.Heap) h.1 (heap_is mode s h.0 h.2, refl, refl)
argument_is parts.Ordering mode s x h = subst (IsDecoded parts.Ordering) h.1 (tt, refl, refl)
argument_is parts.Labels mode s x h = subst (IsDecoded parts.Labels) h.1 (vec_is (λ n. n < 2 ^ 32) u32 (λ mode s n h. h.range) mode s h.0 h.2, refl, refl)
argument_is parts.Catches mode s x h = subst (IsDecoded parts.Catches) h.1 (vec_is IsWellFormedCatch catch catch_is mode s h.0 h.2, refl, refl)
argument_is parts.Types mode s x h = subst (IsDecoded parts.Types) h.1 (vec_is IsVal val_type val_type_is mode s h.0 h.2, refl, refl)
argument_is parts.Handles mode s x h = subst (IsDecoded parts.Handles) h.1 (vec_is IsWellFormedHandle handle handle_is mode s h.0 h.2, refl, refl)
argument_is parts.Flag mode s x h = subst (IsDecoded parts.Flag) h.1 (h.2.1, refl, refl)

abbrev pub AreDecoded : List Part → List Argument → Type 0
AreDecoded ps xs = AreWellFormed xs × (normal_arguments xs ≡ xs) × (map part_of xs ≡ ps)

pub arguments_are : (ps : List Part) → AllValues (AreDecoded ps) (arguments ps)
arguments_are [] mode s xs h = subst (AreDecoded []) (sym h.1) (tt, refl, refl)
arguments_are (p ∷ ps) mode s xs h =
    let first = argument_is p mode h.2.front h.0.0 h.2.first in
    let others = arguments_are ps mode h.2.back h.0.1 h.2.second in
    subst (AreDecoded (p ∷ ps)) h.1 ((first.0, others.0), ap₂ ◌∷◌ first.1 others.1, ap₂ ◌∷◌ first.2 others.2)

pub opcode_is : AllValues IsOpcode opcode
opcode_is mode s op h = subst IsOpcode h.1 (after h.0.0 mode h.2.back h.0.1 h.2.second)
  where
    after : (b : ℕ) → AllValues IsOpcode (op_after b)
    after b mode s op h = go (is_prefix b) refl h
      where
        go : (test : Bool) → is_prefix b ≡ test → when test (mapped (Prefixed b) u32) (fixed [] (Byte b)) mode s op → IsOpcode op
        go true e k = subst IsOpcode k.1 (e, k.2.range)
        go false e k = subst IsOpcode (sym k.1) e

-- A decoded instruction is well-formed and in normal form.
abbrev IsNormal : Plain → Type 0
IsNormal i = IsWellFormed table i × (normal i ≡ i)

pub instruction_is : AllValues IsNormal (instruction table)
instruction_is mode s i h = subst IsNormal h.1 (go (shape_of table h.0.0) refl h.2.second)
  where
    go : (shape : Option Shape) → shape_of table h.0.0 ≡ shape → arguments_after shape mode h.2.back h.0.1 → IsNormal (plain_of h.0)
    go None e k = absurd k
    go (Some shape) e k =
        let given = arguments_are (parts_of shape) mode h.2.back h.0.1 k in
        (record { shape = shape; opcode = opcode_is mode h.2.front h.0.0 h.2.first; row = e; parts = given.2; arguments = given.0 }, ap (λ xs. plain_of (h.0.0, xs)) given.1)

instruction_encodes : (i : Plain) (s : List ℕ) → instruction table padded s i → instruction table minimal (plain_encoding i) i
instruction_encodes i s h = let is = instruction_is padded s i h in subst (λ j. instruction table minimal (plain_encoding i) j) is.1 (plain_encodes table i is.0)

arguments_encoding_of : {A : Type 0} (xs : List (Arg A)) → flat_map (λ a. argument_encoding (argument_view a)) xs ≡ arguments_encoding (map argument_view xs)
arguments_encoding_of [] = refl
arguments_encoding_of (x ∷ xs) = ap (λ z. argument_encoding (argument_view x) ++ z) (arguments_encoding_of xs)

-- The opcode is appended, then the immediates.
pub instruction_appended : {A : Type 0} (op : Op) (xs : List (Arg A)) (old middle new : List ℕ) → middle ≡ old ++ op_encoding op → new ≡ middle ++ flat_map (λ a. argument_encoding (argument_view a)) xs
    → AppendsMinimal builders_alone (instruction table) (plain_of (op, map argument_view xs)) old new
instruction_appended op xs old middle new e f = record {
  encoding = plain_encoding (plain_of (op, map argument_view xs));
  appended = f ∙ ap (λ z. z ++ flat_map (λ a. argument_encoding (argument_view a)) xs) e ∙ append_assoc old (op_encoding op) (flat_map (λ a. argument_encoding (argument_view a)) xs) ∙ ap (λ z. old ++ (op_encoding op ++ z)) (arguments_encoding_of xs);
  encodes = built_encoding (instruction table) (plain_of (op, map argument_view xs)) (plain_encoding (plain_of (op, map argument_view xs))) (λ s h. instruction_encodes (plain_of (op, map argument_view xs)) s h);
}

-- ---- counts of immediates that have an encoding

pub any_members : {T : Type 0} (P : T → Type 0) (xs : List T) → IsEncodableVec P xs → IsEncodableVec (λ x. Unit {0}) xs
any_members P xs h = record { count = h.count; members = λ k d l. tt }

pub formed_encodable : (x : Argument) → IsWellFormedArgument x → argument_encodable x
formed_encodable (labels ns) h = any_members _ ns h
formed_encodable (catches cs) h = any_members _ cs h
formed_encodable (types ts) h = any_members _ ts h
formed_encodable (handles hs) h = any_members _ hs h
formed_encodable x h = tt

pub arguments_plain : (i : Plain) → HasEncoding builders_alone (instruction table) i → AreWellFormed i.arguments
arguments_plain i h = (instruction_is (padded_of h.grammar) h.bytes i h.decoded).0.arguments

pub plain_at : {A : Type 0} (xs : List (Arg A)) (i : ℕ) (x : Arg A) → i < length xs → x ≡ get_or xs i x → AreWellFormed (map argument_view xs) → IsWellFormedArgument (argument_view x)
plain_at [] i x low is h = absurd (omega (arith, low))
plain_at (y ∷ ys) zero x low is h = subst (λ z. IsWellFormedArgument (argument_view z)) (sym is) h.0
plain_at (y ∷ ys) (suc i) x low is h = plain_at ys i x (omega (arith, low)) is h.1
