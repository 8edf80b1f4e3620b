-- This file proves of formats that builders encode each value of the standard's grammar, in at most
-- twice as many bytes.
use Rattle.wasm_base.proofs.Words.{◌≡◌, ℕ, ◌*◌, ◌≤◌, ◌<◌, List, [], ◌∷◌, ◌++◌, length, Bool, true, false, Option, Some, None, eqb, inl, inr, refl, sym, ap, subst, arith, length-append, eqb-true, ◌∙◌}
use Rattle.wasm_base.specs.Formats.{Format, u32, u64, s32, s64, s33, byte, raw_bytes, little_endian, fixed, impossible, such, when, mapped, Then, pair, tagged, choice, prefixed, members, vec}
use Rattle.wasm_base.specs.Formats.{ended, optional, one_of, coded, numbered, name, vector_format}
use Rattle.wasm_base.specs.Numbers.{builders, minimal, standard_minimal}
use Rattle.wasm_base.specs.Types.{abstract_code, unshared, shared, heap_tags, heap_type, nullable_to, to, HasNoByte, HasNoCode, nullable_abstract, tight_tags, ref_encoding, ref_type, val_tags, val_type}
use Rattle.wasm_base.specs.declared.types.HeapType.{HeapType}
use Rattle.wasm_base.specs.declared.types.HeapType.TheVariants.{Concrete, Exact}
use Rattle.wasm_base.specs.declared.types.AbstractHeapType.{AbstractHeapType}
use Rattle.wasm_base.specs.declared.types.AbstractHeapType.TheVariants as kinds
use Rattle.wasm_base.specs.declared.types.RefType.{RefType}
use Rattle.wasm_base.specs.declared.types.ValType.TheVariants.{Ref}
use Rattle.wasm_base.proofs.EncodingLaws.{tagged_encodes}
use Rattle.wasm_base.proofs.ValTypeLaws.{ref-encodings}
use Rattle.wasm_immediates.specs.ImmediateFormats.{block_type, mem_orderings, mem_ordering, bit, HasIndex, target_of, mem_arg_of, after_flags, mem_arg_in, mem_arg, one_of_pair, one_ref_of_pair, catch_tags, catch, on_label_of_pair, handle_tags, handle}
use Rattle.wasm_immediates.specs.declared.memory.MemArgTarget.TheVariants.{Memory, Array}
use Rattle.wasm_insn.specs.Arguments.{unsigned, signed32, signed64, vector, memory, lane, lanes, block, heap, ordering, labels, catches, types, handles, flag}
use Rattle.wasm_insn.specs.Parts.{parts_of}
use Rattle.wasm_insn.specs.Plain.{float32_of, float64_of, part, cons, arguments, is_prefix, op_after, opcode, shape_of, arguments_after, plain_of, instruction}
use Rattle.wasm_insn.specs.Table.{table}
use Rattle.wasm_insn.specs.declared.op.Op.TheVariants.{Byte, Prefixed}
use Rattle.wasm_insn.specs.declared.op.Shape.{Shape}
use Rattle.wasm_insn.specs.declared.part.Part.{Part}
use Rattle.wasm_insn.specs.declared.part.Part.TheVariants as parts
use Rattle.wasm_code.specs.Bodies.{body_of, body}
use Rattle.wasm_code.specs.Expressions.{IsNoEnd, expression}

-- The bytes encode the value minimally, as builders do, and are at most twice as many as `n`.
abbrev pub BuiltForm : {X : Type 0} (F : Format X) (n : ℕ) (x : X) → Type 0
BuiltForm F n x = (t : List ℕ) × F minimal t x × (length t ≤ 2 * n)

-- Builders encode each value that has a minimal encoding in the standard's grammar, in at most
-- twice as many bytes.
pub record AreBuilt {X : Type 0} (F : Format X) : Type 0 where
  pub form : (s : List ℕ) (x : X) → F standard_minimal s x → BuiltForm F (length s) x

-- The same bytes encode each value.
pub same_form : {X : Type 0} {F : Format X} → ((s : List ℕ) (x : X) → F standard_minimal s x → F minimal s x) → AreBuilt F
same_form {F} k = record { form = λ s x h. (s, k s x h, omega (arith)) }

-- ---- numbers and bytes

pub u32_same : (s : List ℕ) (n : ℕ) → u32 standard_minimal s n → u32 minimal s n
u32_same s n h = record { groups = h.groups; total = h.total; range = h.range; size = h.size }

pub u32_built : AreBuilt u32
u32_built = same_form u32_same

pub u64_built : AreBuilt u64
u64_built = same_form (λ s n h. record { groups = h.groups; total = h.total; range = h.range; size = h.size })

pub s32_built : AreBuilt s32
s32_built = same_form (λ s n h. record { groups = h.groups; total = h.total; above = h.above; below = h.below; size = h.size })

pub s64_built : AreBuilt s64
s64_built = same_form (λ s n h. record { groups = h.groups; total = h.total; above = h.above; below = h.below; size = h.size })

pub s33_built : AreBuilt s33
s33_built = same_form (λ s n h. record { groups = h.groups; total = h.total; above = h.above; below = h.below; size = h.size })

pub byte_built : AreBuilt byte
byte_built = same_form (λ s x h. h)

pub raw_bytes_built : (n : ℕ) → AreBuilt (raw_bytes n)
raw_bytes_built n = same_form (λ s x h. h)

pub little_endian_built : (n : ℕ) → AreBuilt (little_endian n)
little_endian_built n = same_form (λ s x h. h)

pub vector_built : AreBuilt vector_format
vector_built = same_form (λ s x h. h)

pub fixed_built : {X : Type 0} (bytes : List ℕ) (v : X) → AreBuilt (fixed bytes v)
fixed_built bytes v = same_form (λ s x h. h)

pub impossible_built : {X : Type 0} → AreBuilt (impossible {X = X})
impossible_built = same_form (λ s x h. h)

pub coded_built : {X : Type 0} (code : X → ℕ) → AreBuilt (coded code)
coded_built code = same_form (λ s x h. h)

pub numbered_built : {X : Type 0} (code : X → ℕ) → AreBuilt (numbered code)
numbered_built code = same_form (λ s x h. u32_same s (code x) h)

pub name_built : AreBuilt name
name_built = same_form (λ s x h. (record { front = h.0.front; content = h.0.content; joined = h.0.joined; size = u32_same h.0.front (length h.0.content) h.0.size; encodes = h.0.encodes }, h.1))

-- ---- combinators

pub such_built : {X : Type 0} (P : X → Type 0) {F : Format X} → AreBuilt F → AreBuilt (such P F)
such_built P {F} k = record { form = λ s x h. let a = k.form s x h.0 in (a.0, (a.1, h.1), a.2) }

pub when_built : {X : Type 0} (test : Bool) {F G : Format X} → AreBuilt F → AreBuilt G → AreBuilt (when test F G)
when_built true {F} {G} k l = k
when_built false {F} {G} k l = l

pub mapped_built : {X Y : Type 0} (f : X → Y) {F : Format X} → AreBuilt F → AreBuilt (mapped f F)
mapped_built f {F} k = record { form = λ s y h. let a = k.form s h.0 h.2 in (a.0, (h.0, h.1, a.1), a.2) }

pub then_built : {X Y : Type 0} {F : Format X} {G : X → Format Y} → AreBuilt F → ((x : X) → AreBuilt (G x)) → AreBuilt (Then F G)
then_built {F} {G} k l = record {
  form = λ s p h.
      let a = k.form h.front p.0 h.first in
      let b = (l p.0).form h.back p.1 h.second in
      (a.0 ++ b.0, record { front = a.0; back = b.0; joined = refl; first = a.1; second = b.1 }, omega (arith, a.2, b.2, length-append a.0 b.0, ap length h.joined, length-append h.front h.back));
}

pub pair_built : {X Y : Type 0} {F : Format X} {G : Format Y} → AreBuilt F → AreBuilt G → AreBuilt (pair F G)
pair_built {F} {G} k l = then_built k (λ x. l)

pub tagged_built : {X Y : Type 0} {F : Format X} {G : X → Format Y} → AreBuilt F → ((x : X) → AreBuilt (G x)) → AreBuilt (tagged F G)
tagged_built {F} {G} k l = mapped_built (λ x. x.1) (then_built k l)

pub prefixed_built : {X : Type 0} (bytes : List ℕ) {F : Format X} → AreBuilt F → AreBuilt (prefixed bytes F)
prefixed_built bytes {F} k = tagged_built (fixed_built bytes (tt {0})) (λ u. k)

-- The same of all formats that the tags select.
abbrev pub AllBuilt : {X : Type 0} → List (ℕ × Format X) → Type 0
AllBuilt [] = Unit {0}
AllBuilt (c ∷ cs) = AreBuilt c.1 × AllBuilt cs

pub choice_built : {X : Type 0} (cs : List (ℕ × Format X)) (other : ℕ → Format X) → AllBuilt cs → ((b : ℕ) → AreBuilt (other b)) → (b : ℕ) → AreBuilt (choice cs other b)
choice_built [] other all k b = k b
choice_built (c ∷ cs) other all k b = when_built (eqb b c.0) all.0 (choice_built cs other all.1 k b)

-- A tag, and the value whose format the tag selects.
pub selected_built : {X : Type 0} {F : Format ℕ} (cs : List (ℕ × Format X)) → AreBuilt F → AllBuilt cs → AreBuilt (tagged F (choice cs (λ b. impossible)))
selected_built {F = F} cs k all = tagged_built k (choice_built cs (λ b. impossible) all (λ b. impossible_built))

pub choices_built : {X : Type 0} (cs : List (ℕ × Format X)) → AllBuilt cs → AreBuilt (tagged byte (choice cs (λ b. impossible)))
choices_built cs all = selected_built cs byte_built all

pub one_of_built : {X : Type 0} {F G : Format X} → AreBuilt F → AreBuilt G → AreBuilt (one_of F G)
one_of_built {X} {F} {G} k l = record { form = form }
  where
    form : (s : List ℕ) (x : X) → one_of F G standard_minimal s x → BuiltForm (one_of F G) (length s) x
    form s x (inl h) = let a = k.form s x h in (a.0, inl a.1, a.2)
    form s x (inr h) = let a = l.form s x h in (a.0, inr a.1, a.2)

pub optional_built : {X : Type 0} (test : Bool) {F : Format X} → AreBuilt F → AreBuilt (optional test F)
optional_built test {F} k = when_built test (mapped_built Some k) (fixed_built [] None)

pub members_built : {X : Type 0} {F : Format X} → AreBuilt F → AreBuilt (members F)
members_built {X} {F} k = record { form = form }
  where
    form : (s : List ℕ) (xs : List X) → members F standard_minimal s xs → BuiltForm (members F) (length s) xs
    form s [] h = (s, h, omega (arith))
    form s (x ∷ xs) h =
        let a = k.form h.0 x h.3 in
        let b = form h.1 xs h.4 in
        (a.0 ++ b.0, (a.0, b.0, refl, a.1, b.1), omega (arith, a.2, b.2, length-append a.0 b.0, ap length h.2, length-append h.0 h.1))

pub vec_built : {X : Type 0} {F : Format X} → AreBuilt F → AreBuilt (vec F)
vec_built {X} {F} k = let both : AreBuilt (Then u32 (λ n. members F)) = then_built u32_built (λ n. members_built k) in record { form = λ s xs h. both.form s (length xs, xs) h }

pub ended_built : {X : Type 0} (stop : ℕ) {F : Format X} → AreBuilt F → AreBuilt (ended stop F)
ended_built {X} stop {F} k = record { form = form }
  where
    form : (s : List ℕ) (xs : List X) → ended stop F standard_minimal s xs → BuiltForm (ended stop F) (length s) xs
    form s [] h = (s, h, omega (arith))
    form s (x ∷ xs) h =
        let a = k.form h.0 x h.3 in
        let b = form h.1 xs h.4 in
        (a.0 ++ b.0, (a.0, b.0, refl, a.1, b.1), omega (arith, a.2, b.2, length-append a.0 b.0, ap length h.2, length-append h.0 h.1))

-- ---- types

-- The relation holds for the tag and what follows it, for each of these formats.
abbrev AllTags : {X : Type 0} → (List ℕ → X → Type 0) → List (ℕ × Format X) → Type 0
AllTags Q [] = Unit {0}
AllTags Q (c ∷ cs) = ((t : List ℕ) (x : _) → c.1 standard_minimal t x → Q (c.0 ∷ t) x) × AllTags Q cs

chosen : {X : Type 0} (Q : List ℕ → X → Type 0) (cs : List (ℕ × Format X)) → AllTags Q cs → (b : ℕ) (t : List ℕ) (x : X) → choice cs (λ b. impossible) b standard_minimal t x → Q (b ∷ t) x
chosen Q [] all b t x h = absurd h
chosen {X} Q (c ∷ cs) all b t x h = go (chosen Q cs all.1 b t x) (eqb b c.0) refl h
  where
    go : (choice cs (λ b. impossible) b standard_minimal t x → Q (b ∷ t) x) → (test : Bool) → eqb b c.0 ≡ test → when test c.1 (choice cs (λ b. impossible) b) standard_minimal t x → Q (b ∷ t) x
    go more true e w = subst (λ z. Q (z ∷ t) x) (sym (eqb-true b c.0 e)) (all.0 t x w)
    go more false e w = more w

heap_built : AreBuilt heap_type
heap_built = one_of_built (mapped_built unshared (coded_built abstract_code)) (one_of_built (choices_built heap_tags (mapped_built shared (coded_built abstract_code), (mapped_built Exact u32_built, tt))) (mapped_built Concrete s33_built))

-- A heap type that has no code of its own as a nullable reference in the standard's grammar has none
-- in the builders'.
no_byte : (h : HeapType) → HasNoCode h → HasNoByte h
no_byte h n = (λ e. subst HasNoCode e n, λ e. subst HasNoCode e n)

abstract_length : (ty : AbstractHeapType) → length (ref_encoding (nullable_abstract ty)) ≤ 2
abstract_length kinds.Func = omega arith
abstract_length kinds.Extern = omega arith
abstract_length kinds.Any = omega arith
abstract_length kinds.None = omega arith
abstract_length kinds.NoExtern = omega arith
abstract_length kinds.NoFunc = omega arith
abstract_length kinds.Eq = omega arith
abstract_length kinds.Struct = omega arith
abstract_length kinds.Array = omega arith
abstract_length kinds.I31 = omega arith
abstract_length kinds.Exn = omega arith
abstract_length kinds.NoExn = omega arith
abstract_length kinds.Cont = omega arith
abstract_length kinds.NoCont = omega arith

-- The same for a reference type of these bytes.
abbrev RefForm : List ℕ → RefType → Type 0
RefForm s r = BuiltForm ref_type (length s) r

pub ref_built : AreBuilt ref_type
ref_built = record { form = form }
  where
    nullable : (t : List ℕ) (r : RefType) → mapped nullable_to (such HasNoCode heap_type) standard_minimal t r → RefForm (0x63 ∷ t) r
    nullable t r h =
        let a = heap_built.form t h.0 h.2.0 in
        (0x63 ∷ a.0, subst (λ z. ref_type minimal (0x63 ∷ a.0) z) h.1 (tagged_encodes minimal 0x63 a.0 (nullable_to h.0) (h.0, refl, (a.1, no_byte h.0 h.2.1))), omega (arith, a.2))

    required : (t : List ℕ) (r : RefType) → mapped to heap_type standard_minimal t r → RefForm (0x64 ∷ t) r
    required t r h =
        let a = heap_built.form t h.0 h.2 in
        (0x64 ∷ a.0, subst (λ z. ref_type minimal (0x64 ∷ a.0) z) h.1 (tagged_encodes minimal 0x64 a.0 (to h.0) (h.0, refl, a.1)), omega (arith, a.2))

    form : (s : List ℕ) (r : RefType) → ref_type standard_minimal s r → RefForm s r
    form s r (inl h) = (ref_encoding (nullable_abstract h.0), subst (λ z. ref_type minimal (ref_encoding (nullable_abstract h.0)) z) h.1 (ref-encodings.encodes (nullable_abstract h.0) tt), omega (arith, abstract_length h.0, ap length h.2))
    form s r (inr h) =
        let e : s ≡ h.0.0 ∷ h.2.back = h.2.joined ∙ ap (λ z. z ++ h.2.back) h.2.first in
        let c = subst (λ y. choice tight_tags (λ b. impossible) h.0.0 standard_minimal h.2.back y) h.1 h.2.second in
        subst (λ z. RefForm z r) (sym e) (chosen RefForm tight_tags (nullable, (required, tt)) h.0.0 h.2.back r c)

pub val_built : AreBuilt val_type
val_built = one_of_built (choices_built val_tags (fixed_built [] _, (fixed_built [] _, (fixed_built [] _, (fixed_built [] _, (fixed_built [] _, tt)))))) (mapped_built Ref ref_built)

-- ---- instructions

target_built : (array other : Bool) → AreBuilt (target_of builders array other)
target_built false false = fixed_built [] _
target_built true false = mapped_built Array u32_built
target_built false true = mapped_built Memory (such_built (HasIndex builders) u32_built)
target_built true true = impossible_built

mem_ordering_built : AreBuilt mem_ordering
mem_ordering_built = choices_built mem_orderings (fixed_built [] _, (fixed_built [] _, (fixed_built [] _, tt)))

mem_arg_built : AreBuilt mem_arg
mem_arg_built = record { form = λ s m h. within.form s m h }
  where
    after_built : (flags : ℕ) → AreBuilt (after_flags builders flags)
    after_built flags = when_built _ (mapped_built (mem_arg_of _) (pair_built (target_built (bit 5 flags) (bit 6 flags)) (pair_built (optional_built (bit 4 flags) mem_ordering_built) u64_built))) impossible_built

    within : AreBuilt (mem_arg_in builders)
    within = tagged_built u32_built after_built

block_built : AreBuilt block_type
block_built = one_of_built (fixed_built _ _) (one_of_built (mapped_built _ val_built) (mapped_built _ s33_built))

catch_built : AreBuilt catch
catch_built = choices_built catch_tags (mapped_built one_of_pair (pair_built u32_built u32_built), (mapped_built one_ref_of_pair (pair_built u32_built u32_built), (mapped_built _ u32_built, (mapped_built _ u32_built, tt))))

handle_built : AreBuilt handle
handle_built = choices_built handle_tags (mapped_built on_label_of_pair (pair_built u32_built u32_built), (mapped_built _ u32_built, tt))

part_built : (p : Part) → AreBuilt (part p)
part_built parts.Unsigned = mapped_built unsigned u32_built
part_built parts.Signed32 = mapped_built signed32 s32_built
part_built parts.Signed64 = mapped_built signed64 s64_built
part_built parts.Float32 = mapped_built float32_of (little_endian_built 4)
part_built parts.Float64 = mapped_built float64_of (little_endian_built 8)
part_built parts.Vector = mapped_built vector vector_built
part_built parts.Memory = mapped_built memory mem_arg_built
part_built parts.Lane = mapped_built lane byte_built
part_built parts.Lanes = mapped_built lanes (raw_bytes_built 16)
part_built parts.Block = mapped_built block block_built
part_built parts.Heap = mapped_built heap heap_built
part_built parts.Ordering = mapped_built ordering (coded_built _)
part_built parts.Labels = mapped_built labels (vec_built u32_built)
part_built parts.Catches = mapped_built catches (vec_built catch_built)
part_built parts.Types = mapped_built types (vec_built val_built)
part_built parts.Handles = mapped_built handles (vec_built handle_built)
part_built parts.Flag = mapped_built flag (such_built (λ b. b < 4) byte_built)

arguments_built : (ps : List Part) → AreBuilt (arguments ps)
arguments_built [] = fixed_built [] []
arguments_built (p ∷ ps) = mapped_built cons (pair_built (part_built p) (arguments_built ps))

after_built : (shape : Option Shape) → AreBuilt (arguments_after shape)
after_built None = impossible_built
after_built (Some shape) = arguments_built (parts_of shape)

opcode_built : AreBuilt opcode
opcode_built = tagged_built byte_built after
  where
    after : (b : ℕ) → AreBuilt (op_after b)
    after b = when_built (is_prefix b) (mapped_built (Prefixed b) u32_built) (fixed_built [] (Byte b))

instruction_built : AreBuilt (instruction table)
instruction_built = mapped_built plain_of (then_built opcode_built (λ op. after_built (shape_of table op)))

pub expression_built : AreBuilt expression
expression_built = ended_built 0x0B (such_built IsNoEnd instruction_built)

pub body_built : AreBuilt body
body_built = mapped_built body_of (pair_built (vec_built (pair_built u32_built val_built)) (members_built instruction_built))
