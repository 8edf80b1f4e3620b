-- This file proves what a pass appends for an instruction: the minimal encoding of the instruction
-- with its indices mapped.
use Rattle.wasm_base.proofs.Words.{◌≡◌, ◌≢◌, ℕ, ◌<◌, List, [], ◌∷◌, ◌++◌, map, Bool, true, false, Option, Some, None, ◌&&◌, get_or, refl, sym, ap, ap₂, subst, ◌∙◌, arith, append-nil, append_assoc, and_parts, ltb, range_with_len, get_or-map-range_with_len}
use Rattle.std.proofs.lemmas.Bool.{false≢true, ltb-true}
use Rattle.wasm_base.specs.Decoding.{Decodes}
use Rattle.wasm_base.specs.Minimal.{AppendsMinimal, builders_alone}
use Rattle.wasm_base.specs.Numbers.{admitted, builders, minimal, padded, standard, standard_minimal}
use Rattle.wasm_base.specs.Formats.{pair, u32, Then}
use Rattle.wasm_base.proofs.DecodingSteps.{decodes_same}
use Rattle.wasm_base.proofs.GrammarLaws.{AreMinimalInBoth, minimal_in, u32_both, byte_both, fixed_both, when_both, mapped_both, tagged_both}
use Rattle.wasm_immediates.specs.Immediates.{block_encoding_in}
use Rattle.wasm_immediates.specs.ImmediateFormats.{block_type}
use Rattle.wasm_immediates.specs.declared.block_type.BlockType.{BlockType}
use Rattle.wasm_immediates.specs.declared.memory.MemArg.{MemArg}
use Rattle.wasm_immediates.proofs.MinimalImmediates.{block_in}
use Rattle.wasm_insn.specs.Arguments.{Argument, unsigned, signed32, signed64, float32, float64, vector, memory, lane, lanes, block, heap, ordering, labels, catches, types, handles, flag, argument_encoding, part_of}
use Rattle.wasm_insn.specs.Opcodes.{op_encoding}
use Rattle.wasm_insn.specs.Operands.{AreOperands, DecodesOperation}
use Rattle.wasm_insn.specs.Parts.{parts_of}
use Rattle.wasm_insn.specs.Plain.{Plain, part, arguments, arguments_after, opcode, op_after, is_prefix, shape_of, plain_of, plain_encoding, instruction}
use Rattle.wasm_insn.specs.Table.{one_byte, shape_in, table}
use Rattle.wasm_insn.specs.declared.op.Op.{Op}
use Rattle.wasm_insn.specs.declared.op.Op.TheVariants.{Byte, Prefixed}
use Rattle.wasm_insn.specs.declared.op.Shape.{Shape}
use Rattle.wasm_insn.specs.declared.op.Shape.TheVariants.{Uu}
use Rattle.wasm_insn.specs.declared.operands.Operands.{Operands}
use Rattle.wasm_insn.specs.declared.part.Part.{Part}
use Rattle.wasm_insn.specs.declared.part.Part.TheVariants as parts
use Rattle.wasm_insn.proofs.DecodeInstructions.{op_byte}
use Rattle.wasm_insn.proofs.DecodePlain.{argument_is, instruction_is, opcode_is}
use Rattle.wasm_insn.proofs.InstructionLaws.{one_argument, unique}
use Rattle.wasm_insn.proofs.PlainLaws.{arguments_unambiguous, opcode_encodes, opcode_unambiguous, part_unambiguous, plain_encodes}
use Rattle.wasm_insn.proofs.TableRuns.{byte_shape}
use Rattle.wasm_insn.proofs.WalkInstructions.{rare_walks}
use Rattle.wasm_remap.specs.Instructions.{remapped_arguments, remapped_instruction}
use Rattle.wasm_remap.specs.Mapping.{Mapping, mapped_in}
use Rattle.wasm_remap.specs.Spaces.{Spaces, spaces_of}
use Rattle.wasm_remap.specs.Streamed.{AppendsForm, Remaps, HaveNoIndex, is_within, bytes_without_index}
use Rattle.wasm_remap.specs.declared.spaces.IndexSpace.{IndexSpace}

-- ---- an opcode, and one immediate

opcode_both : AreMinimalInBoth opcode
opcode_both = tagged_both byte_both after
  where
    after : (b : ℕ) → AreMinimalInBoth (op_after b)
    after b = when_both (is_prefix b) (mapped_both (Prefixed b) u32_both) (fixed_both [] (Byte b))

opcode_written : (op : Op) (s : List ℕ) → opcode standard s op → opcode standard_minimal (op_encoding op) op
opcode_written op s h = minimal_in admitted op (op_encoding op) opcode_both (opcode_encodes op (opcode_is standard s op h))

-- The bytes are the minimal encoding of the immediate, whatever its type is.
abbrev pub IsMinimal : Argument → List ℕ → Type 0
IsMinimal x encoding = (p : Part) (s : List ℕ) → part p standard s x → part p standard_minimal encoding x

-- The bytes are the minimal encodings of the immediates.
abbrev pub AreMinimal : List Argument → List ℕ → Type 0
AreMinimal [] t = t ≡ []
AreMinimal (x ∷ xs) t = (front back : List ℕ) × (t ≡ front ++ back) × IsMinimal x front × AreMinimal xs back

arguments_written : (ps : List Part) (s : List ℕ) (xs : List Argument) (t : List ℕ) → AreMinimal xs t → arguments ps standard s xs → arguments ps standard_minimal t xs
arguments_written [] s [] t is h = (is, refl)
arguments_written [] s (x ∷ xs) t is h = let e = h.1 in absurd cc
arguments_written (p ∷ ps) s [] t is h = let e = h.1 in absurd cc
arguments_written (p ∷ ps) s (x ∷ xs) t is h =
    let e = h.1 in
    let first : h.0.0 ≡ x = cc in
    let others : h.0.1 ≡ xs = cc in
    let a = is.3 p h.2.front (subst (part p standard h.2.front) first h.2.first) in
    let b = arguments_written ps h.2.back xs is.1 is.4 (subst (arguments ps standard h.2.back) others h.2.second) in
    ((x, xs), refl, record { front = is.0; back = is.1; joined = is.2; first = a; second = b })

after_written : (shape : Option Shape) (s : List ℕ) (xs : List Argument) (t : List ℕ) → AreMinimal xs t → arguments_after shape standard s xs → arguments_after shape standard_minimal t xs
after_written None s xs t is h = absurd h
after_written (Some shape) s xs t is h = arguments_written (parts_of shape) s xs t is h

-- The opcode is appended, and then the immediates.
operation_appends : (op : Op) (xs : List Argument) (encoding old middle new : List ℕ) → middle ≡ old ++ op_encoding op → new ≡ middle ++ encoding → AreMinimal xs encoding → AppendsForm (instruction table) (plain_of (op, xs)) old new
operation_appends op xs encoding old middle new d e is = record {
  encoding = op_encoding op ++ encoding;
  appended = e ∙ ap (λ z. z ++ encoding) d ∙ append_assoc old (op_encoding op) encoding;
  encodes = λ h.
      let same : h.1.0 ≡ (op, xs) = ap (λ i. (i.op, i.arguments)) h.1.1 in
      let t = subst (Then opcode (λ o. arguments_after (shape_of table o)) standard h.0) same h.1.2 in
      ((op, xs), refl, record { front = op_encoding op; back = encoding; joined = refl; first = opcode_written op t.front t.first; second = after_written (shape_of table op) t.back xs encoding is t.second });
}

-- The same for one immediate.
pub one_appends : (op : Op) (x : Argument) (encoding old middle new : List ℕ) → middle ≡ old ++ op_encoding op → new ≡ middle ++ encoding → IsMinimal x encoding → AppendsForm (instruction table) (plain_of (op, x ∷ [])) old new
one_appends op x encoding old middle new d e is = operation_appends op (x ∷ []) encoding old middle new d e (encoding, [], sym (append-nil encoding), is, refl)

-- The encoding of an immediate other than a block type or value types is minimal in both grammars.
encoding_minimal : (x : Argument) → part_of x ≢ parts.Block → part_of x ≢ parts.Types → IsMinimal x (argument_encoding x)
encoding_minimal x b t p s h =
    let is = (argument_is p standard s x h).2 in
    let d : Decodes (part p) standard s x [] = record { front = s; split = sym (append-nil s); encodes = h } in
    let w = rare_walks {E = List ℕ} (λ e l. e ≡ l) admitted p x s [] [] (argument_encoding x) (λ e. b (is ∙ e)) (λ e. t (is ∙ e)) d (record { after = λ l e. ap (λ z. z ++ argument_encoding x) e }) in
    let value : w.value ≡ x = sym (decodes_same (part_unambiguous p) d w.decoded).0 in
    let encoding : w.encoding ≡ argument_encoding x = sym (w.taken.after [] refl) in
    subst (λ z. part p standard_minimal z x) encoding (subst (λ z. part p standard_minimal w.encoding z) value w.encodes)

pub number_minimal : (n : ℕ) → IsMinimal (unsigned n) (argument_encoding (unsigned n))
number_minimal n = encoding_minimal (unsigned n) (λ e. absurd cc) (λ e. absurd cc)

-- The opcode is appended, and then two numbers.
pub two_appends : (op : Op) (a b : ℕ) (old middle next new : List ℕ) → middle ≡ old ++ op_encoding op → next ≡ middle ++ argument_encoding (unsigned a) → new ≡ next ++ argument_encoding (unsigned b) → AppendsForm (instruction table) (plain_of (op, unsigned a ∷ unsigned b ∷ [])) old new
two_appends op a b old middle next new d e f =
    let s = argument_encoding (unsigned a) in
    let t = argument_encoding (unsigned b) in
    let both : new ≡ middle ++ (s ++ t) = f ∙ ap (λ z. z ++ t) e ∙ append_assoc middle s t in
    operation_appends op (unsigned a ∷ unsigned b ∷ []) (s ++ t) old middle new d both (s, t, refl, number_minimal a, (t, [], sym (append-nil t), number_minimal b, refl))

-- The operands of this shape are the two numbers that were decoded.
pub two_are : (bytes rest : List ℕ) (a b : ℕ) (xs : List Argument) → Decodes (pair u32 u32) standard bytes (a, b) rest → arguments (parts_of Uu) standard bytes xs → xs ≡ unsigned a ∷ unsigned b ∷ []
two_are bytes rest a b xs d h =
    let p = d.encodes in
    let second = one_argument standard parts.Unsigned p.back (unsigned b) (b, refl, p.second) in
    let both : arguments (parts_of Uu) standard d.front (unsigned a ∷ unsigned b ∷ []) = ((unsigned a, unsigned b ∷ []), refl, record { front = p.front; back = p.back; joined = p.joined; first = (a, refl, p.first); second = second }) in
    ((arguments_unambiguous (parts_of Uu)).unique standard bytes d.front [] rest xs (unsigned a ∷ unsigned b ∷ []) h both (append-nil bytes ∙ d.split)).0

pub memory_minimal : (a : MemArg) → IsMinimal (memory a) (argument_encoding (memory a))
memory_minimal a = encoding_minimal (memory a) (λ e. absurd cc) (λ e. absurd cc)

pub block_minimal : (ty : BlockType) → IsMinimal (block ty) (block_encoding_in admitted ty)
block_minimal ty p s h =
    let is = (argument_is p standard s (block ty) h).2 in
    let k : part parts.Block standard s (block ty) = subst (λ q. part q standard s (block ty)) (sym is) h in
    let e = k.1 in
    let same : k.0 ≡ ty = cc in
    subst (λ q. part q standard_minimal (block_encoding_in admitted ty) (block ty)) is (ty, refl, (block_in admitted).minimal_in s ty (subst (block_type standard s) same k.2))

-- ---- instructions that stay

-- Whether a number has no index space.
abbrev has_none : Option IndexSpace → Bool
has_none None = true
has_none (Some space) = false

-- Whether immediates of these types have no index, if the numbers among them are in these index
-- spaces.
abbrev have_none : Spaces → List Part → Bool
have_none s [] = true
have_none s (parts.Unsigned ∷ ps) = has_none s.0 && have_none (s.1, None) ps
have_none s (parts.Memory ∷ ps) = false
have_none s (parts.Block ∷ ps) = false
have_none s (parts.Heap ∷ ps) = false
have_none s (parts.Catches ∷ ps) = false
have_none s (parts.Types ∷ ps) = false
have_none s (parts.Handles ∷ ps) = false
have_none s (p ∷ ps) = have_none s ps

no_space : (space : Option IndexSpace) (m : Mapping) (n : ℕ) → has_none space ≡ true → mapped_in m space n ≡ n
no_space None m n h = refl
no_space (Some space) m n h = absurd (false≢true h)

-- Immediates without an index stay.
stays : (m : Mapping) (s : Spaces) (xs : List Argument) → have_none s (map part_of xs) ≡ true → remapped_arguments m s xs ≡ xs
stays m s [] h = refl
stays m s (unsigned n ∷ xs) h =
    let k = and_parts (has_none s.0) (have_none (s.1, None) (map part_of xs)) h in
    ap₂ ◌∷◌ (ap unsigned (no_space s.0 m n k.0)) (stays m (s.1, None) xs k.1)
stays m s (signed32 v ∷ xs) h = ap (λ z. signed32 v ∷ z) (stays m s xs h)
stays m s (signed64 v ∷ xs) h = ap (λ z. signed64 v ∷ z) (stays m s xs h)
stays m s (float32 v ∷ xs) h = ap (λ z. float32 v ∷ z) (stays m s xs h)
stays m s (float64 v ∷ xs) h = ap (λ z. float64 v ∷ z) (stays m s xs h)
stays m s (vector v ∷ xs) h = ap (λ z. vector v ∷ z) (stays m s xs h)
stays m s (memory a ∷ xs) h = absurd (false≢true h)
stays m s (lane n ∷ xs) h = ap (λ z. lane n ∷ z) (stays m s xs h)
stays m s (lanes ns ∷ xs) h = ap (λ z. lanes ns ∷ z) (stays m s xs h)
stays m s (block ty ∷ xs) h = absurd (false≢true h)
stays m s (heap ty ∷ xs) h = absurd (false≢true h)
stays m s (ordering o ∷ xs) h = ap (λ z. ordering o ∷ z) (stays m s xs h)
stays m s (labels ns ∷ xs) h = ap (λ z. labels ns ∷ z) (stays m s xs h)
stays m s (catches cs ∷ xs) h = absurd (false≢true h)
stays m s (types ts ∷ xs) h = absurd (false≢true h)
stays m s (handles hs ∷ xs) h = absurd (false≢true h)
stays m s (flag n ∷ xs) h = ap (λ z. flag n ∷ z) (stays m s xs h)

-- Whether immediates of this shape have no index, if there is a shape.
abbrev shape_has_none : Spaces → Option Shape → Bool
shape_has_none s None = true
shape_has_none s (Some shape) = have_none s (parts_of shape)

-- Whether the byte is no prefix and has no index, if it is in the ranges.
abbrev checked : ℕ → Bool
checked b = elim (is_within bytes_without_index b) [ true ↦ ltb b 0xFB && shape_has_none (spaces_of (Byte b)) (shape_in one_byte b) | false ↦ true ]

all_checked : map checked (range_with_len 0 256) ≡ map (λ b. true) (range_with_len 0 256)
all_checked = refl

byte_checked : (b : ℕ) → b < 256 → checked b ≡ true
byte_checked b l = sym (get_or-map-range_with_len checked 0 256 b b false l (omega arith)) ∙ ap (λ t. get_or t b false) all_checked ∙ get_or-map-range_with_len (λ n. true) 0 256 b b false l (omega arith)

byte_has_none : (b : ℕ) → b < 256 → is_within bytes_without_index b ≡ true → (ltb b 0xFB ≡ true) × (shape_has_none (spaces_of (Byte b)) (shape_of table (Byte b)) ≡ true)
byte_has_none b l e = go (is_within bytes_without_index b) e (byte_checked b l)
  where
    go : (test : Bool) → test ≡ true → elim test [ true ↦ ltb b 0xFB && shape_has_none (spaces_of (Byte b)) (shape_in one_byte b) | false ↦ true ] ≡ true → (ltb b 0xFB ≡ true) × (shape_has_none (spaces_of (Byte b)) (shape_of table (Byte b)) ≡ true)
    go false f h = absurd (false≢true f)
    go true f h =
        let k = and_parts (ltb b 0xFB) (shape_has_none (spaces_of (Byte b)) (shape_in one_byte b)) h in
        (k.0, ap (shape_has_none (spaces_of (Byte b))) (byte_shape b) ∙ k.1)

-- An instruction that begins with such a byte stays.
byte_stays : (m : Mapping) (b : ℕ) (bytes behind rest : List ℕ) (i : Plain) → b < 256 → is_within bytes_without_index b ≡ true → bytes ≡ b ∷ behind → Decodes (instruction table) standard bytes i rest → remapped_instruction m i ≡ i
byte_stays m b bytes behind rest i l e at d =
    let none = byte_has_none b l e in
    let is = (instruction_is standard d.front i d.encodes).0 in
    let q = d.encodes.2 in
    let first : Decodes opcode standard bytes d.encodes.0.0 (q.back ++ rest) = record { front = q.front; split = d.split ∙ ap (λ z. z ++ rest) q.joined ∙ append_assoc q.front q.back rest; encodes = q.first } in
    let known : Decodes opcode standard bytes (Byte b) behind = op_byte bytes behind b (record { front = b ∷ []; split = at; encodes = refl }) (ltb-true b 0xFB none.0) in
    let op : i.op ≡ Byte b = sym (ap (λ j. j.op) d.encodes.1) ∙ (decodes_same opcode_unambiguous first known).0 in
    let row : shape_has_none (spaces_of i.op) (shape_of table i.op) ≡ true = subst (λ o. shape_has_none (spaces_of o) (shape_of table o) ≡ true) (sym op) none.1 in
    let shaped : have_none (spaces_of i.op) (parts_of is.shape) ≡ true = subst (λ s. shape_has_none (spaces_of i.op) s ≡ true) is.row row in
    ap (λ xs. plain_of (i.op, xs)) (stays m (spaces_of i.op) i.arguments (subst (λ ps. have_none (spaces_of i.op) ps ≡ true) (sym is.parts) shaped))

-- ---- an instruction at the front

module _ (m : Mapping) (bytes rest : List ℕ) (i : Plain) (d : Decodes (instruction table) standard bytes i rest) where
  stay_remaps : (encoding old new : List ℕ) → instruction table standard_minimal encoding i → new ≡ old ++ encoding → remapped_instruction m i ≡ i → Remaps (remapped_instruction m) (instruction table) bytes rest old new
  stay_remaps encoding old new e a same = record { value = i; decoded = d; appends = record { encoding = encoding; appended = a; encodes = λ h. subst (instruction table standard_minimal encoding) (sym same) e } }

  -- A walk appended an instruction that begins with a byte without an index.
  pub byte_remaps : (b : ℕ) (behind encoding old new : List ℕ) → b < 256 → is_within bytes_without_index b ≡ true → bytes ≡ b ∷ behind → instruction table standard_minimal encoding i → new ≡ old ++ encoding → Remaps (remapped_instruction m) (instruction table) bytes rest old new
  byte_remaps b behind encoding old new l w at e a = stay_remaps encoding old new e a (byte_stays m b bytes behind rest i l w at d)

  -- A walk appended an instruction whose operands have no index.
  pub operands_remap : (given : Operands) (op : Op) (last encoding old new : List ℕ) → DecodesOperation (instruction table) standard bytes op given last → HaveNoIndex given → instruction table standard_minimal encoding i → new ≡ old ++ encoding → Remaps (remapped_instruction m) (instruction table) bytes rest old new
  operands_remap given op last encoding old new f none e a =
      let same : i ≡ plain_of (op, f.immediates) = (decodes_same unique d f.decodes).0 in
      let stay : remapped_instruction m (plain_of (op, f.immediates)) ≡ plain_of (op, f.immediates) = ap (λ xs. plain_of (op, xs)) (none.stay m (spaces_of op) f.immediates f.operands) in
      stay_remaps encoding old new e a (ap (remapped_instruction m) same ∙ stay ∙ sym same)

-- The instruction was decoded to operands, and appended by them.
pub operation_remaps : (m : Mapping) (bytes rest old new : List ℕ) (op : Op) (given : Operands) → DecodesOperation (instruction table) standard bytes op given rest → ((xs : List Argument) → AreOperands given xs → AppendsForm (instruction table) (remapped_instruction m (plain_of (op, xs))) old new)
    → Remaps (remapped_instruction m) (instruction table) bytes rest old new
operation_remaps m bytes rest old new op given d a = record { value = plain_of (op, d.immediates); decoded = d.decodes; appends = a d.immediates d.operands }

-- ---- by the builders' encoding

-- The builders' encoding of the instruction was walked over.
pub rare_appends : (y v : Plain) (scratch rest encoding old new : List ℕ) → AppendsMinimal builders_alone (instruction table) y [] scratch → Decodes (instruction table) standard scratch v rest → instruction table standard_minimal encoding v → new ≡ old ++ encoding → AppendsForm (instruction table) y old new
rare_appends y v scratch rest encoding old new a d e is = record {
  encoding = encoding;
  appended = is;
  encodes = λ h.
      let formed = instruction_is standard h.0 y h.1 in
      let built : instruction table minimal (plain_encoding y) y = subst (instruction table minimal (plain_encoding y)) formed.1 (plain_encodes table y formed.0) in
      let k = unique.encodings in
      let short : instruction table minimal a.encoding y = a.encodes builders tt (plain_encoding y) (k.included minimal padded tt (plain_encoding y) y built) in
      let admits : instruction table standard a.encoding y = k.included padded standard tt a.encoding y (k.included minimal padded tt a.encoding y short) in
      let again : Decodes (instruction table) standard scratch y [] = record { front = a.encoding; split = a.appended ∙ sym (append-nil a.encoding); encodes = admits } in
      subst (instruction table standard_minimal encoding) (decodes_same unique d again).0 e;
}
