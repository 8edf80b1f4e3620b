-- This file proves that a walk over an instruction gives an effect the minimal encodings of its
-- opcode and of its arguments.
use Rattle.wasm_base.proofs.Words.{Grammar, minimal, padded_of, ◌≡◌, ◌≢◌, ℕ, ◌+◌, ◌<◌, ◌≤◌, List, [], ◌∷◌, ◌++◌, length, get_or, take, Some, refl, sym, ap, subst, ◌∙◌, append_assoc, append-nil, take_more, take_all}
use Rattle.wasm_base.proofs.Words.{Mode, Decodes}
use Rattle.wasm_base.specs.Numbers.{minimal_of}
use Rattle.wasm_base.specs.Walks.{TakesBytes, Walks}
use Rattle.wasm_base.proofs.GrammarLaws.{AreMinimalInBoth, minimal_in, u32_both, s32_both, s64_both, little_endian_both, vector_both, byte_both, raw_bytes_both, fixed_both, such_both, when_both, mapped_both, tagged_both, vec_both}
use Rattle.wasm_base.proofs.WalkLaws.{walked_as, mapped_walks, then_walks, take_nothing, take_then}
use Rattle.wasm_base.proofs.TightTypes.{heap_both}
use Rattle.wasm_immediates.proofs.MinimalImmediates.{mem_arg_both, ordering_both, catch_both, handle_both}
use Rattle.wasm_insn.specs.declared.op.Op.{Op}
use Rattle.wasm_insn.specs.declared.op.Op.TheVariants.{Byte, Prefixed}
use Rattle.wasm_insn.specs.declared.op.Shape.{Shape}
use Rattle.wasm_insn.specs.declared.part.Part.{Part}
use Rattle.wasm_insn.specs.{parts_of, op_encoding, Argument, argument_encoding, part_of, part, arguments, arguments_after, cons, opcode, op_after, is_prefix, shape_of, plain_of, instruction, table}
use Rattle.wasm_insn.specs.Plain.{float32_of, float64_of}
use Rattle.wasm_insn.specs.Arguments.{unsigned, signed32, signed64, vector, memory, lane, lanes, heap, ordering, labels, catches, handles, flag}
use Rattle.wasm_insn.proofs.DecodeArguments.{HasArguments, arguments_start, arguments_step, arguments_done}
use Rattle.wasm_insn.proofs.DecodePlain.{argument_is, opcode_is}
use Rattle.wasm_insn.proofs.PlainLaws.{argument_encodes, opcode_encodes}
use Rattle.wasm_insn.specs.declared.part.Part.TheVariants as parts

-- ---- one argument

part_both : (p : Part) → p ≢ parts.Block → p ≢ parts.Types → AreMinimalInBoth (part p)
part_both parts.Unsigned b t = mapped_both unsigned u32_both
part_both parts.Signed32 b t = mapped_both signed32 s32_both
part_both parts.Signed64 b t = mapped_both signed64 s64_both
part_both parts.Float32 b t = mapped_both float32_of (little_endian_both 4)
part_both parts.Float64 b t = mapped_both float64_of (little_endian_both 8)
part_both parts.Vector b t = mapped_both vector vector_both
part_both parts.Memory b t = mapped_both memory mem_arg_both
part_both parts.Lane b t = mapped_both lane byte_both
part_both parts.Lanes b t = mapped_both lanes (raw_bytes_both 16)
part_both parts.Block b t = absurd (b refl)
part_both parts.Heap b t = mapped_both heap heap_both
part_both parts.Ordering b t = mapped_both ordering ordering_both
part_both parts.Labels b t = mapped_both labels (vec_both u32_both)
part_both parts.Catches b t = mapped_both catches (vec_both catch_both)
part_both parts.Types b t = absurd (t refl)
part_both parts.Handles b t = mapped_both handles (vec_both handle_both)
part_both parts.Flag b t = mapped_both flag (such_both (λ b. b < 4) byte_both)

-- A decoded argument is encoded again.
pub rare_walks : {E : Type 0} (seen : E → List ℕ → Type 0) (w : Grammar) (p : Part) (x : Argument) (bytes rest : List ℕ) (old new : E) → p ≢ parts.Block → p ≢ parts.Types → Decodes (part p) (padded_of w) bytes x rest → TakesBytes seen (argument_encoding x) old new → Walks seen w (part p) bytes rest old new
rare_walks seen w p x bytes rest old new b t h e =
    let is = argument_is p (padded_of w) h.front x h.encodes in
    let encodes : part p minimal (argument_encoding x) x = subst (λ q. part q minimal (argument_encoding x) x) is.2 (subst (λ y. part (part_of x) minimal (argument_encoding x) y) is.1 (argument_encodes x is.0)) in
    walked_as seen w (part p) x bytes rest (argument_encoding x) old new h (minimal_in w x (argument_encoding x) (part_both p b t) encodes) e

-- The argument has this type.
pub part_walks : {E : Type 0} {seen : E → List ℕ → Type 0} {wanted : Part} (w : Grammar) (p : Part) (bytes rest : List ℕ) (old new : E) → wanted ≡ p → Walks seen w (part p) bytes rest old new → Walks seen w (part wanted) bytes rest old new
part_walks {seen = seen} w p bytes rest old new e h = subst (λ q. Walks seen w (part q) bytes rest old new) (sym e) h

-- ---- a loop over the types of arguments

arguments_push : (ps : List Part) (p : Part) (m : Mode) (s t : List ℕ) (xs : List Argument) (x : Argument) → arguments ps m s xs → part p m t x → arguments (ps ++ p ∷ []) m (s ++ t) (xs ++ x ∷ [])
arguments_push [] p m s t xs x h g = ((x, []), sym (ap (λ z. z ++ x ∷ []) h.1), record { front = t; back = []; joined = ap (λ z. z ++ t) h.0 ∙ sym (append-nil t); first = g; second = (refl, refl) })
arguments_push (q ∷ ps) p m s t xs x h g =
    let k = h.2 in
    let more = arguments_push ps p m k.back t h.0.1 x k.second g in
    ((h.0.0, h.0.1 ++ x ∷ []), ap (λ z. z ++ x ∷ []) h.1, record { front = k.front; back = k.back ++ t; joined = ap (λ z. z ++ t) k.joined ∙ append_assoc k.front k.back t; first = k.first; second = more })

-- The state after the first `k` arguments.
pub record HasWalkedArguments {E : Type 0} (seen : E → List ℕ → Type 0) (w : Grammar) (ps : List Part) (k : ℕ) (bytes rest : List ℕ) (old new : E) : Type 0 where
  pub values : List Argument
  pub read : HasArguments ps (padded_of w) k bytes values rest
  pub encoding : List ℕ
  pub encodes : arguments (take k ps) (minimal_of w) encoding values
  pub taken : TakesBytes seen encoding old new

module _ {E : Type 0} {seen : E → List ℕ → Type 0} {w : Grammar} (ps : List Part) (bytes : List ℕ) where
  pub walked_arguments_start : (old : E) → HasWalkedArguments seen w ps 0 bytes bytes old old
  walked_arguments_start old = record { values = []; read = arguments_start ps bytes [] refl; encoding = []; encodes = (refl, refl); taken = take_nothing seen old }

  pub walked_arguments_step : (k : ℕ) (d : Part) (rest after : List ℕ) (old middle new : E) → k < length ps → HasWalkedArguments seen w ps k bytes rest old middle → Walks seen w (part (get_or ps k d)) rest after middle new → HasWalkedArguments seen w ps (k + 1) bytes after old new
  walked_arguments_step k d rest after old middle new l h g = record {
    values = h.values ++ g.value ∷ [];
    read = arguments_step ps bytes k d rest after h.values g.value l h.read g.decoded;
    encoding = h.encoding ++ g.encoding;
    encodes = subst (λ qs. arguments qs (minimal_of w) (h.encoding ++ g.encoding) (h.values ++ g.value ∷ [])) (sym (take_more ps k d l)) (arguments_push (take k ps) (get_or ps k d) (minimal_of w) h.encoding g.encoding h.values g.value h.encodes g.encodes);
    taken = take_then seen h.encoding g.encoding old middle new h.taken g.taken;
  }

  pub walked_arguments_done : (k : ℕ) (rest : List ℕ) (old new : E) → length ps ≤ k → HasWalkedArguments seen w ps k bytes rest old new → Walks seen w (arguments ps) bytes rest old new
  walked_arguments_done k rest old new l h = record {
    value = h.values;
    decoded = arguments_done ps bytes k rest h.values l h.read;
    encoding = h.encoding;
    encodes = subst (λ qs. arguments qs (minimal_of w) h.encoding h.values) (take_all k ps l) h.encodes;
    taken = h.taken;
  }

-- ---- by shape

module _ {E : Type 0} {seen : E → List ℕ → Type 0} {w : Grammar} where
  pub shape_walks : (shape : Shape) (ps : List Part) (bytes rest : List ℕ) (old new : E) → ps ≡ parts_of shape → Walks seen w (arguments ps) bytes rest old new → Walks seen w (arguments (parts_of shape)) bytes rest old new
  shape_walks shape ps bytes rest old new e h = subst (λ qs. Walks seen w (arguments qs) bytes rest old new) e h

  no_arguments : (bytes : List ℕ) (old : E) → Walks seen w (arguments []) bytes bytes old old
  no_arguments bytes old = record { value = []; decoded = record { front = []; split = refl; encodes = (refl, refl) }; encoding = []; encodes = (refl, refl); taken = take_nothing seen old }

  -- A shape of no arguments.
  pub none_walks : (shape : Shape) (bytes : List ℕ) (old : E) → parts_of shape ≡ [] → Walks seen w (arguments (parts_of shape)) bytes bytes old old
  none_walks shape bytes old e = shape_walks shape [] bytes bytes old old (sym e) (no_arguments bytes old)

  -- A shape of one argument.
  pub one_walks : (shape : Shape) (p : Part) (bytes rest : List ℕ) (old new : E) → parts_of shape ≡ p ∷ [] → Walks seen w (part p) bytes rest old new → Walks seen w (arguments (parts_of shape)) bytes rest old new
  one_walks shape p bytes rest old new e h = shape_walks shape (p ∷ []) bytes rest old new (sym e) (mapped_walks cons (then_walks h (no_arguments rest new)))

-- ---- an instruction

opcode_both : AreMinimalInBoth opcode
opcode_both = tagged_both byte_both after
  where
    after : (b : ℕ) → AreMinimalInBoth (op_after b)
    after b = when_both (is_prefix b) (mapped_both (Prefixed b) u32_both) (fixed_both [] (Byte b))

pub instruction_walks : {E : Type 0} (seen : E → List ℕ → Type 0) (w : Grammar) (op : Op) (shape : Shape) (bytes rest last : List ℕ) (old middle new : E) → Decodes opcode (padded_of w) bytes op rest → shape_of table op ≡ Some shape → TakesBytes seen (op_encoding op) old middle → Walks seen w (arguments (parts_of shape)) rest last middle new
    → Walks seen w (instruction table) bytes last old new
instruction_walks seen w op shape bytes rest last old middle new h e m g =
    let first = walked_as seen w opcode op bytes rest (op_encoding op) old middle h (minimal_in w op (op_encoding op) opcode_both (opcode_encodes op (opcode_is (padded_of w) h.front op h.encodes))) m in
    mapped_walks plain_of (then_walks {G = λ op. arguments_after (shape_of table op)} first (subst (λ s. Walks seen w (arguments_after s) rest last middle new) (sym e) g))
