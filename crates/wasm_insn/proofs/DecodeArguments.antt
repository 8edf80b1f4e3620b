-- This file proves how readers decode immediates, one for each type of a shape.
use Rattle.wasm_base.proofs.Words.{Mode, ◌≡◌, ℕ, ℤ, ◌+◌, ◌<◌, ◌≤◌, List, [], ◌∷◌, ◌++◌, length, map, drop, get_or, sym, ap, subst, ◌∙◌, append_assoc, append-nil, add-one, arith, drop-cons, map-id}
use Rattle.wasm_base.proofs.Words.{drop_all, u32, s32, s64, byte, raw_bytes, little_endian, vec, vector_format, Decodes, Rejects, heap_type, val_type, byte_unambiguous, Continues, then_decodes}
use Rattle.wasm_base.proofs.Words.{then_rejects_first, then_rejects_second, mapped_decodes, mapped_rejects, such_decodes, such_none, such_rejects, fixed_decodes}
use Rattle.wasm_base.specs.declared.types.HeapType.{HeapType}
use Rattle.wasm_base.specs.declared.types.ValType.{ValType}
use Rattle.wasm_insn.specs.declared.op.Shape.{Shape}
use Rattle.wasm_insn.specs.declared.part.Part.{Part}
use Rattle.wasm_insn.specs.{parts_of, Argument, unsigned, signed32, signed64, float32, float64, vector, memory, lane, lanes, block, heap, ordering, labels, catches, types, handles, flag, part}
use Rattle.wasm_insn.specs.{arguments, cons, float32_of, float64_of}
use Rattle.wasm_insn.proofs.PlainLaws.{part_unambiguous}
use Rattle.wasm_immediates.specs.declared.floats.Ieee32.{Ieee32}
use Rattle.wasm_immediates.specs.declared.floats.Ieee64.{Ieee64}
use Rattle.wasm_immediates.specs.declared.memory.Ordering.{Ordering}
use Rattle.wasm_immediates.specs.declared.memory.MemArg.{MemArg}
use Rattle.wasm_immediates.specs.declared.block_type.BlockType.{BlockType}
use Rattle.wasm_immediates.specs.declared.control.Catch.{Catch}
use Rattle.wasm_immediates.specs.declared.control.Handle.{Handle}
use Rattle.wasm_immediates.proofs.Words.{ordering_format, block_type, mem_arg, catch, handle}
use Rattle.wasm_insn.specs.declared.part.Part.TheVariants as parts

-- ---- a loop over the types of immediates

-- The state after the first `k` immediates, which are `xs`.
abbrev pub HasArguments : List Part → Mode → ℕ → List ℕ → List Argument → List ℕ → Type 0
HasArguments ps m k bytes xs rest = Continues m (arguments ps) bytes (arguments (drop k ps)) rest (λ ys. xs ++ ys)

module _ (ps : List Part) (bytes : List ℕ) where
  pub arguments_step : {m : Mode} (k : ℕ) (d : Part) (rest after : List ℕ) (xs : List Argument) (x : Argument) → k < length ps → HasArguments ps m k bytes xs rest → Decodes (part (get_or ps k d)) m rest x after → HasArguments ps m (k + 1) bytes (xs ++ x ∷ []) after
  arguments_step {m = m} k d rest after xs x l go g =
      let p = get_or ps k d in
      let e : drop k ps ≡ p ∷ drop (k + 1) ps = drop-cons ps k d l ∙ ap (λ j. p ∷ drop j ps) (sym (add-one k)) in
      record {
        found = λ ys last h.
            subst (λ z. Decodes (arguments ps) m bytes z last) (sym (append_assoc xs (x ∷ []) ys))
            (go.found (x ∷ ys) last (subst (λ qs. Decodes (arguments qs) m rest (x ∷ ys) last) (sym e) (mapped_decodes cons (then_decodes g h))));
        none = λ n. go.none (subst (λ qs. Rejects (arguments qs) m rest) (sym e) (mapped_rejects cons (then_rejects_second (part_unambiguous p) g n)));
      }

  pub arguments_fail : {m : Mode} (k : ℕ) (d : Part) (rest : List ℕ) (xs : List Argument) → k < length ps → HasArguments ps m k bytes xs rest → Rejects (part (get_or ps k d)) m rest → Rejects (arguments ps) m bytes
  arguments_fail {m = m} k d rest xs l go n =
      let e : drop k ps ≡ get_or ps k d ∷ drop (k + 1) ps = drop-cons ps k d l ∙ ap (λ j. get_or ps k d ∷ drop j ps) (sym (add-one k)) in
      go.none (subst (λ qs. Rejects (arguments qs) m rest) (sym e) (mapped_rejects cons (then_rejects_first n)))

  pub arguments_done : {m : Mode} (k : ℕ) (rest : List ℕ) (xs : List Argument) → length ps ≤ k → HasArguments ps m k bytes xs rest → Decodes (arguments ps) m bytes xs rest
  arguments_done {m = m} k rest xs l go =
      let none : List Argument = [] in
      subst (λ z. Decodes (arguments ps) m bytes z rest) (append-nil xs)
      (go.found [] rest (subst (λ qs. Decodes (arguments qs) m rest none rest) (sym (drop_all k ps l)) (fixed_decodes rest none)))

pub arguments_start : {m : Mode} (ps : List Part) (bytes : List ℕ) (xs : List Argument) → xs ≡ [] → HasArguments ps m 0 bytes xs bytes
arguments_start {m = m} ps bytes xs e = record {
  found = λ ys last h. subst (λ zs. Decodes (arguments ps) m bytes (zs ++ ys) last) (sym e) h;
  none = λ n. n;
}

-- ---- by shape

pub shape_decodes : {m : Mode} (shape : Shape) (ps : List Part) (bytes rest : List ℕ) (xs : List Argument) → ps ≡ parts_of shape → Decodes (arguments ps) m bytes xs rest → Decodes (arguments (parts_of shape)) m bytes xs rest
shape_decodes {m = m} shape ps bytes rest xs e h = subst (λ qs. Decodes (arguments qs) m bytes xs rest) e h

pub shape_rejects : {m : Mode} (shape : Shape) (ps : List Part) (bytes : List ℕ) → ps ≡ parts_of shape → Rejects (arguments ps) m bytes → Rejects (arguments (parts_of shape)) m bytes
shape_rejects {m = m} shape ps bytes e n = subst (λ qs. Rejects (arguments qs) m bytes) e n

pub ruleset shape_steps = (shape_decodes, shape_rejects)

-- ---- a shape of one immediate

module _ (shape : Shape) (p : Part) (e : parts_of shape ≡ p ∷ []) (bytes : List ℕ) where
  pub one_rejects : {m : Mode} → Rejects (part p) m bytes → Rejects (arguments (parts_of shape)) m bytes
  one_rejects {m = m} n = subst (λ ps. Rejects (arguments ps) m bytes) (sym e) (mapped_rejects cons (then_rejects_first n))

-- ---- an immediate that is skipped

module _ {wanted : Part} (p : Part) (e : wanted ≡ p) (bytes : List ℕ) where
  pub part_skipped : {m : Mode} (rest : List ℕ) (x : Argument) → Decodes (part p) m bytes x rest → (y : Argument) × Decodes (part wanted) m bytes y rest
  part_skipped {m = m} rest x h = (x, subst (λ q. Decodes (part q) m bytes x rest) (sym e) h)

  pub part_none : {m : Mode} → Rejects (part p) m bytes → Rejects (part wanted) m bytes
  part_none {m = m} n = subst (λ q. Rejects (part q) m bytes) (sym e) n

-- ---- each type of immediate

pub unsigned_decodes : {m : Mode} (bytes rest : List ℕ) (v : ℕ) → Decodes u32 m bytes v rest → Decodes (part parts.Unsigned) m bytes (unsigned v) rest
unsigned_decodes bytes rest v h = mapped_decodes unsigned h

pub unsigned_none : {m : Mode} (bytes : List ℕ) → Rejects u32 m bytes → Rejects (part parts.Unsigned) m bytes
unsigned_none bytes n = mapped_rejects unsigned n

pub ruleset unsigned_part = (unsigned_decodes, unsigned_none)

pub signed32_decodes : {m : Mode} (bytes rest : List ℕ) (v : ℤ) → Decodes s32 m bytes v rest → Decodes (part parts.Signed32) m bytes (signed32 v) rest
signed32_decodes bytes rest v h = mapped_decodes signed32 h

pub signed32_none : {m : Mode} (bytes : List ℕ) → Rejects s32 m bytes → Rejects (part parts.Signed32) m bytes
signed32_none bytes n = mapped_rejects signed32 n

pub ruleset signed32_part = (signed32_decodes, signed32_none)

pub signed64_decodes : {m : Mode} (bytes rest : List ℕ) (v : ℤ) → Decodes s64 m bytes v rest → Decodes (part parts.Signed64) m bytes (signed64 v) rest
signed64_decodes bytes rest v h = mapped_decodes signed64 h

pub signed64_none : {m : Mode} (bytes : List ℕ) → Rejects s64 m bytes → Rejects (part parts.Signed64) m bytes
signed64_none bytes n = mapped_rejects signed64 n

pub ruleset signed64_part = (signed64_decodes, signed64_none)

pub vector_decodes : {m : Mode} (bytes rest : List ℕ) (v : ℤ) → Decodes vector_format m bytes v rest → Decodes (part parts.Vector) m bytes (vector v) rest
vector_decodes bytes rest v h = mapped_decodes vector h

pub vector_none : {m : Mode} (bytes : List ℕ) → Rejects vector_format m bytes → Rejects (part parts.Vector) m bytes
vector_none bytes n = mapped_rejects vector n

pub ruleset vector_part = (vector_decodes, vector_none)

pub memory_decodes : {m : Mode} (bytes rest : List ℕ) (v : MemArg) → Decodes mem_arg m bytes v rest → Decodes (part parts.Memory) m bytes (memory v) rest
memory_decodes bytes rest v h = mapped_decodes memory h

pub memory_none : {m : Mode} (bytes : List ℕ) → Rejects mem_arg m bytes → Rejects (part parts.Memory) m bytes
memory_none bytes n = mapped_rejects memory n

pub ruleset memory_part = (memory_decodes, memory_none)

pub lane_decodes : {m : Mode} (bytes rest : List ℕ) (v : ℕ) → Decodes byte m bytes v rest → Decodes (part parts.Lane) m bytes (lane v) rest
lane_decodes bytes rest v h = mapped_decodes lane h

pub lane_none : {m : Mode} (bytes : List ℕ) → Rejects byte m bytes → Rejects (part parts.Lane) m bytes
lane_none bytes n = mapped_rejects lane n

pub ruleset lane_part = (lane_decodes, lane_none)

pub lanes_decodes : {m : Mode} (bytes rest : List ℕ) (v : List ℕ) → Decodes (raw_bytes 16) m bytes v rest → Decodes (part parts.Lanes) m bytes (lanes v) rest
lanes_decodes bytes rest v h = mapped_decodes lanes h

pub lanes_none : {m : Mode} (bytes : List ℕ) → Rejects (raw_bytes 16) m bytes → Rejects (part parts.Lanes) m bytes
lanes_none bytes n = mapped_rejects lanes n

pub ruleset lanes_part = (lanes_decodes, lanes_none)

pub block_decodes : {m : Mode} (bytes rest : List ℕ) (v : BlockType) → Decodes block_type m bytes v rest → Decodes (part parts.Block) m bytes (block v) rest
block_decodes bytes rest v h = mapped_decodes block h

pub block_none : {m : Mode} (bytes : List ℕ) → Rejects block_type m bytes → Rejects (part parts.Block) m bytes
block_none bytes n = mapped_rejects block n

pub ruleset block_part = (block_decodes, block_none)

pub heap_decodes : {m : Mode} (bytes rest : List ℕ) (v : HeapType) → Decodes heap_type m bytes v rest → Decodes (part parts.Heap) m bytes (heap v) rest
heap_decodes bytes rest v h = mapped_decodes heap h

pub heap_none : {m : Mode} (bytes : List ℕ) → Rejects heap_type m bytes → Rejects (part parts.Heap) m bytes
heap_none bytes n = mapped_rejects heap n

pub ruleset heap_part = (heap_decodes, heap_none)

pub ordering_decodes : {m : Mode} (bytes rest : List ℕ) (v : Ordering) → Decodes ordering_format m bytes v rest → Decodes (part parts.Ordering) m bytes (ordering v) rest
ordering_decodes bytes rest v h = mapped_decodes ordering h

pub ordering_none : {m : Mode} (bytes : List ℕ) → Rejects ordering_format m bytes → Rejects (part parts.Ordering) m bytes
ordering_none bytes n = mapped_rejects ordering n

pub ruleset ordering_part = (ordering_decodes, ordering_none)

pub float32_decodes : {m : Mode} (bytes rest : List ℕ) (v : Ieee32) → Decodes (little_endian 4) m bytes v.bits rest → Decodes (part parts.Float32) m bytes (float32 v) rest
float32_decodes bytes rest v h = mapped_decodes float32_of h

pub float32_none : {m : Mode} (bytes : List ℕ) → Rejects (little_endian 4) m bytes → Rejects (part parts.Float32) m bytes
float32_none bytes n = mapped_rejects float32_of n

pub ruleset float32_part = (float32_decodes, float32_none)

pub float64_decodes : {m : Mode} (bytes rest : List ℕ) (v : Ieee64) → Decodes (little_endian 8) m bytes v.bits rest → Decodes (part parts.Float64) m bytes (float64 v) rest
float64_decodes bytes rest v h = mapped_decodes float64_of h

pub float64_none : {m : Mode} (bytes : List ℕ) → Rejects (little_endian 8) m bytes → Rejects (part parts.Float64) m bytes
float64_none bytes n = mapped_rejects float64_of n

pub ruleset float64_part = (float64_decodes, float64_none)

pub labels_decodes : {m : Mode} (bytes rest : List ℕ) (vs : List ℕ) → Decodes (vec u32) m bytes (map (λ v. v) vs) rest → Decodes (part parts.Labels) m bytes (labels vs) rest
labels_decodes {m = m} bytes rest vs h = mapped_decodes labels (subst (λ z. Decodes (vec u32) m bytes z rest) (map-id vs) h)

pub labels_none : {m : Mode} (bytes : List ℕ) → Rejects (vec u32) m bytes → Rejects (part parts.Labels) m bytes
labels_none bytes n = mapped_rejects labels n

pub ruleset labels_part = (labels_decodes, labels_none)

pub catches_decodes : {m : Mode} (bytes rest : List ℕ) (vs : List Catch) → Decodes (vec catch) m bytes (map (λ v. v) vs) rest → Decodes (part parts.Catches) m bytes (catches vs) rest
catches_decodes {m = m} bytes rest vs h = mapped_decodes catches (subst (λ z. Decodes (vec catch) m bytes z rest) (map-id vs) h)

pub catches_none : {m : Mode} (bytes : List ℕ) → Rejects (vec catch) m bytes → Rejects (part parts.Catches) m bytes
catches_none bytes n = mapped_rejects catches n

pub ruleset catches_part = (catches_decodes, catches_none)

pub types_decodes : {m : Mode} (bytes rest : List ℕ) (vs : List ValType) → Decodes (vec val_type) m bytes (map (λ v. v) vs) rest → Decodes (part parts.Types) m bytes (types vs) rest
types_decodes {m = m} bytes rest vs h = mapped_decodes types (subst (λ z. Decodes (vec val_type) m bytes z rest) (map-id vs) h)

pub types_none : {m : Mode} (bytes : List ℕ) → Rejects (vec val_type) m bytes → Rejects (part parts.Types) m bytes
types_none bytes n = mapped_rejects types n

pub ruleset types_part = (types_decodes, types_none)

pub handles_decodes : {m : Mode} (bytes rest : List ℕ) (vs : List Handle) → Decodes (vec handle) m bytes (map (λ v. v) vs) rest → Decodes (part parts.Handles) m bytes (handles vs) rest
handles_decodes {m = m} bytes rest vs h = mapped_decodes handles (subst (λ z. Decodes (vec handle) m bytes z rest) (map-id vs) h)

pub handles_none : {m : Mode} (bytes : List ℕ) → Rejects (vec handle) m bytes → Rejects (part parts.Handles) m bytes
handles_none bytes n = mapped_rejects handles n

pub ruleset handles_part = (handles_decodes, handles_none)

pub flag_decodes : {m : Mode} (bytes rest : List ℕ) (v : ℕ) → Decodes byte m bytes v rest → v < 4 → Decodes (part parts.Flag) m bytes (flag v) rest
flag_decodes bytes rest v h l = mapped_decodes flag (such_decodes (λ b. b < 4) h l)

pub flag_none : {m : Mode} (bytes : List ℕ) → Rejects byte m bytes → Rejects (part parts.Flag) m bytes
flag_none bytes n = mapped_rejects flag (such_none (λ b. b < 4) n)

pub flag_large : {m : Mode} (bytes rest : List ℕ) (v : ℕ) → Decodes byte m bytes v rest → 4 ≤ v → Rejects (part parts.Flag) m bytes
flag_large bytes rest v h l = mapped_rejects flag (such_rejects (λ b. b < 4) byte_unambiguous h (λ m. omega (arith, l, m)))

pub ruleset flag_part = (flag_decodes, flag_none, flag_large)
