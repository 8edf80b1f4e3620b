-- This file defines the immediates of an instruction and their encodings.
use Rattle.std.specs.Prelude.{ℕ, ℤ, List, [], ◌∷◌, ◌++◌, ⊤}
use Rattle.wasm_base.specs.Words.{unsigned_encoding, signed_encoding, vec_encoding, IsEncodableVec, little_endian_encoding, heap_encoding, val_encoding}
use Rattle.wasm_base.specs.declared.types.HeapType.{HeapType}
use Rattle.wasm_base.specs.declared.types.ValType.{ValType}
use Rattle.wasm_immediates.specs.declared.floats.Ieee32.{Ieee32}
use Rattle.wasm_immediates.specs.declared.floats.Ieee64.{Ieee64}
use Rattle.wasm_immediates.specs.declared.memory.Ordering.{Ordering}
use Rattle.wasm_immediates.specs.declared.memory.MemArg.{MemArg}
use Rattle.wasm_immediates.specs.declared.block_type.BlockType.{BlockType}
use Rattle.wasm_immediates.specs.declared.control.Catch.{Catch}
use Rattle.wasm_immediates.specs.declared.control.Handle.{Handle}
use Rattle.wasm_immediates.specs.Words.{ordering_code, mem_arg_encoding, block_encoding, catch_encoding, handle_encoding, vector_encoding}
use Rattle.wasm_insn.specs.declared.part.Part.{Part}
use Rattle.wasm_insn.specs.declared.part.Part.TheVariants as parts

-- An immediate of an instruction. A vector of labels, clauses or types is one immediate.
pub data Argument : Type 0 where
  unsigned : ℕ → Argument
  signed32 : ℤ → Argument
  signed64 : ℤ → Argument
  float32 : Ieee32 → Argument
  float64 : Ieee64 → Argument
  vector : ℤ → Argument
  memory : MemArg → Argument
  lane : ℕ → Argument
  lanes : List ℕ → Argument
  block : BlockType → Argument
  heap : HeapType → Argument
  ordering : Ordering → Argument
  labels : List ℕ → Argument
  catches : List Catch → Argument
  types : List ValType → Argument
  handles : List Handle → Argument
  flag : ℕ → Argument

-- The type of an immediate.
abbrev pub part_of : Argument → Part
part_of (unsigned n) = parts.Unsigned
part_of (signed32 v) = parts.Signed32
part_of (signed64 v) = parts.Signed64
part_of (float32 float) = parts.Float32
part_of (float64 float) = parts.Float64
part_of (vector v) = parts.Vector
part_of (memory m) = parts.Memory
part_of (lane n) = parts.Lane
part_of (lanes ns) = parts.Lanes
part_of (block type) = parts.Block
part_of (heap type) = parts.Heap
part_of (ordering o) = parts.Ordering
part_of (labels ns) = parts.Labels
part_of (catches cs) = parts.Catches
part_of (types ts) = parts.Types
part_of (handles hs) = parts.Handles
part_of (flag n) = parts.Flag

-- The encoding of an immediate.
abbrev pub argument_encoding : Argument → List ℕ
argument_encoding (unsigned n) = unsigned_encoding n
argument_encoding (signed32 v) = signed_encoding v
argument_encoding (signed64 v) = signed_encoding v
argument_encoding (float32 float) = little_endian_encoding 4 float.bits
argument_encoding (float64 float) = little_endian_encoding 8 float.bits
argument_encoding (vector v) = vector_encoding v
argument_encoding (memory m) = mem_arg_encoding m
argument_encoding (lane n) = n ∷ []
argument_encoding (lanes ns) = ns
argument_encoding (block type) = block_encoding type
argument_encoding (heap type) = heap_encoding type
argument_encoding (ordering o) = ordering_code o ∷ []
argument_encoding (labels ns) = vec_encoding unsigned_encoding ns
argument_encoding (catches cs) = vec_encoding catch_encoding cs
argument_encoding (types ts) = vec_encoding val_encoding ts
argument_encoding (handles hs) = vec_encoding handle_encoding hs
argument_encoding (flag n) = n ∷ []

-- The encodings of the immediates, one after another.
abbrev pub arguments_encoding : List Argument → List ℕ
arguments_encoding [] = []
arguments_encoding (x ∷ xs) = argument_encoding x ++ arguments_encoding xs

-- If the immediate is a list, it has at most 2^32 - 1 members.
abbrev pub argument_encodable : Argument → Type 0
argument_encodable (labels ns) = IsEncodableVec (λ n. ⊤) ns
argument_encodable (catches cs) = IsEncodableVec (λ c. ⊤) cs
argument_encodable (types ts) = IsEncodableVec (λ t. ⊤) ts
argument_encodable (handles hs) = IsEncodableVec (λ h. ⊤) hs
argument_encodable _ = ⊤

-- Each list among the immediates has at most 2^32 - 1 members.
abbrev pub arguments_encodable : List Argument → Type 0
arguments_encodable [] = ⊤
arguments_encodable (x ∷ xs) = argument_encodable x × arguments_encodable xs
