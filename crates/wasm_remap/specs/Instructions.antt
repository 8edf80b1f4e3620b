-- This file defines what a map of indices makes of types, instructions and bodies.
use Rattle.std.specs.Prelude.{List, [], ◌∷◌, None, map}
use Rattle.wasm_base.specs.declared.types.HeapType.{HeapType}
use Rattle.wasm_base.specs.declared.types.HeapType.TheVariants.{Abstract, Concrete, Exact}
use Rattle.wasm_base.specs.declared.types.RefType.{RefType}
use Rattle.wasm_base.specs.declared.types.ValType.{ValType}
use Rattle.wasm_base.specs.declared.types.ValType.TheVariants.{I32, I64, F32, F64, V128, Ref}
use Rattle.wasm_immediates.specs.declared.block_type.BlockType.{BlockType}
use Rattle.wasm_immediates.specs.declared.block_type.BlockType.TheVariants as blocks
use Rattle.wasm_immediates.specs.declared.control.Catch.{Catch}
use Rattle.wasm_immediates.specs.declared.control.Catch.TheVariants.{One, OneRef, All, AllRef}
use Rattle.wasm_immediates.specs.declared.control.Handle.{Handle}
use Rattle.wasm_immediates.specs.declared.control.Handle.TheVariants.{OnLabel, OnSwitch}
use Rattle.wasm_immediates.specs.declared.memory.MemArg.{MemArg}
use Rattle.wasm_immediates.specs.declared.memory.MemArgTarget.{MemArgTarget}
use Rattle.wasm_immediates.specs.declared.memory.MemArgTarget.TheVariants as targets
use Rattle.wasm_insn.specs.Arguments.{Argument, unsigned, signed32, signed64, float32, float64, vector, memory, lane, lanes, block, heap, ordering, labels, catches, types, handles, flag}
use Rattle.wasm_insn.specs.Words.{Plain}
use Rattle.wasm_code.specs.Words.{Body}
use Rattle.wasm_remap.specs.Mapping.{Mapping, mapped_in}
use Rattle.wasm_remap.specs.Spaces.{Spaces, spaces_of}
use Rattle.wasm_remap.specs.declared.spaces.IndexSpace.TheVariants as spaces

-- ---- types

-- A heap type: the index of a type is mapped.
abbrev pub remapped_heap : Mapping → HeapType → HeapType
remapped_heap m (Abstract shared ty) = Abstract shared ty
remapped_heap m (Concrete n) = Concrete (m spaces.Types n)
remapped_heap m (Exact n) = Exact (m spaces.Types n)

-- A reference type.
abbrev pub remapped_ref : Mapping → RefType → RefType
remapped_ref m r = record { nullable = r.nullable; heap_type = remapped_heap m r.heap_type }

-- A value type.
abbrev pub remapped_val : Mapping → ValType → ValType
remapped_val m I32 = I32
remapped_val m I64 = I64
remapped_val m F32 = F32
remapped_val m F64 = F64
remapped_val m V128 = V128
remapped_val m (Ref r) = Ref (remapped_ref m r)

-- ---- immediates

-- A block type.
abbrev pub remapped_block : Mapping → BlockType → BlockType
remapped_block m blocks.Empty = blocks.Empty
remapped_block m (blocks.Result ty) = blocks.Result (remapped_val m ty)
remapped_block m (blocks.FunctionType n) = blocks.FunctionType (m spaces.Types n)

-- The memory or the array type that is accessed.
abbrev pub remapped_target : Mapping → MemArgTarget → MemArgTarget
remapped_target m (targets.Memory n) = targets.Memory (m spaces.Memories n)
remapped_target m (targets.Array n) = targets.Array (m spaces.Types n)

-- A memory argument.
abbrev pub remapped_memory : Mapping → MemArg → MemArg
remapped_memory m a = record { offset = a.offset; align = a.align; target = remapped_target m a.target; ordering = a.ordering }

-- A catch clause: its tag is mapped, and its label stays.
abbrev pub remapped_catch : Mapping → Catch → Catch
remapped_catch m (One tag label) = One (m spaces.Tags tag) label
remapped_catch m (OneRef tag label) = OneRef (m spaces.Tags tag) label
remapped_catch m (All label) = All label
remapped_catch m (AllRef label) = AllRef label

-- A handle clause: its tag is mapped, and its label stays.
abbrev pub remapped_handle : Mapping → Handle → Handle
remapped_handle m (OnLabel tag label) = OnLabel (m spaces.Tags tag) label
remapped_handle m (OnSwitch tag) = OnSwitch (m spaces.Tags tag)

-- An immediate, and the index space of the next number.
abbrev pub remapped_argument : Mapping → Spaces → Argument → Argument
remapped_argument m s (unsigned n) = unsigned (mapped_in m s.0 n)
remapped_argument m s (signed32 v) = signed32 v
remapped_argument m s (signed64 v) = signed64 v
remapped_argument m s (float32 v) = float32 v
remapped_argument m s (float64 v) = float64 v
remapped_argument m s (vector v) = vector v
remapped_argument m s (memory a) = memory (remapped_memory m a)
remapped_argument m s (lane n) = lane n
remapped_argument m s (lanes ns) = lanes ns
remapped_argument m s (block ty) = block (remapped_block m ty)
remapped_argument m s (heap ty) = heap (remapped_heap m ty)
remapped_argument m s (ordering o) = ordering o
remapped_argument m s (labels ns) = labels ns
remapped_argument m s (catches cs) = catches (map (remapped_catch m) cs)
remapped_argument m s (types ts) = types (map (remapped_val m) ts)
remapped_argument m s (handles hs) = handles (map (remapped_handle m) hs)
remapped_argument m s (flag n) = flag n

-- The index spaces of the numbers after an immediate.
abbrev pub spaces_after : Argument → Spaces → Spaces
spaces_after (unsigned n) s = (s.1, None)
spaces_after (signed32 v) s = s
spaces_after (signed64 v) s = s
spaces_after (float32 v) s = s
spaces_after (float64 v) s = s
spaces_after (vector v) s = s
spaces_after (memory a) s = s
spaces_after (lane n) s = s
spaces_after (lanes ns) s = s
spaces_after (block ty) s = s
spaces_after (heap ty) s = s
spaces_after (ordering o) s = s
spaces_after (labels ns) s = s
spaces_after (catches cs) s = s
spaces_after (types ts) s = s
spaces_after (handles hs) s = s
spaces_after (flag n) s = s

-- The immediates of an opcode whose numbers are in these index spaces.
abbrev pub remapped_arguments : Mapping → Spaces → List Argument → List Argument
remapped_arguments m s [] = []
remapped_arguments m s (x ∷ xs) = remapped_argument m s x ∷ remapped_arguments m (spaces_after x s) xs

-- ---- instructions

-- An instruction.
abbrev pub remapped_instruction : Mapping → Plain → Plain
remapped_instruction m i = record { op = i.op; arguments = remapped_arguments m (spaces_of i.op) i.arguments }

-- A body: the types of its locals, and its instructions.
abbrev pub remapped_body : Mapping → Body → Body
remapped_body m b = record { runs = map (λ run. (run.0, remapped_val m run.1)) b.runs; code = map (remapped_instruction m) b.code }
