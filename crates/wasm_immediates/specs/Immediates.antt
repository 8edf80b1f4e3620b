-- This file defines the encodings of immediates: memory arguments, block types, catches, handles
-- and vectors.
use Rattle.wasm_base.specs.Words.{twos_complement, unsigned_encoding, signed_encoding, little_endian_encoding, optional_encoding, val_encoding}
use Rattle.wasm_base.specs.Numbers.{Grammar}
use Rattle.wasm_base.specs.Types.{val_encoding_in}
use Rattle.std.specs.Prelude.{ℕ, zero, suc, ℤ, pos, List, [], ◌∷◌, ◌++◌, Option, Some, None, Bool, true, false}
use Rattle.std.specs.Int.RustNames.{bit_or}
use Rattle.wasm_immediates.specs.declared.memory.Ordering.{Ordering}
use Rattle.wasm_immediates.specs.declared.memory.Ordering.TheVariants.{AcqRel, SeqCst}
use Rattle.wasm_immediates.specs.declared.memory.MemArgOrdering.{MemArgOrdering}
use Rattle.wasm_immediates.specs.declared.memory.MemArgTarget.{MemArgTarget}
use Rattle.wasm_immediates.specs.declared.memory.MemArgTarget.TheVariants.{Memory, Array}
use Rattle.wasm_immediates.specs.declared.memory.MemArg.{MemArg}
use Rattle.wasm_immediates.specs.declared.block_type.BlockType.{BlockType}
use Rattle.wasm_immediates.specs.declared.control.Catch.{Catch}
use Rattle.wasm_immediates.specs.declared.control.Catch.TheVariants.{One, OneRef, All, AllRef}
use Rattle.wasm_immediates.specs.declared.control.Handle.{Handle}
use Rattle.wasm_immediates.specs.declared.control.Handle.TheVariants.{OnLabel, OnSwitch}
use Rattle.wasm_immediates.specs.declared.memory.MemArgOrdering.TheVariants as orders
use Rattle.wasm_immediates.specs.declared.block_type.BlockType.TheVariants as blocks

-- ---- memory arguments

-- The byte of an ordering, which is not in the core specification.
abbrev pub ordering_code : Ordering → ℕ
ordering_code SeqCst = 0x00
ordering_code AcqRel = 0x01

-- The byte of a memory argument's ordering. `SeqCst` has the byte 0x00 for an operation and for a
-- read-modify-write operation.
abbrev pub mem_ordering_code : MemArgOrdering → ℕ
mem_ordering_code (orders.Op SeqCst) = 0x00
mem_ordering_code (orders.Op AcqRel) = 0x01
mem_ordering_code (orders.Rmw SeqCst) = 0x00
mem_ordering_code (orders.Rmw AcqRel) = 0x11

-- The index that is encoded. Memory 0 has none.
abbrev pub index_of : MemArgTarget → Option ℕ
index_of (Memory zero) = None
index_of (Memory (suc n)) = Some (suc n)
index_of (Array n) = Some n

-- Bit 4 of the flags: the ordering is explicit.
abbrev pub has_ordering : Option MemArgOrdering → Bool
has_ordering None = false
has_ordering (Some ordering) = true

-- Bit 5 of the flags: the target is an array.
abbrev pub is_array : MemArgTarget → Bool
is_array (Memory n) = false
is_array (Array n) = true

-- Bit 6 of the flags: the target is a memory other than memory 0.
abbrev pub has_memory : MemArgTarget → Bool
has_memory (Memory zero) = false
has_memory (Memory (suc n)) = true
has_memory (Array n) = false

-- The weight if the bit is set, and 0 otherwise.
abbrev pub where_set : Bool → ℕ → ℕ
where_set true weight = weight
where_set false weight = 0

-- The flags of a memory argument: its alignment with bits 4, 5 and 6.
abbrev pub mem_flags : MemArg → ℕ
mem_flags m = bit_or (bit_or m.align (where_set (has_ordering m.ordering) 0x10)) (bit_or (where_set (is_array m.target) 0x20) (where_set (has_memory m.target) 0x40))

-- The encoding of a memory argument: flags, the index if it is encoded, the byte of the ordering if
-- it is explicit, and the offset. Core specification, Binary Format, Instructions, Memory
-- Instructions; it lacks the ordering and the index of an array type.
abbrev pub mem_arg_encoding : MemArg → List ℕ
mem_arg_encoding m =
    unsigned_encoding (mem_flags m) ++ (optional_encoding unsigned_encoding (index_of m.target) ++ (optional_encoding (λ o. mem_ordering_code o ∷ []) m.ordering ++ unsigned_encoding m.offset))

-- ---- blocks, catches and handles

-- The encoding of a block type: 0x40 without a result, a value type, or a type index as a signed
-- number. Core specification, Binary Format, Instructions, Control Instructions.
abbrev pub block_encoding : BlockType → List ℕ
block_encoding blocks.Empty = 0x40 ∷ []
block_encoding (blocks.Result ty) = val_encoding ty
block_encoding (blocks.FunctionType index) = signed_encoding (pos index)

-- The minimal encoding of a block type in each grammar: they differ in the type of a result.
abbrev pub block_encoding_in : Grammar → BlockType → List ℕ
block_encoding_in w (blocks.Result ty) = val_encoding_in w ty
block_encoding_in w block = block_encoding block

-- The encoding of a catch clause: a byte for its kind, its tag if it has one, and its label. Core
-- specification, Binary Format, Instructions, Control Instructions.
abbrev pub catch_encoding : Catch → List ℕ
catch_encoding (One tag label) = 0x00 ∷ (unsigned_encoding tag ++ unsigned_encoding label)
catch_encoding (OneRef tag label) = 0x01 ∷ (unsigned_encoding tag ++ unsigned_encoding label)
catch_encoding (All label) = 0x02 ∷ unsigned_encoding label
catch_encoding (AllRef label) = 0x03 ∷ unsigned_encoding label

-- The encoding of a handle clause: a byte for its kind, its tag, and its label if it has one. It is
-- not in the core specification.
abbrev pub handle_encoding : Handle → List ℕ
handle_encoding (OnLabel tag label) = 0x00 ∷ (unsigned_encoding tag ++ unsigned_encoding label)
handle_encoding (OnSwitch tag) = 0x01 ∷ unsigned_encoding tag

-- ---- vectors of 128 bits

-- The encoding of a vector: 16 little-endian bytes in two's complement. Core specification, Binary
-- Format, Instructions, Vector Instructions.
unfoldable pub vector_encoding : ℤ → List ℕ
vector_encoding v = little_endian_encoding 16 (twos_complement 128 v)
