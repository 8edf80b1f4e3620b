-- This file defines well-formed immediates, their normal forms and their formats.
use Rattle.wasm_base.specs.Words.{val_type, Format, Grammar, builders, admitted, by_mode, u32, u64, s33, byte, fixed, impossible, coded, mapped, such, when, choice, tagged, one_of, pair, optional}
use Rattle.wasm_base.specs.Words.{DecodesUniquely, IsVal}
use Rattle.std.specs.Prelude.{◌≡◌, ℕ, ◌/◌, ◌%◌, ◌^◌, ◌<◌, List, [], ◌∷◌, Bool, true, false, ◌==◌, nat_lt, Option, Some, None, ⊤}
use Rattle.wasm_immediates.specs.declared.memory.Ordering.{Ordering}
use Rattle.wasm_immediates.specs.declared.memory.Ordering.TheVariants.{AcqRel, SeqCst}
use Rattle.wasm_immediates.specs.declared.memory.MemArgOrdering.{MemArgOrdering}
use Rattle.wasm_immediates.specs.declared.memory.MemArgTarget.{MemArgTarget}
use Rattle.wasm_immediates.specs.declared.memory.MemArgTarget.TheVariants.{Memory, Array}
use Rattle.wasm_immediates.specs.declared.memory.MemArg.{MemArg}
use Rattle.wasm_immediates.specs.declared.block_type.BlockType.{BlockType}
use Rattle.wasm_immediates.specs.declared.control.Catch.{Catch}
use Rattle.wasm_immediates.specs.declared.control.Catch.TheVariants.{One, OneRef, All, AllRef}
use Rattle.wasm_immediates.specs.declared.control.Handle.{Handle}
use Rattle.wasm_immediates.specs.declared.control.Handle.TheVariants.{OnLabel, OnSwitch}
use Rattle.wasm_immediates.specs.Immediates.{ordering_code, mem_arg_encoding}
use Rattle.wasm_immediates.specs.declared.memory.MemArgOrdering.TheVariants as orders
use Rattle.wasm_immediates.specs.declared.block_type.BlockType.TheVariants as blocks

-- ---- normal form

-- The normal form of an ordering: `SeqCst` becomes that of an operation, since both have the byte
-- 0x00.
abbrev pub normal_ordering : MemArgOrdering → MemArgOrdering
normal_ordering (orders.Op o) = orders.Op o
normal_ordering (orders.Rmw SeqCst) = orders.Op SeqCst
normal_ordering (orders.Rmw AcqRel) = orders.Rmw AcqRel

-- The normal form of an optional ordering.
abbrev pub normal_order : Option MemArgOrdering → Option MemArgOrdering
normal_order None = None
normal_order (Some o) = Some (normal_ordering o)

-- The normal form of a memory argument: its ordering in normal form.
abbrev pub normal_memory : MemArg → MemArg
normal_memory m = record { offset = m.offset; align = m.align; target = m.target; ordering = normal_order m.ordering }

-- ---- well-formed immediates

-- The index of the memory or array type is below 2^32.
abbrev pub IsWellFormedTarget : MemArgTarget → Type 0
IsWellFormedTarget (Memory n) = n < 2 ^ 32
IsWellFormedTarget (Array n) = n < 2 ^ 32

-- The memory argument is well-formed: its alignment is below 16, its index below 2^32 and its
-- offset below 2^64.
pub record IsWellFormedMemory (m : MemArg) : Type 0 where
  pub align : m.align < 16
  pub target : IsWellFormedTarget m.target
  pub offset : m.offset < 2 ^ 64

-- The block type is well-formed: the index of its function type, or in the type of its result, is
-- below 2^32.
abbrev pub IsWellFormedBlock : BlockType → Type 0
IsWellFormedBlock blocks.Empty = ⊤
IsWellFormedBlock (blocks.Result type) = IsVal type
IsWellFormedBlock (blocks.FunctionType index) = index < 2 ^ 32

-- The catch clause is well-formed: its tag, if it has one, and its label are below 2^32.
abbrev pub IsWellFormedCatch : Catch → Type 0
IsWellFormedCatch (One tag label) = (tag < 2 ^ 32) × (label < 2 ^ 32)
IsWellFormedCatch (OneRef tag label) = (tag < 2 ^ 32) × (label < 2 ^ 32)
IsWellFormedCatch (All label) = label < 2 ^ 32
IsWellFormedCatch (AllRef label) = label < 2 ^ 32

-- The handle clause is well-formed: its tag, and its label if it has one, are below 2^32.
abbrev pub IsWellFormedHandle : Handle → Type 0
IsWellFormedHandle (OnLabel tag label) = (tag < 2 ^ 32) × (label < 2 ^ 32)
IsWellFormedHandle (OnSwitch tag) = tag < 2 ^ 32

-- The memory argument is well-formed and in normal form.
pub record IsNormalMemory (m : MemArg) : Type 0 where
  pub plain : IsWellFormedMemory m
  pub normal : normal_memory m ≡ m

-- The encoding of an ordering: its byte.
abbrev pub ordering_encoding : Ordering → List ℕ
ordering_encoding o = ordering_code o ∷ []

-- ---- formats

-- A block type: 0x40, a value type, or an index, whose first byte is neither 0x40 nor that of a
-- value type. Core specification, Binary Format, Instructions, Control Instructions.
abbrev pub block_type : Format BlockType
block_type = one_of (fixed (0x40 ∷ []) blocks.Empty) (one_of (mapped blocks.Result val_type) (mapped blocks.FunctionType s33))

-- An ordering: one byte.
abbrev pub ordering_format : Format Ordering
ordering_format = coded ordering_code

-- The formats of orderings in normal form by their bytes: 0x00 is that of an operation.
abbrev pub mem_orderings : List (ℕ × Format MemArgOrdering)
mem_orderings = (0x00, fixed [] (orders.Op SeqCst)) ∷ (0x01, fixed [] (orders.Op AcqRel)) ∷ (0x11, fixed [] (orders.Rmw AcqRel)) ∷ []

-- The ordering of a memory argument, in normal form: one byte.
abbrev pub mem_ordering : Format MemArgOrdering
mem_ordering = tagged byte (choice mem_orderings (λ b. impossible))

-- Whether the bit at this position is set in the flags.
abbrev pub bit : ℕ → ℕ → Bool
bit index flags = flags / 2 ^ index % 2 == 1

-- The memories whose index is encoded. Builders encode none for memory 0; the standard admits it.
abbrev pub HasIndex : Grammar → ℕ → Type 0
HasIndex builders n = 0 < n
HasIndex admitted n = ⊤

-- The target of a memory argument, by bits 5 and 6 of its flags. With neither bit it is memory 0,
-- and with both nothing decodes.
abbrev pub target_of : Grammar → (array other_memory : Bool) → Format MemArgTarget
target_of w false false = fixed [] (Memory 0)
target_of w true false = mapped Array u32
target_of w false true = mapped Memory (such (HasIndex w) u32)
target_of w true true = impossible

-- The memory argument of this alignment, with a target, an optional ordering and an offset.
abbrev pub mem_arg_of : ℕ → MemArgTarget × (Option MemArgOrdering × ℕ) → MemArg
mem_arg_of align p = record { offset = p.1.1; align = align; target = p.0; ordering = p.1.0 }

-- The bytes after flags with this alignment and these bits 4, 5 and 6: target, ordering and offset.
abbrev pub mem_arg_with : Grammar → ℕ → (ordered array other_memory : Bool) → Format MemArg
mem_arg_with w align ordered array other_memory = mapped (mem_arg_of align) (pair (target_of w array other_memory) (pair (optional ordered mem_ordering) u64))

-- The bytes after flags below 128: bits 0 to 3 are the alignment, and bits 4, 5 and 6 select the
-- fields that follow. Higher flags do not decode.
abbrev pub after_flags : Grammar → ℕ → Format MemArg
after_flags w flags = when (nat_lt flags 0x80) (mem_arg_with w (flags % 16) (bit 4 flags) (bit 5 flags) (bit 6 flags)) impossible

-- A memory argument of a grammar: flags, the index and the ordering that the flags select, and the
-- offset.
abbrev pub mem_arg_in : Grammar → Format MemArg
mem_arg_in w = tagged u32 (after_flags w)

-- A memory argument. In the standard's grammar memory 0 may have an index; the minimal encoding is
-- that without. Core specification, Binary Format, Instructions, Memory Instructions; bits 4 and 5
-- are this repository's own.
abbrev pub mem_arg : Format MemArg
mem_arg = by_mode (mem_arg_in builders) (mem_arg_in builders) (mem_arg_in admitted)

-- The argument of memory 0 with this alignment and offset, without an ordering.
abbrev pub memory_0 : (align offset : ℕ) → MemArg
memory_0 align offset = record { offset = offset; align = align; target = Memory 0; ordering = None }

-- The clause `catch` of this tag and label.
abbrev pub one_of_pair : ℕ × ℕ → Catch
one_of_pair p = One p.0 p.1

-- The clause `catch_ref` of this tag and label.
abbrev pub one_ref_of_pair : ℕ × ℕ → Catch
one_ref_of_pair p = OneRef p.0 p.1

-- The formats by the byte of a catch clause: a tag and a label after 00 and 01, a label after 02
-- and 03.
abbrev pub catch_tags : List (ℕ × Format Catch)
catch_tags =
    (0x00, mapped one_of_pair (pair u32 u32)) ∷ (0x01, mapped one_ref_of_pair (pair u32 u32)) ∷ (0x02, mapped All u32) ∷ (0x03, mapped AllRef u32) ∷ []

-- A catch clause: a byte for its kind, a tag for 00 and 01, and a label. Core specification, Binary
-- Format, Instructions, Control Instructions.
abbrev pub catch : Format Catch
catch = tagged byte (choice catch_tags (λ b. impossible))

-- The clause `on` that branches to this label for this tag.
abbrev pub on_label_of_pair : ℕ × ℕ → Handle
on_label_of_pair p = OnLabel p.0 p.1

-- The formats by the byte of a handle clause: a tag and a label after 00, a tag after 01.
abbrev pub handle_tags : List (ℕ × Format Handle)
handle_tags = (0x00, mapped on_label_of_pair (pair u32 u32)) ∷ (0x01, mapped OnSwitch u32) ∷ []

-- A handle clause: a byte for its kind, a tag, and a label for 00.
abbrev pub handle : Format Handle
handle = tagged byte (choice handle_tags (λ b. impossible))

-- ---- laws

-- The encoding of a well-formed memory argument decodes to its normal form alone.
pub record DecodesMemoryArgument (m : MemArg) : Type 0 where
  pub unique : IsWellFormedMemory m → DecodesUniquely mem_arg (mem_arg_encoding m) (normal_memory m)
