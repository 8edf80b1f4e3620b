-- This file defines the encodings and the formats of heap types, reference types and value types.
-- Core specification, Binary Format, Types.
use Rattle.std.specs.Prelude.{◌≢◌, ℕ, ◌^◌, ◌<◌, ◌≤◌, ◌⊎◌, List, [], ◌∷◌, Bool, true, false, pos}
use Rattle.wasm_base.specs.Numbers.{Grammar, builders, admitted, unsigned_encoding, signed_encoding}
use Rattle.wasm_base.specs.Formats.{Format, u32, byte, s33, fixed, impossible, coded, mapped, such, choice, tagged, one_of, by_mode}
use Rattle.wasm_base.specs.declared.types.AbstractHeapType.{AbstractHeapType}
use Rattle.wasm_base.specs.declared.types.HeapType.{HeapType}
use Rattle.wasm_base.specs.declared.types.HeapType.TheVariants.{Abstract, Concrete, Exact}
use Rattle.wasm_base.specs.declared.types.RefType.{RefType}
use Rattle.wasm_base.specs.declared.types.ValType.{ValType}
use Rattle.wasm_base.specs.declared.types.ValType.TheVariants.{I32, I64, F32, F64, V128, Ref}
use Rattle.wasm_base.specs.declared.types.AbstractHeapType.TheVariants as kinds

-- ---- encodings

-- The byte of an abstract heap type. The bytes of `Cont` and `NoCont` are not in the core
-- specification.
abbrev pub abstract_code : AbstractHeapType → ℕ
abstract_code kinds.Func = 0x70
abstract_code kinds.Extern = 0x6F
abstract_code kinds.Any = 0x6E
abstract_code kinds.Eq = 0x6D
abstract_code kinds.I31 = 0x6C
abstract_code kinds.Struct = 0x6B
abstract_code kinds.Array = 0x6A
abstract_code kinds.Exn = 0x69
abstract_code kinds.NoExn = 0x74
abstract_code kinds.NoFunc = 0x73
abstract_code kinds.NoExtern = 0x72
abstract_code kinds.None = 0x71
abstract_code kinds.Cont = 0x68
abstract_code kinds.NoCont = 0x75

-- The encoding of a heap type. A shared abstract type has the byte 0x65 before its own, and an
-- exact type the byte 0x62 before its index. Neither is in the core specification.
abbrev pub heap_encoding : HeapType → List ℕ
heap_encoding (Abstract false ty) = abstract_code ty ∷ []
heap_encoding (Abstract true ty) = 0x65 ∷ abstract_code ty ∷ []
heap_encoding (Concrete index) = signed_encoding (pos index)
heap_encoding (Exact index) = 0x62 ∷ unsigned_encoding index

-- The encoding of a nullable reference type. Those to unshared functions and external values have a
-- byte of their own.
abbrev pub nullable_encoding : HeapType → List ℕ
nullable_encoding (Abstract false kinds.Func) = 0x70 ∷ []
nullable_encoding (Abstract false kinds.Extern) = 0x6F ∷ []
nullable_encoding heap = 0x63 ∷ heap_encoding heap

-- The encoding of a reference type, by whether it is nullable.
abbrev pub ref_bytes : (nullable : Bool) → HeapType → List ℕ
ref_bytes true heap = nullable_encoding heap
ref_bytes false heap = 0x64 ∷ heap_encoding heap

-- The encoding of a reference type.
abbrev pub ref_encoding : RefType → List ℕ
ref_encoding r = ref_bytes r.nullable r.heap_type

-- The encoding of a value type.
abbrev pub val_encoding : ValType → List ℕ
val_encoding I32 = 0x7F ∷ []
val_encoding I64 = 0x7E ∷ []
val_encoding F32 = 0x7D ∷ []
val_encoding F64 = 0x7C ∷ []
val_encoding V128 = 0x7B ∷ []
val_encoding (Ref r) = ref_encoding r

-- The minimal encoding of a nullable reference type by the standard: each unshared abstract heap
-- type has a byte of its own.
abbrev pub tight_nullable : HeapType → List ℕ
tight_nullable (Abstract false ty) = abstract_code ty ∷ []
tight_nullable heap = 0x63 ∷ heap_encoding heap

-- The minimal encoding of a reference type by the standard, by whether it is nullable.
abbrev pub tight_bytes : (nullable : Bool) → HeapType → List ℕ
tight_bytes true heap = tight_nullable heap
tight_bytes false heap = 0x64 ∷ heap_encoding heap

-- The minimal encoding of a value type by the standard.
abbrev pub tight_encoding : ValType → List ℕ
tight_encoding (Ref r) = tight_bytes r.nullable r.heap_type
tight_encoding ty = val_encoding ty

-- The minimal encoding of a reference type in each grammar.
abbrev pub ref_encoding_in : Grammar → RefType → List ℕ
ref_encoding_in builders r = ref_encoding r
ref_encoding_in admitted r = tight_bytes r.nullable r.heap_type

-- The minimal encoding of a value type in each grammar.
abbrev pub val_encoding_in : Grammar → ValType → List ℕ
val_encoding_in builders ty = val_encoding ty
val_encoding_in admitted ty = tight_encoding ty

-- ---- indices of 32 bits

-- The index of a heap type, if it has one, is below 2^32.
abbrev pub IsHeap : HeapType → Type 0
IsHeap (Abstract shared ty) = Unit {0}
IsHeap (Concrete index) = index < 2 ^ 32
IsHeap (Exact index) = index < 2 ^ 32

-- The index in a reference type, if it has one, is below 2^32.
abbrev pub IsRef : RefType → Type 0
IsRef r = IsHeap r.heap_type

-- The index in a value type, if it has one, is below 2^32.
abbrev pub IsVal : ValType → Type 0
IsVal (Ref r) = IsRef r
IsVal _ = Unit {0}

-- ---- formats

-- An abstract heap type: one byte.
abbrev pub abstract_type : Format AbstractHeapType
abstract_type = coded abstract_code

-- The unshared heap type of an abstract type.
abbrev pub unshared : AbstractHeapType → HeapType
unshared ty = Abstract false ty

-- The shared heap type of an abstract type.
abbrev pub shared : AbstractHeapType → HeapType
shared ty = Abstract true ty

-- The formats after the tag bytes 0x65 (shared) and 0x62 (exact) of a heap type.
abbrev pub heap_tags : List (ℕ × Format HeapType)
heap_tags = (0x65, mapped shared abstract_type) ∷ (0x62, mapped Exact u32) ∷ []

-- A heap type. Its first byte determines its case: no index begins with a byte of another case.
-- Core specification, Binary Format, Types, Heap Types.
abbrev pub heap_type : Format HeapType
heap_type = one_of (mapped unshared abstract_type) (one_of (tagged byte (choice heap_tags (λ b. impossible))) (mapped Concrete s33))

-- The type `funcref`: nullable references to unshared functions.
abbrev pub FUNCREF : RefType
FUNCREF = record { nullable = true; heap_type = unshared kinds.Func }

-- The type `externref`: nullable references to unshared external values.
abbrev pub EXTERNREF : RefType
EXTERNREF = record { nullable = true; heap_type = unshared kinds.Extern }

-- The nullable reference type to a heap type.
abbrev pub nullable_to : HeapType → RefType
nullable_to heap = record { nullable = true; heap_type = heap }

-- The reference type to a heap type that is not nullable.
abbrev pub to : HeapType → RefType
to heap = record { nullable = false; heap_type = heap }

-- The heap type is not that of `FUNCREF` or `EXTERNREF`, whose nullable references have a byte of
-- their own.
abbrev pub HasNoByte : HeapType → Type 0
HasNoByte heap = (heap ≢ unshared kinds.Func) × (heap ≢ unshared kinds.Extern)

-- The formats after each first byte of a reference type, as builders write it.
abbrev pub ref_tags : List (ℕ × Format RefType)
ref_tags = (0x70, fixed [] FUNCREF) ∷ (0x6F, fixed [] EXTERNREF) ∷ (0x63, mapped nullable_to (such HasNoByte heap_type)) ∷ (0x64, mapped to heap_type) ∷ []

-- A reference type as builders write it.
abbrev pub built_ref : Format RefType
built_ref = tagged byte (choice ref_tags (λ b. impossible))

-- The nullable reference type to an unshared abstract type. The standard has one byte for it.
abbrev pub nullable_abstract : AbstractHeapType → RefType
nullable_abstract ty = nullable_to (unshared ty)

-- The heap type is not an unshared abstract type.
abbrev pub HasNoCode : HeapType → Type 0
HasNoCode (Abstract false ty) = ⊥
HasNoCode (Abstract true ty) = Unit {0}
HasNoCode (Concrete index) = Unit {0}
HasNoCode (Exact index) = Unit {0}

-- The formats after the bytes 0x63 and 0x64 if every reference type has one encoding.
abbrev pub tight_tags : List (ℕ × Format RefType)
tight_tags = (0x63, mapped nullable_to (such HasNoCode heap_type)) ∷ (0x64, mapped to heap_type) ∷ []

-- The formats after the bytes 0x63 and 0x64 that the standard admits.
abbrev pub admitted_tags : List (ℕ × Format RefType)
admitted_tags = (0x63, mapped nullable_to heap_type) ∷ (0x64, mapped to heap_type) ∷ []

-- A reference type in its minimal encoding by the standard.
abbrev pub tight_ref : Format RefType
tight_ref = one_of (mapped nullable_abstract abstract_type) (tagged byte (choice tight_tags (λ b. impossible)))

-- A reference type in any encoding that the standard admits.
abbrev pub admitted_ref : Format RefType
admitted_ref = one_of (mapped nullable_abstract abstract_type) (tagged byte (choice admitted_tags (λ b. impossible)))

-- In this grammar, the byte 0x63 may precede the heap type of a nullable reference type.
abbrev pub HasLongForm : Grammar → HeapType → Type 0
HasLongForm builders heap = HasNoByte heap
HasLongForm admitted heap = Unit {0}

-- A reference type: as builders write it, or in the standard's grammar minimal or as admitted. Core
-- specification, Binary Format, Types, Reference Types.
abbrev pub ref_type : Format RefType
ref_type = by_mode built_ref tight_ref admitted_ref

-- The formats after each first byte of a number type or vector type.
abbrev pub val_tags : List (ℕ × Format ValType)
val_tags = (0x7F, fixed [] I32) ∷ (0x7E, fixed [] I64) ∷ (0x7D, fixed [] F32) ∷ (0x7C, fixed [] F64) ∷ (0x7B, fixed [] V128) ∷ []

-- A number type or vector type: one byte.
abbrev pub number_type : Format ValType
number_type = tagged byte (choice val_tags (λ b. impossible))

-- A value type: a number type, a vector type or a reference type.
abbrev pub val_type : Format ValType
val_type = one_of number_type (mapped Ref ref_type)

-- The byte can begin an index that is encoded as a signed number, and begins no type.
abbrev pub IsIndexByte : ℕ → Type 0
IsIndexByte b = (b < 0x40) ⊎ (0x80 ≤ b)
