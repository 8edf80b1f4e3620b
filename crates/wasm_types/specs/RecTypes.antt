-- This file defines the types of a type section, their encodings and their formats. Core
-- specification, Binary Format, Types, and Modules, Type Section.
use Rattle.std.specs.Prelude.{ℕ, ◌^◌, ◌<◌, List, [], ◌∷◌, ◌++◌, length, Bool, true, false, Option, Some, None, IfSome, pos}
use Rattle.wasm_base.specs.Words.{Kind, ContainsItems, Format, Grammar, builders, admitted, by_mode, after_byte, u32, byte, s33, fixed, impossible, coded, mapped, such, pair, tagged, choice, one_of}
use Rattle.wasm_base.specs.Types.{val_encoding_in}
use Rattle.wasm_base.specs.Words.{vec, IsUnsignedInRange, unsigned_encoding, signed_encoding, vec_encoding, IsEncodableVec, val_type, val_encoding, IsVal, SectionDecoding, decoding_of, number_of}
use Rattle.wasm_base.specs.declared.types.ValType.{ValType}
use Rattle.wasm_types.specs.declared.types.FieldType.{FieldType}
use Rattle.wasm_types.specs.declared.types.StorageType.{StorageType}
use Rattle.wasm_types.specs.declared.types.StorageType.TheVariants.{I8, I16, Val}
use Rattle.wasm_base.specs.declared.section_id.SectionId.TheVariants as ids

-- ---- types

-- The shape of a composite type: a function with parameters and results, an array, a structure, or
-- a continuation of a function type. Continuations are not in the core specification.
pub data Shape : Type 0 where
  func : List ValType → List ValType → Shape
  array : FieldType → Shape
  structure : List FieldType → Shape
  cont : ℕ → Shape

-- A composite type: whether it is shared, the type that it describes and the type that describes
-- it, if any, and its shape. The core specification has only the shape.
pub record Composite : Type 0 where
  pub shared : Bool
  pub describes : Option ℕ
  pub descriptor : Option ℕ
  pub shape : Shape

-- A subtype: whether it is final, its supertypes and its composite type.
pub record Sub : Type 0 where
  pub is_final : Bool
  pub supertypes : List ℕ
  pub composite : Composite

-- An entry of a type section: a subtype alone, or a recursion group of subtypes.
pub data TypeItem : Type 0 where
  single : Sub → TypeItem
  group : List Sub → TypeItem

-- ---- encodings

-- The encoding of a storage type: the byte of a packed type, or a value type.
abbrev pub storage_encoding : StorageType → List ℕ
storage_encoding I8 = 0x78 ∷ []
storage_encoding I16 = 0x77 ∷ []
storage_encoding (Val ty) = val_encoding ty

-- The minimal encoding of a storage type in each grammar.
abbrev pub storage_encoding_in : Grammar → StorageType → List ℕ
storage_encoding_in w (Val ty) = val_encoding_in w ty
storage_encoding_in w packed = storage_encoding packed

-- The byte for the mutability of a field.
abbrev pub mutable_code : Bool → ℕ
mutable_code false = 0x00
mutable_code true = 0x01

-- The encoding of a field type: its storage type, then the byte for its mutability.
abbrev pub field_encoding : FieldType → List ℕ
field_encoding f = storage_encoding f.element_type ++ mutable_code f.mutable ∷ []

-- The encoding of a function type: 0x60, then the vectors of its parameters and of its results.
abbrev pub func_encoding : List ValType → List ValType → List ℕ
func_encoding params results = 0x60 ∷ (vec_encoding val_encoding params ++ vec_encoding val_encoding results)

-- The encoding of a structure type: 0x5F, then the vector of its fields.
abbrev pub struct_encoding : List FieldType → List ℕ
struct_encoding fields = 0x5F ∷ vec_encoding field_encoding fields

-- The encoding of a continuation type: 0x5D, then the index as a signed number.
abbrev pub cont_encoding : ℕ → List ℕ
cont_encoding index = 0x5D ∷ signed_encoding (pos index)

-- The encoding of a shape, which begins with a byte for its kind.
abbrev pub shape_encoding : Shape → List ℕ
shape_encoding (func params results) = func_encoding params results
shape_encoding (array field) = 0x5E ∷ field_encoding field
shape_encoding (structure fields) = struct_encoding fields
shape_encoding (cont index) = cont_encoding index

-- The encoding of an optional index: the byte `b` and the index, or no bytes.
abbrev pub index_encoding : ℕ → Option ℕ → List ℕ
index_encoding b None = []
index_encoding b (Some index) = b ∷ unsigned_encoding index

-- The encoding of sharedness: 0x65 for a shared type, no bytes otherwise.
abbrev pub shared_encoding : Bool → List ℕ
shared_encoding false = []
shared_encoding true = 0x65 ∷ []

-- The encoding of a composite type: its optional prefixes, then its shape.
abbrev pub composite_encoding : Composite → List ℕ
composite_encoding c = shared_encoding c.shared ++ (index_encoding 0x4C c.describes ++ (index_encoding 0x4D c.descriptor ++ shape_encoding c.shape))

-- The bytes before the composite type of a subtype. There are none for a final type without
-- supertypes.
abbrev pub before_encoding : (is_final : Bool) → List ℕ → List ℕ
before_encoding true [] = []
before_encoding true (x ∷ xs) = 0x4F ∷ vec_encoding unsigned_encoding (x ∷ xs)
before_encoding false xs = 0x50 ∷ vec_encoding unsigned_encoding xs

-- The encoding of a subtype: the bytes before its composite type, then that type.
abbrev pub sub_encoding : Sub → List ℕ
sub_encoding s = before_encoding s.is_final s.supertypes ++ composite_encoding s.composite

-- The encoding of an entry: a subtype, or 0x4E and the vector of the group's subtypes.
abbrev pub type_encoding : TypeItem → List ℕ
type_encoding (single s) = sub_encoding s
type_encoding (group subs) = 0x4E ∷ vec_encoding sub_encoding subs

-- ---- well-formed types: numbers in range, and counts of at most 2^32 - 1

-- An index in the storage type is below 2^32.
abbrev pub IsStorage : StorageType → Type 0
IsStorage (Val ty) = IsVal ty
IsStorage _ = Unit {0}

-- An index in the field type is below 2^32.
abbrev pub IsField : FieldType → Type 0
IsField f = IsStorage f.element_type

-- Indices in the shape, and the numbers of parameters, results and fields, are below 2^32.
abbrev pub IsShape : Shape → Type 0
IsShape (func params results) = IsEncodableVec IsVal params × IsEncodableVec IsVal results
IsShape (array field) = IsField field
IsShape (structure fields) = IsEncodableVec IsField fields
IsShape (cont index) = index < 2 ^ 32

-- An optional index is below 2^32.
abbrev pub IsGivenIndex : Option ℕ → Type 0
IsGivenIndex index = IfSome index (IsUnsignedInRange 32)

-- The composite type is well-formed: its indices are below 2^32, and its shape is well-formed.
pub record IsComposite (c : Composite) : Type 0 where
  pub describes : IsGivenIndex c.describes
  pub descriptor : IsGivenIndex c.descriptor
  pub shape : IsShape c.shape

-- The subtype is well-formed: its supertypes are indices below 2^32 and fit their count, and its
-- composite type is well-formed.
pub record IsSub (s : Sub) : Type 0 where
  pub supertypes : IsEncodableVec (IsUnsignedInRange 32) s.supertypes
  pub composite : IsComposite s.composite

-- The entry is well-formed: each of its subtypes is, and they fit their count.
abbrev pub IsType : TypeItem → Type 0
IsType (single s) = IsSub s
IsType (group subs) = IsEncodableVec IsSub subs

-- ---- formats

-- The formats of packed types by their bytes.
abbrev pub storage_tags : List (ℕ × Format StorageType)
storage_tags = (0x78, fixed [] I8) ∷ (0x77, fixed [] I16) ∷ []

-- A packed type: one byte, which begins no value type.
abbrev pub packed_type : Format StorageType
packed_type = tagged byte (choice storage_tags (λ b. impossible))

-- A storage type: a packed type or a value type.
abbrev pub storage_type : Format StorageType
storage_type = one_of packed_type (mapped Val val_type)

-- The field type of this storage type and mutability.
abbrev pub field_of : StorageType × Bool → FieldType
field_of parts = record { element_type = parts.0; mutable = parts.1 }

-- A field type: a storage type and a byte for its mutability.
abbrev pub field_type : Format FieldType
field_type = mapped field_of (pair storage_type (coded mutable_code))

-- The function shape of these parameters and results.
abbrev pub func_of : List ValType × List ValType → Shape
func_of parts = func parts.0 parts.1

-- The formats after each first byte of a shape.
abbrev pub shape_tags : List (ℕ × Format Shape)
shape_tags = (0x60, mapped func_of (pair (vec val_type) (vec val_type))) ∷ (0x5E, mapped array field_type) ∷ (0x5F, mapped structure (vec field_type)) ∷ (0x5D, mapped cont s33) ∷ []

-- A shape after its first byte `b`.
abbrev pub after_shape : ℕ → Format Shape
after_shape b = choice shape_tags (λ c. impossible) b

-- A value that an index precedes.
abbrev pub given_index : {X : Type 0} → ℕ × X → Option ℕ × X
given_index parts = (Some parts.0, parts.1)

-- A value that no index precedes.
abbrev pub no_index : {X : Type 0} → X → Option ℕ × X
no_index x = (None, x)

-- A value after its first byte `b`: if `b` is the tag, an index and then the value, and the value
-- alone otherwise.
abbrev pub with_index : {X : Type 0} → ℕ → (ℕ → Format X) → ℕ → Format (Option ℕ × X)
with_index tag F b = choice ((tag, mapped given_index (pair u32 (tagged byte F))) ∷ []) (λ c. mapped no_index (F c)) b

-- An optional index of the type that describes it, then a shape, after the first byte `b`.
abbrev pub after_descriptor : ℕ → Format (Option ℕ × Shape)
after_descriptor b = with_index 0x4D after_shape b

-- An optional index of the type that it describes, then the remaining composite type, after the
-- first byte `b`.
abbrev pub after_describes : ℕ → Format (Option ℕ × (Option ℕ × Shape))
after_describes b = with_index 0x4C after_descriptor b

-- The composite type of these contents, shared or not.
abbrev pub composite_of : Bool → Option ℕ × (Option ℕ × Shape) → Composite
composite_of is_shared parts = record { shared = is_shared; describes = parts.0; descriptor = parts.1.0; shape = parts.1.1 }

-- A composite type after its first byte `b`.
abbrev pub after_composite : ℕ → Format Composite
after_composite b = choice ((0x65, mapped (composite_of true) (tagged byte after_describes)) ∷ []) (λ c. mapped (composite_of false) (after_describes c)) b

-- A composite type: 0x65 if it is shared, 0x4C and an index, 0x4D and an index, each optional, and
-- a shape. Core specification, Binary Format, Types, Composite Types; it has only the shape.
abbrev pub composite_type : Format Composite
composite_type = tagged byte after_composite

-- The subtype of these supertypes, final or not.
abbrev pub sub_of : Bool → List ℕ × Composite → Sub
sub_of is_final parts = record { is_final = is_final; supertypes = parts.0; composite = parts.1 }

-- The final subtype without supertypes.
abbrev pub alone_of : Composite → Sub
alone_of composite = record { is_final = true; supertypes = []; composite = composite }

-- The vector of supertypes, then a composite type.
abbrev pub supertypes_and : Format (List ℕ × Composite)
supertypes_and = pair (vec u32) composite_type

-- The byte 0x4F may precede this vector of supertypes and this composite type. In the builders'
-- grammar it does if there is a supertype; in the standard's, also before an empty vector.
abbrev pub HasFinalPrefix : Grammar → List ℕ × Composite → Type 0
HasFinalPrefix builders parts = 0 < length parts.0
HasFinalPrefix admitted parts = Unit {0}

-- The formats after 0x50 and 0x4F. Any other first byte of a subtype begins its composite type.
abbrev pub sub_tags : Grammar → List (ℕ × Format Sub)
sub_tags w = (0x50, mapped (sub_of false) supertypes_and) ∷ (0x4F, mapped (sub_of true) (such (HasFinalPrefix w) supertypes_and)) ∷ []

-- A composite type alone after its first byte `b`: a final subtype without supertypes.
abbrev pub after_alone : ℕ → Format Sub
after_alone b = mapped alone_of (after_composite b)

-- A subtype with the prefixes of this grammar: 0x50, or 0x4F if it is final, supertypes and a
-- composite type; or a composite type alone.
abbrev pub prefixed_sub : Grammar → Format Sub
prefixed_sub w = tagged byte (choice (sub_tags w) after_alone)

-- A subtype. The minimal encoding of a final type without supertypes is its composite type alone.
-- Core specification, Binary Format, Types, Recursive Types.
abbrev pub sub_type : Format Sub
sub_type = by_mode (prefixed_sub builders) (prefixed_sub builders) (prefixed_sub admitted)

-- A subtype after its first byte `b`.
abbrev pub after_sub : ℕ → Format Sub
after_sub b = after_byte sub_type b

-- The format after the byte 0x4E of a recursion group.
abbrev pub group_tags : List (ℕ × Format TypeItem)
group_tags = (0x4E, mapped group (vec sub_type)) ∷ []

-- A recursion group: 0x4E, which begins no subtype, and a vector of subtypes. Core specification,
-- Binary Format, Types, Recursive Types.
abbrev pub group_type : Format TypeItem
group_type = tagged byte (choice group_tags (λ b. impossible))

-- An entry: a recursion group or a subtype alone.
abbrev pub type_item : Format TypeItem
type_item = one_of group_type (mapped single sub_type)

-- The kind of the entries of a type section.
abbrev pub type_items : Kind TypeItem TypeItem
type_items = record { encoding = type_encoding; IsWellFormed = IsType; IsWellFormedPadded = IsType; normal_form = λ ty. ty; format = type_item }

-- ---- the type section

-- The pieces encode these entries.
abbrev pub ContainsTypes : List (List ℕ) → List TypeItem → Type 0
ContainsTypes = ContainsItems type_items

-- The type section that decodes to these entries.
abbrev pub type_decoding : List TypeItem → SectionDecoding
type_decoding types = decoding_of (number_of ids.Types) (vec type_item) types

-- The entry of this shape alone: final, without supertypes, and not shared.
abbrev pub plain_type : Shape → TypeItem
plain_type shape = single (record { is_final = true; supertypes = []; composite = record { shared = false; describes = None; descriptor = None; shape = shape } })
