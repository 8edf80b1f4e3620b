-- This file defines the types that the arguments of calls encode.
use Rattle.std.specs.Prelude.{ℕ, List, [], ◌∷◌, Option, Some, None}
use Rattle.wasm_base.specs.Words.{vec_encoding, IsEncodableVec}
use Rattle.wasm_types.specs.RecTypes.{Shape, func, array, structure, cont, Composite, Sub, sub_encoding}
use Rattle.wasm_types.specs.declared.types.CompositeInnerType.{CompositeInnerType}
use Rattle.wasm_types.specs.declared.types.CompositeType.{CompositeType}
use Rattle.wasm_types.specs.declared.types.FuncType.{FuncType}
use Rattle.wasm_types.specs.declared.types.SubType.{SubType}
use Rattle.wasm_types.specs.declared.types.CompositeInnerType.TheVariants as inner

-- An optional index as a list.
abbrev pub listed : Option ℕ → List ℕ
listed None = []
listed (Some index) = index ∷ []

-- The shape of a function type.
abbrev pub func_in : {A : Type 0} → FuncType A → Shape
func_in f = func f.params.items f.results.items

-- The shape of a composite type.
abbrev pub shape_in : {A : Type 0} → CompositeInnerType A → Shape
shape_in (inner.Func f) = func_in f
shape_in (inner.Array a) = array a.0
shape_in (inner.Struct s) = structure s.fields.items
shape_in (inner.Cont c) = cont c.0

-- The composite type that an argument encodes.
abbrev pub composite_in : {A : Type 0} → CompositeType A → Composite
composite_in c = record { shared = c.shared; describes = c.describes; descriptor = c.descriptor; shape = shape_in c.inner }

-- The subtype that an argument encodes: it has at most one supertype.
abbrev pub sub_in : {A : Type 0} → SubType A → Sub
sub_in s = record { is_final = s.is_final; supertypes = listed s.supertype_idx; composite = composite_in s.composite_type }

-- The numbers of parameters, results and fields are at most 2^32 - 1.
abbrev pub IsEncodableShape : Shape → Type 0
IsEncodableShape (func params results) = IsEncodableVec (λ t. Unit {0}) params × IsEncodableVec (λ t. Unit {0}) results
IsEncodableShape (array field) = Unit {0}
IsEncodableShape (structure fields) = IsEncodableVec (λ f. Unit {0}) fields
IsEncodableShape (cont index) = Unit {0}

-- The encoding of a recursion group of subtypes.
abbrev pub group_encoding : {A : Type 0} → List (SubType A) → List ℕ
group_encoding subs = 0x4E ∷ vec_encoding (λ s. sub_encoding (sub_in s)) subs
