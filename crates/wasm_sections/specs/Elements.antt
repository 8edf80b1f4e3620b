-- This file defines element segments, their encodings and their format. Core specification, Binary
-- Format, Modules, Element Section.
use Rattle.std.specs.Prelude.{ℕ, ◌+◌, ◌^◌, ◌<◌, List, [], ◌∷◌, ◌++◌, map, Bool, true, false, cond, Option, Some, None, IfSome}
use Rattle.wasm_base.specs.Words.{Kind, ContainsItems, Format, u32, mapped, pair, tagged, prefixed, fixed, vec, when, numbered, is_given, IsUnsignedInRange, Mode, minimal, padded, unsigned_encoding}
use Rattle.wasm_base.specs.Words.{vec_encoding, IsEncodableVec, optional_encoding, ref_type, ref_encoding, IsRef, FUNCREF, SectionDecoding, decoding_of, number_of}
use Rattle.wasm_base.specs.declared.types.HeapType.{HeapType}
use Rattle.wasm_base.specs.declared.types.RefType.{RefType}
use Rattle.wasm_base.specs.declared.types.HeapType.TheVariants.{Abstract}
use Rattle.wasm_code.specs.Words.{expression, expression_encoding}
use Rattle.wasm_immediates.specs.Words.{where_set}
use Rattle.wasm_insn.specs.Words.{Plain}
use Rattle.wasm_sections.specs.Constants.{Stored, IsStoredIn, instructions_view}
use Rattle.wasm_sections.specs.declared.element_items.ElementFlag.{ElementFlag as ReadFlag}
use Rattle.wasm_sections.specs.declared.element_items.ElementItem.{ElementItem as ReadElement}
use Rattle.wasm_sections.specs.declared.element_items.ElementItemMode.{ElementItemMode}
use Rattle.wasm_sections.specs.declared.element_items.ElementList.{ElementList as ReadList}
use Rattle.wasm_base.specs.declared.types.AbstractHeapType.TheVariants as kinds
use Rattle.wasm_base.specs.declared.section_id.SectionId.TheVariants as ids
use Rattle.wasm_sections.specs.declared.element_items.ElementItemMode.TheVariants as modes
use Rattle.wasm_sections.specs.declared.element_items.ElementList.TheVariants as lists

-- ---- tables

-- Whether it is the type of nullable references to unshared functions, which encodings without a
-- type imply.
abbrev pub is_nullable_func : Bool → HeapType → Bool
is_nullable_func true (Abstract false kinds.Func) = true
is_nullable_func _ _ = false

-- Whether it is `funcref`, the type of nullable references to unshared functions.
abbrev pub is_funcref : RefType → Bool
is_funcref r = is_nullable_func r.nullable r.heap_type

-- The table that is encoded: table 0 if one is needed and none is given.
abbrev pub settled_table : Bool → Option ℕ → Option ℕ
settled_table needed (Some table) = Some table
settled_table true None = Some 0
settled_table false None = None

-- ---- segments, for any representation of expressions

-- The mode of a segment: passive, declared, or active with an optional table and an offset
-- expression.
pub data SegmentMode (E : Type 0) : Type 0 where
  passive : SegmentMode E
  declared : SegmentMode E
  active : Option ℕ → E → SegmentMode E

-- The elements of a segment: function indices, or expressions and their reference type.
pub data ElementList (E : Type 0) : Type 0 where
  functions : List ℕ → ElementList E
  expressions : RefType → List E → ElementList E

-- An element segment: its mode and its elements.
pub record ElementItem (E : Type 0) : Type 0 where
  pub segment_mode : SegmentMode E
  pub elements : ElementList E

-- ---- normal form

-- An active segment of these elements needs an explicit table: no flag without a table encodes
-- them.
abbrev pub needs_table : {E : Type 0} → ElementList E → Bool
needs_table (functions fs) = false
needs_table (expressions r es) = cond (is_funcref r) false true

-- The mode, with table 0 if it is active, a table is needed and none is given.
abbrev pub settled_segment_mode : {E : Type 0} → Bool → SegmentMode E → SegmentMode E
settled_segment_mode needed passive = passive
settled_segment_mode needed declared = declared
settled_segment_mode needed (active table offset) = active (settled_table needed table) offset

-- The segment, with table 0 if it is active, needs a table and has none.
abbrev pub settled : {E : Type 0} → ElementItem E → ElementItem E
settled s = record { segment_mode = settled_segment_mode (needs_table s.elements) s.segment_mode; elements = s.elements }

-- ---- flags

-- The three bits of a segment's flag: it is not active, a second bit whose meaning depends on the
-- first, and its elements are expressions.
pub record ElementFlag : Type 0 where
  pub not_active : Bool
  pub second : Bool
  pub expressions : Bool

-- The number of the flag: its bits have the weights 1, 2 and 4.
abbrev pub flag_code : ElementFlag → ℕ
flag_code f = where_set f.not_active 1 + where_set f.second 2 + where_set f.expressions 4

-- Whether the kind of the elements is encoded: for every flag but 0 and 4.
abbrev pub has_kind : ElementFlag → Bool
has_kind f = cond f.not_active true f.second

-- Whether the segment is passive or declared.
abbrev pub is_inactive : {E : Type 0} → SegmentMode E → Bool
is_inactive passive = true
is_inactive declared = true
is_inactive (active table offset) = false

-- The second bit of the flag: the segment is declared, or is active with an explicit table.
abbrev pub is_second : {E : Type 0} → SegmentMode E → Bool
is_second passive = false
is_second declared = true
is_second (active table offset) = is_given table

-- Whether the elements are expressions, not function indices.
abbrev pub are_expressions : {E : Type 0} → ElementList E → Bool
are_expressions (functions fs) = false
are_expressions (expressions r es) = true

-- The flag of an element segment.
abbrev pub flag_of : {E : Type 0} → ElementItem E → ElementFlag
flag_of s = record { not_active = is_inactive s.segment_mode; second = is_second s.segment_mode; expressions = are_expressions s.elements }

-- ---- encoding

module _ {E : Type 0} (encoding : E → List ℕ) where
  -- The encoding of a mode: no bytes unless it is active, else the explicit table, if any, and the
  -- offset expression.
  abbrev pub segment_mode_encoding : SegmentMode E → List ℕ
  segment_mode_encoding passive = []
  segment_mode_encoding declared = []
  segment_mode_encoding (active table offset) = optional_encoding unsigned_encoding table ++ encoding offset

  -- The encoding of elements: their kind if it is encoded, then a vector.
  abbrev pub elements_encoding : Bool → ElementList E → List ℕ
  elements_encoding explicit (functions fs) = cond explicit (0x00 ∷ []) [] ++ vec_encoding unsigned_encoding fs
  elements_encoding explicit (expressions r es) = cond explicit (ref_encoding r) [] ++ vec_encoding encoding es

  -- The encoding of a settled segment: the flag, the mode and the elements.
  abbrev pub settled_encoding : ElementItem E → List ℕ
  settled_encoding s = flag_code (flag_of s) ∷ (segment_mode_encoding s.segment_mode ++ elements_encoding (has_kind (flag_of s)) s.elements)

-- The number of elements is at most 2^32 - 1.
abbrev pub AreEncodableElements : {E : Type 0} → ElementList E → Type 0
AreEncodableElements (functions fs) = IsEncodableVec (λ f. Unit {0}) fs
AreEncodableElements (expressions r es) = IsEncodableVec (λ e. Unit {0}) es

-- ---- arguments of calls, and items of a section

-- The encoding of an expression that is an argument.
abbrev pub stored_encoding : Stored → List ℕ
stored_encoding e = expression_encoding e.bytes

-- The encoding of an element segment that is an argument: that of the settled segment.
abbrev pub element_encoding : ElementItem Stored → List ℕ
element_encoding s = settled_encoding stored_encoding (settled s)

-- If the segment is active, its explicit table is below 2^32 and the bytes of its expression encode
-- its instructions in this mode.
abbrev pub IsSegmentModeIn : Mode → SegmentMode Stored → Type 0
IsSegmentModeIn mode passive = Unit {0}
IsSegmentModeIn mode declared = Unit {0}
IsSegmentModeIn mode (active table offset) = IfSome table (λ t. t < 2 ^ 32) × IsStoredIn mode offset

-- Indices are below 2^32, the bytes of expressions encode their instructions in this mode, and
-- there are at most 2^32 - 1 elements.
abbrev pub AreElementsIn : Mode → ElementList Stored → Type 0
AreElementsIn mode (functions fs) = IsEncodableVec (IsUnsignedInRange 32) fs
AreElementsIn mode (expressions r es) = IsRef r × IsEncodableVec (IsStoredIn mode) es

-- The numbers of the segment are in range, and the bytes of its expressions encode their
-- instructions in this mode.
pub record IsSegmentIn (mode : Mode) (s : ElementItem Stored) : Type 0 where
  pub segment_mode : IsSegmentModeIn mode s.segment_mode
  pub elements : AreElementsIn mode s.elements

-- If the segment is active, its explicit table is below 2^32 and its expression is minimally
-- encoded.
abbrev pub IsSegmentMode : SegmentMode Stored → Type 0
IsSegmentMode p = IsSegmentModeIn minimal p

-- The segment is well-formed: its numbers are in range, and its expressions are minimally encoded.
abbrev pub IsSegment : ElementItem Stored → Type 0
IsSegment s = IsSegmentIn minimal s

-- The segment is well-formed, and its expressions may be padded.
abbrev pub IsSegmentPadded : ElementItem Stored → Type 0
IsSegmentPadded s = IsSegmentIn padded s

-- The same mode, with the bytes of its expression.
abbrev pub segment_mode_by : SegmentMode Stored → SegmentMode (List ℕ)
segment_mode_by passive = passive
segment_mode_by declared = declared
segment_mode_by (active table offset) = active table offset.bytes

-- The same elements, with the bytes of their expressions.
abbrev pub elements_by : ElementList Stored → ElementList (List ℕ)
elements_by (functions fs) = functions fs
elements_by (expressions r es) = expressions r (map (λ e. e.bytes) es)

-- The same segment, with the bytes of its expressions.
abbrev pub stored_by : ElementItem Stored → ElementItem (List ℕ)
stored_by s = record { segment_mode = segment_mode_by s.segment_mode; elements = elements_by s.elements }

-- The same mode, with the instructions of its expression.
abbrev pub segment_mode_of : SegmentMode Stored → SegmentMode (List Plain)
segment_mode_of passive = passive
segment_mode_of declared = declared
segment_mode_of (active table offset) = active table offset.instructions

-- The same elements, with the instructions of their expressions.
abbrev pub elements_of : ElementList Stored → ElementList (List Plain)
elements_of (functions fs) = functions fs
elements_of (expressions r es) = expressions r (map (λ e. e.instructions) es)

-- The same segment, with the instructions of its expressions.
abbrev pub said_by : ElementItem Stored → ElementItem (List Plain)
said_by s = record { segment_mode = segment_mode_of s.segment_mode; elements = elements_of s.elements }

-- The normal form: the settled segment, with the instructions of its expressions.
abbrev pub element_of : ElementItem Stored → ElementItem (List Plain)
element_of s = said_by (settled s)

-- ---- format

-- The active mode without an explicit table, with this offset expression.
abbrev pub in_no_table : List Plain → SegmentMode (List Plain)
in_no_table offset = active None offset

-- The active mode with this explicit table and this offset expression.
abbrev pub in_table : ℕ × List Plain → SegmentMode (List Plain)
in_table parts = active (Some parts.0) parts.1

-- A mode by its flag: no bytes if passive or declared; if active, a table if the second bit is set,
-- then an expression.
abbrev pub segment_mode : ElementFlag → Format (SegmentMode (List Plain))
segment_mode f = when f.not_active (when f.second (fixed [] declared) (fixed [] passive)) (when f.second (mapped in_table (pair u32 expression)) (mapped in_no_table expression))

-- The elements that are these expressions of this reference type.
abbrev pub list_of : RefType × List (List Plain) → ElementList (List Plain)
list_of parts = expressions parts.0 parts.1

-- Elements: expressions or function indices. Before expressions comes their reference type if it is
-- encoded, and `funcref` is implied otherwise. Before indices comes the byte 00 of their kind if it
-- is encoded.
abbrev pub elements_as : (explicit of_expressions : Bool) → Format (ElementList (List Plain))
elements_as explicit of_expressions =
    when of_expressions (mapped list_of (pair (when explicit ref_type (fixed [] FUNCREF)) (vec expression)))
    (mapped functions (prefixed (cond explicit (0x00 ∷ []) []) (vec u32)))

-- The element segment of this mode and these elements.
abbrev pub segment_of : SegmentMode (List Plain) × ElementList (List Plain) → ElementItem (List Plain)
segment_of parts = record { segment_mode = parts.0; elements = parts.1 }

-- An element segment: a flag, then the mode and the elements that it selects.
abbrev pub element : Format (ElementItem (List Plain))
element = tagged (numbered flag_code) (λ f. mapped segment_of (pair (segment_mode f) (elements_as (has_kind f) f.expressions)))

-- The kind of element segments.
abbrev pub element_items : Kind (ElementItem Stored) (ElementItem (List Plain))
element_items = record { encoding = element_encoding; IsWellFormed = IsSegment; IsWellFormedPadded = IsSegmentPadded; normal_form = element_of; format = element }

-- ---- decoded segments

-- The view of a decoded flag.
abbrev pub element_flag_view : ReadFlag → ElementFlag
element_flag_view f = record { not_active = f.not_active; second = f.second; expressions = f.expressions }

-- The view of a decoded mode.
abbrev pub segment_mode_view : {A : Type 0} → ElementItemMode A → SegmentMode (List Plain)
segment_mode_view modes.Passive = passive
segment_mode_view modes.Declared = declared
segment_mode_view (modes.Active table offset) = active table (instructions_view offset)

-- The view of decoded elements.
abbrev pub list_view : {A : Type 0} → ReadList A → ElementList (List Plain)
list_view (lists.Functions fs) = functions fs.items
list_view (lists.Expressions r es) = expressions r (map instructions_view es.items)

-- The view of a decoded element segment.
abbrev pub element_view : {A : Type 0} → ReadElement A → ElementItem (List Plain)
element_view e = record { segment_mode = segment_mode_view e.mode; elements = list_view e.elements }

-- The pieces encode these element segments.
abbrev pub ContainsElements : List (List ℕ) → List (ElementItem (List Plain)) → Type 0
ContainsElements = ContainsItems element_items

-- The element section that decodes to these segments.
abbrev pub element_decoding : List (ElementItem (List Plain)) → SectionDecoding
element_decoding segments = decoding_of (number_of ids.Element) (vec element) segments
