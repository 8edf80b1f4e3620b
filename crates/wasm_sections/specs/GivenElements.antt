-- This file defines element segments as arguments of calls, whose expressions are stored bytes.
use Rattle.std.specs.Prelude.{◌≡◌, ℕ, List}
use Rattle.wasm_base.specs.Words.{items_of}
use Rattle.wasm_code.specs.Words.{expression_encoding}
use Rattle.wasm_sections.specs.Constants.{Stored}
use Rattle.wasm_sections.specs.Elements.{SegmentMode, passive, declared, active, ElementList, functions, expressions, ElementItem, settled, settled_encoding, element_encoding, stored_by}
use Rattle.wasm_sections.specs.declared.element.ElementMode.{ElementMode}
use Rattle.wasm_sections.specs.declared.element.ElementSegment.{ElementSegment}
use Rattle.wasm_sections.specs.declared.element.Elements.{Elements}
use Rattle.wasm_sections.specs.declared.element.ElementMode.TheVariants as modes
use Rattle.wasm_sections.specs.declared.element.Elements.TheVariants as lists

-- The mode of an argument, with the stored bytes of its expression.
abbrev pub mode_of : {A : Type 0} → ElementMode A → SegmentMode (List ℕ)
mode_of modes.Passive = passive
mode_of modes.Declared = declared
mode_of (modes.Active table offset) = active table offset.now

-- The elements of an argument, borrowed or owned, with the stored bytes of their expressions.
abbrev pub list_in : {A : Type 0} → Elements A → ElementList (List ℕ)
list_in (lists.Functions fs) = functions (items_of fs)
list_in (lists.Expressions r es) = expressions r (items_of es)

-- The element segment of an argument, with the stored bytes of its expressions.
abbrev pub segment_in : {A : Type 0} → ElementSegment A → ElementItem (List ℕ)
segment_in s = record { segment_mode = mode_of s.mode; elements = list_in s.elements }

-- The encoding of an element segment that is an argument: that of the settled segment.
abbrev pub given_encoding : {A : Type 0} → ElementSegment A → List ℕ
given_encoding s = settled_encoding expression_encoding (settled (segment_in s))

-- If the record has the mode and the elements of the segment, with the same bytes of expressions,
-- both have one encoding.
pub record HaveOneEncoding {A : Type 0} (s : ElementSegment A) (given : ElementItem Stored) : Type 0 where
  pub same : segment_in s ≡ stored_by given → given_encoding s ≡ element_encoding given
