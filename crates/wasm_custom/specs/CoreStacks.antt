-- This file defines the stacks of a core dump, their encoding and their format. Tool conventions,
-- Coredump.
use Rattle.std.specs.Prelude.{◌≡◌, ℕ, ◌^◌, ◌<◌, List, [], ◌∷◌, ◌++◌, IsUtf8, codes}
use Rattle.wasm_base.specs.Words.{Kind, ContainsItems, Format, u32, mapped, pair, prefixed, vec, unsigned_encoding, vec_encoding, IsEncodableVec, SectionDecoding}
use Rattle.wasm_base.specs.Stores.{StoreModel, pieces_model}
use Rattle.wasm_custom.specs.CoreDumps.{marked_encoding, marked_name}
use Rattle.wasm_custom.specs.CoreValues.{value_encoding, IsValue, value}
use Rattle.wasm_custom.specs.Customs.{named_section, named_payload, decoding_as}
use Rattle.wasm_custom.specs.declared.core_values.CoreDumpValue.{CoreDumpValue}
use Rattle.wasm_custom.specs.declared.core_stack.CoreFrame.{CoreFrame}

-- A stack frame: its code location, its locals, and its operand stack.
pub record StackFrame : Type 0 where
  pub instance : ℕ
  pub function : ℕ
  pub offset : ℕ
  pub locals : List CoreDumpValue
  pub stack : List CoreDumpValue

-- The encoding of a stack frame: the byte 00, its code location, and the vectors of its locals and
-- its operand stack.
abbrev pub frame_entry : StackFrame → List ℕ
frame_entry f = (0x00 ∷ (unsigned_encoding f.instance ++ (unsigned_encoding f.function ++ unsigned_encoding f.offset))) ++ (vec_encoding value_encoding f.locals ++ vec_encoding value_encoding f.stack)

-- The stack frame is well-formed: its numbers and values are in range, and its lists have at most
-- 2^32 - 1 members.
pub record IsFrame (f : StackFrame) : Type 0 where
  pub instance : f.instance < 2 ^ 32
  pub function : f.function < 2 ^ 32
  pub offset : f.offset < 2 ^ 32
  pub locals : IsEncodableVec IsValue f.locals
  pub stack : IsEncodableVec IsValue f.stack

-- A code location: the instance, the function, and the offset in the function.
abbrev pub CodeLocation : Type 0
CodeLocation = ℕ × (ℕ × ℕ)

-- The stack frame at this location, with these locals and this operand stack.
abbrev pub stack_frame_of : CodeLocation × (List CoreDumpValue × List CoreDumpValue) → StackFrame
stack_frame_of p = record { instance = p.0.0; function = p.0.1.0; offset = p.0.1.1; locals = p.1.0; stack = p.1.1 }

-- A stack frame: the byte 00, its code location, and the vectors of its locals and its operand
-- stack.
abbrev pub stack_frame : Format StackFrame
stack_frame = mapped stack_frame_of (pair (prefixed (0x00 ∷ []) (pair u32 (pair u32 u32))) (pair (vec value) (vec value)))

-- The kind of stack frames.
abbrev pub frame_items : Kind StackFrame StackFrame
frame_items = record { encoding = frame_entry; IsWellFormed = IsFrame; IsWellFormedPadded = IsFrame; normal_form = λ frame. frame; format = stack_frame }

-- The section name `corestack`.
abbrev pub stack_name : List ℕ
stack_name = codes "corestack"

-- The section of a stack: the name of its thread, and its frames.
abbrev pub stack_section : Format (List ℕ × List StackFrame)
stack_section = named_section stack_name (pair marked_name (vec stack_frame))

-- The front is the byte 00 and this name of the thread, which is UTF-8, and the entries of the store
-- encode these frames.
abbrev pub SaysStackIn : {M : Type 0} → StoreModel M → List ℕ → M → List ℕ × List StackFrame → Type 0
SaysStackIn model front frames said = IsUtf8 said.0 × (front ≡ marked_encoding said.0) × model.holds (λ pieces. ContainsItems frame_items pieces said.1) frames

-- `SaysStackIn` of frames that are a list of pieces.
abbrev pub SaysStack : List ℕ → List (List ℕ) → List ℕ × List StackFrame → Type 0
SaysStack front frames said = SaysStackIn pieces_model front frames said

-- ---- the section of a stack

-- The payload of the section: the section name, the name of the thread after the byte 00, and a
-- vector of frames.
abbrev pub stack_payload : Format (List ℕ × List StackFrame)
stack_payload = named_payload stack_name (pair marked_name (vec stack_frame))

-- The section that decodes to the stack of the thread of this name, with these frames.
abbrev pub stack_decoding : List ℕ → List StackFrame → SectionDecoding
stack_decoding n frames = decoding_as stack_payload (n, frames)

-- ---- decoded frames

-- The view of a decoded stack frame.
abbrev pub stack_frame_view : {A : Type 0} → CoreFrame A → StackFrame
stack_frame_view f = record { instance = f.instanceidx; function = f.funcidx; offset = f.codeoffset; locals = f.locals.items; stack = f.stack.items }
