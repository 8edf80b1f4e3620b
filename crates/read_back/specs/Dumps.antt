-- This file defines the items of the core dump.
use Rattle.std.specs.Prelude.{ℕ, List, [], ◌∷◌, pos, codes}
use Rattle.wasm_base.specs.Words.{SectionDecoding}
use Rattle.wasm_custom.specs.Words.{Instance, core_decoding, modules_decoding, instances_decoding, StackFrame, stack_decoding}
use Rattle.wasm_custom.specs.declared.core_values.CoreDumpValue.TheVariants.{Missing, I32}

-- An instance of module 0, with one memory and two globals.
abbrev pub first_instance : Instance
first_instance = record { module_index = 0; memories = 0 ∷ []; globals = 0 ∷ 1 ∷ [] }

-- An instance of the module of this index, with one memory and these globals.
abbrev pub other_instance : ℕ → List ℕ → Instance
other_instance index globals = record { module_index = index; memories = 1 ∷ []; globals = globals }

-- A frame with a missing local and a number on its stack.
abbrev pub first_frame : StackFrame
first_frame = record { instance = 0; function = 1; offset = 2; locals = Missing ∷ []; stack = I32 (pos 5) ∷ [] }

-- A frame at this offset, with one local and an empty stack.
abbrev pub other_frame : ℕ → StackFrame
other_frame offset = record { instance = 0; function = 0; offset = offset; locals = I32 (pos 5) ∷ []; stack = [] }

-- The sections of the core dump of a process of this name, in order.
abbrev pub dump_sections : List ℕ → ℕ → List SectionDecoding
dump_sections name index =
    core_decoding name
    ∷ modules_decoding (codes "main" ∷ name ∷ [])
    ∷ instances_decoding (first_instance ∷ other_instance index (7 ∷ []) ∷ [])
    ∷ stack_decoding name (first_frame ∷ other_frame index ∷ [])
    ∷ []
