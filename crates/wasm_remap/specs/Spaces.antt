-- This file defines the index spaces of the numbers among the immediates of each opcode.
use Rattle.std.specs.Prelude.{ℕ, ◌==◌, ◌&&◌, nat_le, List, [], ◌∷◌, Option, Some, None, Bool, cond}
use Rattle.std.specs.List.{find}
use Rattle.std.specs.Option.{option_map}
use Rattle.wasm_insn.specs.declared.op.Op.{Op}
use Rattle.wasm_insn.specs.declared.op.Op.TheVariants.{Byte, Prefixed}
use Rattle.wasm_remap.specs.declared.spaces.IndexSpace.{IndexSpace}
use Rattle.wasm_remap.specs.declared.spaces.IndexSpace.TheVariants.{Functions, Types, Tables, Memories, Globals, Tags, Elements, Data}
use Rattle.wasm_remap.specs.declared.spaces.Run.{Run}

-- The index spaces of the first and the second number of an opcode. A number that is a label, a
-- local, a field or a length has none.
abbrev pub Spaces : Type 0
Spaces = Option IndexSpace × Option IndexSpace

-- The opcodes with the numbers `from` to `to`, whose numbers are in the same index spaces.
abbrev pub run : ℕ → ℕ → Option IndexSpace → Option IndexSpace → Run
run from to first second = record { 0 = from; 1 = to; 2 = first; 3 = second }

-- One-byte opcodes.
abbrev pub one_byte : List Run
one_byte =
    -- begin: written by tools/instructions
    run 0x07 0x08 (Some Tags) None ∷
    run 0x10 0x10 (Some Functions) None ∷
    run 0x11 0x11 (Some Types) (Some Tables) ∷
    run 0x12 0x12 (Some Functions) None ∷
    run 0x13 0x13 (Some Types) (Some Tables) ∷
    run 0x14 0x15 (Some Types) None ∷
    run 0x23 0x24 (Some Globals) None ∷
    run 0x25 0x26 (Some Tables) None ∷
    run 0x3F 0x40 (Some Memories) None ∷
    run 0xD2 0xD2 (Some Functions) None ∷
    run 0xE0 0xE0 (Some Types) None ∷
    run 0xE1 0xE1 (Some Types) (Some Types) ∷
    run 0xE2 0xE2 (Some Tags) None ∷
    run 0xE3 0xE3 (Some Types) None ∷
    run 0xE4 0xE4 (Some Types) (Some Tags) ∷
    run 0xE5 0xE5 (Some Types) None ∷
    run 0xE6 0xE6 (Some Types) (Some Tags) ∷
    -- end: written by tools/instructions
    []

-- Opcodes after the prefix FB.
abbrev pub after_fb : List Run
after_fb =
    -- begin: written by tools/instructions
    run 0 8 (Some Types) None ∷
    run 9 9 (Some Types) (Some Data) ∷
    run 10 10 (Some Types) (Some Elements) ∷
    run 11 14 (Some Types) None ∷
    run 16 16 (Some Types) None ∷
    run 17 17 (Some Types) (Some Types) ∷
    run 18 18 (Some Types) (Some Data) ∷
    run 19 19 (Some Types) (Some Elements) ∷
    run 32 34 (Some Types) None ∷
    -- end: written by tools/instructions
    []

-- Opcodes after the prefix FC.
abbrev pub after_fc : List Run
after_fc =
    -- begin: written by tools/instructions
    run 8 8 (Some Data) (Some Memories) ∷
    run 9 9 (Some Data) None ∷
    run 10 10 (Some Memories) (Some Memories) ∷
    run 11 11 (Some Memories) None ∷
    run 12 12 (Some Elements) (Some Tables) ∷
    run 13 13 (Some Elements) None ∷
    run 14 14 (Some Tables) (Some Tables) ∷
    run 15 17 (Some Tables) None ∷
    run 18 18 (Some Memories) None ∷
    -- end: written by tools/instructions
    []

-- Opcodes after the prefix FE.
abbrev pub after_fe : List Run
after_fe =
    -- begin: written by tools/instructions
    run 0x4F 0x57 (Some Globals) None ∷
    run 0x58 0x5B (Some Tables) None ∷
    run 0x5C 0x71 (Some Types) None ∷
    -- end: written by tools/instructions
    []

-- Whether the run has this number.
abbrev pub has_number : ℕ → Run → Bool
has_number n r = nat_le r.0 n && nat_le n r.1

-- The index spaces of the opcode with this number, among the runs of its prefix.
abbrev pub found_in : List Run → ℕ → Option Spaces
found_in runs n = option_map (λ r. (r.2, r.3)) (find (has_number n) runs)

-- The same by the prefix.
abbrev pub found_of : Op → Option Spaces
found_of (Byte b) = found_in one_byte b
found_of (Prefixed p n) = cond (p == 0xFB) (found_in after_fb n) (cond (p == 0xFC) (found_in after_fc n) (cond (p == 0xFE) (found_in after_fe n) None))

-- The index spaces that were found, and none if the opcode has no run.
abbrev pub or_none : Option Spaces → Spaces
or_none None = (None, None)
or_none (Some spaces) = spaces

-- The index spaces of the first and the second number among the immediates of an opcode.
abbrev pub spaces_of : Op → Spaces
spaces_of op = or_none (found_of op)
