-- This file defines the laws of the offsets at which the visitor of instructions visits a body.
use Rattle.std.specs.Prelude.{◌≡◌, ℕ, ◌<◌, ◌≤◌, List, [], ◌∷◌, ◌++◌, length, take, drop}
use Rattle.wasm_base.specs.Words.{Mode, u32, pair, vec, Decodes, val_type}
use Rattle.wasm_insn.specs.Words.{Plain, instruction, table}
use Rattle.wasm_code.specs.Bodies.{Body, Run, body, and_then}

-- The visitor has visited `x`: the bytes before this offset encode these runs and instructions.
abbrev pub HasVisited : Mode → List ℕ → ℕ → Body → Type 0
HasVisited mode bytes offset x = body mode (take offset bytes) x

-- The visitor of a body starts after its runs and advances by an instruction. After as many
-- instructions as a raw body has, it is at that body's length and has visited that body.
pub record OffsetLaws (mode : Mode) : Type 0 where
  pub begun : (bytes : List ℕ) (offset : ℕ) (runs : List Run) → Decodes (vec (pair u32 val_type)) mode bytes runs (drop offset bytes) → offset ≤ length bytes → HasVisited mode bytes offset (record { runs = runs; code = [] })
  pub continues : (bytes : List ℕ) (offset after : ℕ) (x : Body) (i : Plain) → HasVisited mode bytes offset x → Decodes (instruction table) mode (drop offset bytes) i (drop after bytes) → offset < after → after ≤ length bytes → HasVisited mode bytes after (and_then x (i ∷ []))
  pub same : (front more : List ℕ) (offset : ℕ) (x y : Body) → body mode front x → HasVisited mode (front ++ more) offset y → offset ≤ length (front ++ more) → length y.code ≡ length x.code → (y ≡ x) × (offset ≡ length front)
