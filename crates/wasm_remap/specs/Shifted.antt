-- This file defines the map that moves the indices of one space.
use Rattle.std.specs.Prelude.{◌≡◌, ℕ, ◌+◌, ◌≤◌, ◌^◌, ◌&&◌, nat_le, nat_lt, Bool, true, false, cond}
use Rattle.wasm_remap.specs.declared.shift.IndexTooLarge.{IndexTooLarge}
use Rattle.wasm_remap.specs.declared.shift.Shift.{Shift}
use Rattle.wasm_remap.specs.declared.spaces.IndexSpace.{IndexSpace}
use Rattle.wasm_remap.specs.declared.spaces.IndexSpace.TheVariants.{Functions, Types, Tables, Memories, Globals, Tags, Elements, Data}

-- Whether both are the same index space.
abbrev pub is_same : IndexSpace → IndexSpace → Bool
is_same Functions Functions = true
is_same Types Types = true
is_same Tables Tables = true
is_same Memories Memories = true
is_same Globals Globals = true
is_same Tags Tags = true
is_same Elements Elements = true
is_same Data Data = true
is_same a b = false

-- Whether the index moves.
abbrev pub moves : Shift → IndexSpace → ℕ → Bool
moves s space n = is_same space s.space && nat_le s.from n

-- The new index: the number is added to an index that moves, unless the sum has more than 32 bits.
abbrev pub shifted : Shift → IndexSpace → ℕ → ℕ
shifted s space n = cond (moves s space n && nat_lt (n + s.by) (2 ^ 32)) (n + s.by) n

-- The index moves, and the sum has more than 32 bits. The error has the index.
abbrev pub IsTooLarge : Shift → IndexSpace → ℕ → IndexTooLarge → Type 0
IsTooLarge s space n e = (moves s space n ≡ true) × (2 ^ 32 ≤ n + s.by) × (e.space ≡ space) × (e.index ≡ n)
