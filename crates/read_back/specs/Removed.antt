-- This file defines modules without some of their functions.
use Rattle.std.specs.Prelude.{ℕ, List, Bool}
use Rattle.wasm_reader.specs.declared.whole.Offsets.TheVariants.{LeaveOut}
use Rattle.wasm_remap.specs.Removed.{RemovesFunctions}

-- Some functions are removed, and no index that is mapped is that of one.
abbrev pub LosesFunctions : List ℕ → List ℕ → Type 0
LosesFunctions bytes new = (removed : List Bool) × RemovesFunctions removed LeaveOut bytes new
