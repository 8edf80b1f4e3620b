-- This file defines the init functions of a linking section, their encoding and their format. Tool
-- conventions, Linking, Linking Metadata Section, `WASM_INIT_FUNCS`.
use Rattle.std.specs.Prelude.{ℕ, ◌^◌, ◌<◌, List, ◌++◌}
use Rattle.wasm_base.specs.Words.{Format, u32, mapped, pair, unsigned_encoding}
use Rattle.wasm_custom.specs.Lists.{IsListOf}
use Rattle.wasm_custom.specs.declared.init_functions.InitFunction.{InitFunction}

-- The encoding of an init function: its priority, and the index of its symbol.
abbrev pub init_encoding : InitFunction → List ℕ
init_encoding f = unsigned_encoding f.priority ++ unsigned_encoding f.symbol

-- The numbers of the init function are in range.
pub record IsInit (f : InitFunction) : Type 0 where
  pub priority : f.priority < 2 ^ 32
  pub symbol : f.symbol < 2 ^ 32

-- The init function of this priority and this symbol.
abbrev pub init_of : ℕ × ℕ → InitFunction
init_of parts = record { priority = parts.0; symbol = parts.1 }

-- An init function: a priority, and the index of a symbol.
abbrev pub init_function : Format InitFunction
init_function = mapped init_of (pair u32 u32)

-- The pieces are the encodings of these init functions.
abbrev pub AreInits : List (List ℕ) → List InitFunction → Type 0
AreInits = IsListOf init_encoding IsInit
