-- This file defines the view of a decoded body: its value without its location in memory.
use Rattle.std.specs.Prelude.{map}
use Rattle.wasm_code.specs.Bodies.{Body as BodyModel}
use Rattle.wasm_code.specs.declared.body.Body.{Body}
use Rattle.wasm_insn.specs.Words.{plain_view}

-- The view of a body.
abbrev pub body_view : {A : Type 0} → Body A → BodyModel
body_view b = record { runs = b.runs.items; code = map plain_view b.code.items }
