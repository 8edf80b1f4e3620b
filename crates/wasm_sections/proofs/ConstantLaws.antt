-- This file proves that a minimally encoded constant expression is a possibly padded one.
use Rattle.wasm_code.proofs.Words.{stores_included}
use Rattle.wasm_sections.specs.{Stored, IsStored, IsStoredPadded}

pub stored_included : (e : Stored) → IsStored e → IsStoredPadded e
stored_included e plain = stores_included e.bytes e.instructions plain
