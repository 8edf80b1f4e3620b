-- This file defines the items of the section of a dynamic library.
use Rattle.std.specs.Prelude.{ℕ, List, [], ◌∷◌, codes}
use Rattle.wasm_custom.specs.Words.{DylinkExport, DylinkImport, DylinkItem, ExportFlags, ImportFlags, Memory, Needed, RuntimePath}

-- The exported symbol `f` with these flags.
abbrev pub flagged_export : ℕ → DylinkExport
flagged_export flags = record { name = codes "f"; flags = flags }

-- The imported symbol `g` of `env`, which is weak.
abbrev pub weak_import : DylinkImport
weak_import = record { module_name = codes "env"; name = codes "g"; flags = 1 }

-- A library with 16 bytes of memory, aligned to 4 bytes. It needs the library of this name, and
-- names a folder to search for libraries. Its exported symbol has these flags.
abbrev pub library : List ℕ → ℕ → List DylinkItem
library name flags =
    Memory (record { memory_size = 16; memory_alignment = 2; table_size = 0; table_alignment = 0 }) ∷ Needed (name ∷ []) ∷ ExportFlags (flagged_export flags ∷ []) ∷ ImportFlags (weak_import ∷ []) ∷ RuntimePath (codes "/l" ∷ []) ∷ []
