-- This file defines the relocations of a code section.
use Rattle.std.specs.Prelude.{ℕ, pos, neg_ℤ, [], ◌∷◌, codes}
use Rattle.wasm_custom.specs.Words.{Relocations, relocations_name}
use Rattle.wasm_custom.specs.declared.relocations.PlainRelocation.TheVariants.{FunctionIndexLeb}
use Rattle.wasm_custom.specs.declared.relocations.Addend32Relocation.TheVariants.{MemoryAddrLeb}
use Rattle.wasm_custom.specs.declared.relocations.Addend64Relocation.TheVariants.{MemoryAddrI64}
use Rattle.wasm_custom.specs.declared.relocations.Relocation.TheVariants.{Plain, Addend32, Addend64}

-- Relocations of the code section of index 3: a call of the symbol of this index, an address of it
-- with the addend -4, and an address of 64 bits with the addend -8.
abbrev pub call_and_addresses : ℕ → Relocations
call_and_addresses index =
    (relocations_name (codes "CODE"), (3, Plain FunctionIndexLeb 4 index ∷ Addend32 MemoryAddrLeb 300 index (neg_ℤ (pos 4)) ∷ Addend64 MemoryAddrI64 310 1 (neg_ℤ (pos 8)) ∷ []))
