use Rattle.read_back.proofs.Common.{refl, codes, arith, ints, neg_ℤ, pos, ascii, size_prefixed, new_relocations, adds_relocation, encodes_custom, relocations_payload}
use Rattle.wasm_custom.specs.Words.{relocations_name}
use Rattle.wasm_custom.specs.declared.relocations.PlainRelocation.TheVariants.{FunctionIndexLeb}
use Rattle.wasm_custom.specs.declared.relocations.Addend32Relocation.TheVariants.{MemoryAddrLeb}
use Rattle.wasm_custom.specs.declared.relocations.Addend64Relocation.TheVariants.{MemoryAddrI64}
use Rattle.wasm_custom.specs.declared.relocations.Relocation.TheVariants.{Plain, Addend32, Addend64}
use Rattle.read_back.proofs.relocations.write_relocations.Goals as goal

pub returns : goal.returns
returns g c =
    let none = new_relocations {n = codes "CODE"} c.in_ok-section.ensures.is (ascii {bytes = relocations_name (codes "CODE")} refl) (omega arith) in
    let s1 = adds_relocation none (Plain FunctionIndexLeb 4 c.args.index) c.in_ok-relocation.ensures.adds.ok c.relocation.ensures.same_section (omega arith, omega (arith, c.ranges.index.fits)) in
    let s2 = adds_relocation s1 (Addend32 MemoryAddrLeb 300 c.args.index (neg_ℤ (pos 4))) c.in_ok-relocation-2.ensures.adds.ok c.relocation-2.ensures.same_section (omega arith, omega (arith, c.ranges.index.fits), (omega (arith, ints), omega (arith, ints))) in
    let s3 = adds_relocation s2 (Addend64 MemoryAddrI64 310 1 (neg_ℤ (pos 8))) c.in_ok-relocation-3.ensures.adds.ok c.relocation-3.ensures.same_section (omega arith, omega arith, (omega (arith, ints), omega (arith, ints))) in
    encodes_custom (size_prefixed relocations_payload) _ c.encode.ensures.appends c.encode.ensures.read s3
