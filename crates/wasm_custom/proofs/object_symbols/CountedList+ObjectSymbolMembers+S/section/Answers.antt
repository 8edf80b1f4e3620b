use Rattle.wasm_custom.proofs.Common.{refl, arith, of_section}
use Rattle.wasm_custom.proofs.object_symbols.CountedList+ObjectSymbolMembers+S.section.Goals as goal

pub add_record-requires : goal.add_record-requires
add_record-requires g c encodable = record { member = of_section c.args.flags c.args.section; is = refl; encodable = (omega (arith, c.ranges.flags.fits), omega (arith, c.ranges.section.fits)) }
