use Rattle.wasm_custom.proofs.Common.{refl, arith, of_data}
use Rattle.wasm_custom.proofs.symbols.CountedList+SymbolMembers+S.data.Goals as goal

pub add_record-requires : goal.add_record-requires
add_record-requires g c encodable = record { member = of_data c.args.flags c.args.name.now c.args.definition; is = refl; encodable = (omega (arith, c.ranges.flags.fits), (c.utf8.name, encodable.1), c.given_definition.ensures) }
