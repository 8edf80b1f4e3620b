use Rattle.wasm_base.proofs.Words.{refl, arith}
use Rattle.wasm_custom.proofs.comdats.CountedList+ComdatSymbolMembers+S.symbol.Goals as goal

pub add_record-requires : goal.add_record-requires
add_record-requires g c encodable = record { member = record { kind = c.args.kind; index = c.args.index }; is = refl; encodable = omega (arith, c.ranges.index.fits) }
