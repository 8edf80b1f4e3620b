use Rattle.wasm_base.proofs.Words.{refl, arith}
use Rattle.wasm_custom.proofs.names.CountedList+NameMembers+S.append.Goals as goal

pub add_record-requires : goal.add_record-requires
add_record-requires g c encodable = record { member = (c.args.index, c.args.name.now); is = refl; encodable = (omega (arith, c.ranges.index.fits), (c.utf8.name, encodable)) }
