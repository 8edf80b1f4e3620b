use Rattle.wasm_base.proofs.Words.{refl}
use Rattle.wasm_custom.proofs.dylink_symbols.CountedList+NeededMembers+S.library.Goals as goal

pub add_record-requires : goal.add_record-requires
add_record-requires g c encodable = record { member = c.args.name.now; is = refl; encodable = (c.utf8.name, encodable) }
