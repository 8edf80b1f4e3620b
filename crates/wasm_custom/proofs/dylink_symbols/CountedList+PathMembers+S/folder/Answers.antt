use Rattle.wasm_base.proofs.Words.{refl}
use Rattle.wasm_custom.proofs.dylink_symbols.CountedList+PathMembers+S.folder.Goals as goal

pub add_record-requires : goal.add_record-requires
add_record-requires g c encodable = record { member = c.args.path.now; is = refl; encodable = (c.utf8.path, encodable) }
