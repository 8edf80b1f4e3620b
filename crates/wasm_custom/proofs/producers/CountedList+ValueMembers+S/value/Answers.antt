use Rattle.wasm_base.proofs.Words.{refl}
use Rattle.wasm_custom.proofs.producers.CountedList+ValueMembers+S.value.Goals as goal

pub add_record-requires : goal.add_record-requires
add_record-requires g c encodable = record { member = (c.args.name.now, c.args.version.now); is = refl; encodable = ((c.utf8.name, encodable.0), (c.utf8.version, encodable.1)) }
