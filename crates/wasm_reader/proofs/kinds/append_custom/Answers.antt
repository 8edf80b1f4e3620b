use Rattle.wasm_reader.proofs.KindLaws.{custom_appended}
use Rattle.wasm_reader.proofs.kinds.append_custom.Goals as goal

pub returns-in-Ok-clause-ok : goal.returns-in-Ok-clause-ok
returns-in-Ok-clause-ok g c =
    custom_appended c.args.name.now c.args.bytes.now c.args.sink.now.items c.append_minimal.new.sink.items c.extend_from_slice.new.self.items c.in_ok-append_minimal.ensures.ok c.in-Ok.ensures.items
