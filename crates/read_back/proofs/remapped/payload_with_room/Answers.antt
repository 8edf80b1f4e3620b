use Rattle.wasm_reader.proofs.ContentIn.{content_written}
use Rattle.read_back.proofs.RemappedLaws.{next_small}
use Rattle.read_back.proofs.remapped.payload_with_room.Goals as goal

pub returns : goal.returns
returns g c =
    let r = c.in_ok-remap_section.ensures.ok in
    record { items = r.items; decoded = r.decoded; encoded = λ l. content_written (r.has next_small l) c.new-payload.ensures.items r.appended }
