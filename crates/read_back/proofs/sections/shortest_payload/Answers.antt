use Rattle.wasm_base.specs.Words.{admitted}
use Rattle.wasm_reader.specs.Words.{section_kind_of}
use Rattle.wasm_reader.proofs.ContentIn.{content_written, decoded_content}
use Rattle.read_back.proofs.sections.shortest_payload.Goals as goal

pub returns-in-Ok : goal.returns-in-Ok
returns-in-Ok g c =
    let s = c.args.section.now.section in
    let decoded = c.in_ok-items.ensures.found in
    record { items = _; decoded = decoded; encoded = λ short. content_written (decoded_content admitted admitted (section_kind_of s) s.payload _ tt decoded short) c.new-payload.ensures.items c.in-Ok.ensures.ok }
