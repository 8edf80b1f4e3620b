use Rattle.wasm_sections.proofs.DataLaws.{same_encodings, other_memory}
use Rattle.wasm_sections.proofs.data.CountedSection+DataItems+S.active.Goals as goal

pub returns-else-memory_index-eq0 : goal.returns-else-memory_index-eq0
returns-else-memory_index-eq0 g c =
    same_encodings c.add_bytes-else-memory_index-eq0.result (λ bytes. other_memory c.args.memory_index c.args.offset.now bytes c.if-memory_index-eq0.false) c.add_bytes-else-memory_index-eq0.ensures
