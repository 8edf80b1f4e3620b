use Rattle.wasm_base.proofs.Words.{refl, subst}
use Rattle.wasm_base.specs.Numbers.{admitted}
use Rattle.wasm_reader.specs.Kinds.{contents_of}
use Rattle.wasm_reader.specs.Sections.{AppendsContentIn}
use Rattle.wasm_remap.specs.Sections.{remapped}
use Rattle.wasm_remap.proofs.RemovedLaws.{section_trimmed}
use Rattle.wasm_remap.proofs.remove.RemovalChange.payload.Goals as goal

pub returns-clause-ok : goal.returns-clause-ok
returns-clause-ok g c m follows =
    let mapped = remapped m (contents_of c.trim.new.items) in
    let payload = c.append_mapped.new.sink.items in
    let appended = subst (λ old. AppendsContentIn admitted mapped old payload) c.new-payload.ensures.items (c.in_ok-append_mapped.ensures.ok m follows) in
    section_trimmed c.args.self.now.removed.now c.args.self.now.defined.now m c.args.section.now.section (contents_of c.in_ok-items.items) (contents_of c.trim.new.items) mapped payload c.in_ok-items.ensures.found c.trim.ensures refl appended
