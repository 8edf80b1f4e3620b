use Rattle.wasm_base.proofs.Words.{refl}
use Rattle.wasm_reader.specs.Kinds.{contents_of}
use Rattle.wasm_remap.proofs.FirstLaws.{on_ok}
use Rattle.wasm_remap.proofs.MappedSections.{section_remapped}
use Rattle.wasm_remap.proofs.items.remap_decoded.Goals as goal

pub returns-clause-ok : goal.returns-clause-ok
returns-clause-ok g c = on_ok c.append_mapped.result (λ h m follows. section_remapped m c.args.section.now.section (contents_of c.in_ok-items.items) _ _ _ c.in_ok-items.ensures.found refl (h m follows)) c.append_mapped.ensures.ok
