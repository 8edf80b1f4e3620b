use Rattle.wasm_base.proofs.Words.{subst}
use Rattle.wasm_remap.specs.Sections.{RemapsSection}
use Rattle.wasm_remap.proofs.modules.RemappedChange.payload.Goals as goal

pub returns-clause-ok : goal.returns-clause-ok
returns-clause-ok g c m follows = subst (λ old. RemapsSection m c.args.section.now.section old c.remap_section.new.sink.items) c.new-payload.ensures.items (c.in_ok-remap_section.ensures.every m follows)
