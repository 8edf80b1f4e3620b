use Rattle.read_back.proofs.Common.{◌∙◌}
use Rattle.wasm_base.specs.Words.{padded}
use Rattle.wasm_reader.proofs.KindLaws.{kind_is}
use Rattle.read_back.proofs.sections.kind_of_items.Goals as goal

pub returns : goal.returns
returns g c =
    let s = c.in_ok-items.ensures.found.decodes.encodes in
    c.kind.ensures ∙ kind_is padded _ s.content _ s.encodes
