use Rattle.wasm_base.proofs.Words.{standard, sym, ap, subst, ◌∙◌}
use Rattle.wasm_reader.specs.{content, section_kind_of}
use Rattle.wasm_reader.proofs.DecodeOutlines.{counted, custom_not_counted}
use Rattle.wasm_reader.proofs.outlines.count.Goals as goal

pub returns-then-id-eq0-clause-found : goal.returns-then-id-eq0-clause-found
returns-then-id-eq0-clause-found g c = custom_not_counted _ c.args.section.now.section.name c.args.section.now.section.payload (sym c.id.ensures ∙ c.if-id-eq0.true)

pub returns-in-Ok-clause-found : goal.returns-in-Ok-clause-found
returns-in-Ok-clause-found g c =
    let section = c.args.section.now.section in
    let f = c.in-Ok.ensures.found in
    let kind = c.kind-kind.ensures ∙ ap section_kind_of c.standing.ensures in
    let of_kind = subst (λ k. content k standard c.payload.result.now f.0) kind f.1 in
    counted _ _ f.0 _ (subst (λ p. content (section_kind_of section) standard p f.0) c.payload.ensures.value of_kind) f.2
