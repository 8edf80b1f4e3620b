use Rattle.wasm_sections.proofs.Common.{◌++◌, ap, subst, sym, ◌∙◌, unsigned_encoding, on_ok, AppendsMinimal, builders_alone, HasEncoding, are_expressions, elements_as, flag_code, has_kind, element_view}
use Rattle.wasm_sections.proofs.Common.{element_appended, elements_encoded}
use Rattle.wasm_sections.proofs.element_items.ElementItemShorten.write_minimal.Goals as goal

pub returns-clause-ok : goal.returns-clause-ok
returns-clause-ok g c =
    let x = element_view c.args.self.now in
    let old = c.args.sink.now.items in
    let middle = c.append_segment_mode.new.sink.items in
    let new = c.append_elements.new.sink.items in
    let flag = ap (λ f. old ++ unsigned_encoding (flag_code f)) c.flag-flag.ensures in
    on_ok c.append_elements.result _ _ c.append_elements.ensures.ok λ a.
    element_appended x old c.encode.new.sink.items middle new (c.in_ok-encode.ensures.appends.ok ∙ ap (λ n. old ++ unsigned_encoding n) c.code.ensures ∙ flag) c.in_ok-append_segment_mode.ensures.ok
    (subst (λ explicit. AppendsMinimal builders_alone (elements_as explicit (are_expressions x.elements)) x.elements middle new) (c.has_kind.ensures ∙ ap has_kind c.flag-flag.ensures) a)

pub returns-clause-too_long : goal.returns-clause-too_long
returns-clause-too_long g c = λ h.
    let x = element_view c.args.self.now in
    c.append_elements.ensures.too_long
    (subst (λ explicit. HasEncoding builders_alone (elements_as explicit (are_expressions x.elements)) x.elements) (sym (c.has_kind.ensures ∙ ap has_kind c.flag-flag.ensures)) (elements_encoded x h))
