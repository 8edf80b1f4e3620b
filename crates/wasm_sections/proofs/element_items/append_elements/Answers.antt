use Rattle.wasm_sections.proofs.Common.{subst, sym, on_ok, AppendsMinimal, builders_alone, HasEncoding, are_expressions, elements_as, list_view}
use Rattle.wasm_sections.proofs.element_items.append_elements.Goals as goal

pub returns-in-Functions-clause-ok : goal.returns-in-Functions-clause-ok
returns-in-Functions-clause-ok g c =
    on_ok c.append_functions.result _ _ c.append_functions.ensures.ok λ a. subst (λ l. AppendsMinimal builders_alone (elements_as c.args.explicit (are_expressions (list_view l))) (list_view l) c.args.sink.now.items c.append_functions.new.sink.items) (sym c.in-Functions.is) a

pub returns-in-Functions-clause-too_long : goal.returns-in-Functions-clause-too_long
returns-in-Functions-clause-too_long g c = λ h. c.append_functions.ensures.too_long (subst (λ l. HasEncoding builders_alone (elements_as c.args.explicit (are_expressions (list_view l))) (list_view l)) c.in-Functions.is h)
