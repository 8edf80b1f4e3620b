use Rattle.wasm_tool.proofs.Common.{on_ok, more_sections}
use Rattle.wasm_tool.proofs.recipe.Recipe.put_sections.Goals as goal

pub returns : goal.returns
returns g c =
    let first = more_sections _ _ _ _ _ (more_sections _ _ _ _ _ c.in_ok-put_types.ensures.ok c.in_ok-put_counted.ensures.ok) c.in_ok-put_counted-2.ensures.ok in
    let defined = more_sections _ _ _ _ _ (more_sections _ _ _ _ _ first c.in_ok-put_counted-3.ensures.ok) c.in_ok-put_counted-4.ensures.ok in
    let before_start = more_sections _ _ _ _ _ (more_sections _ _ _ _ _ defined c.in_ok-put_counted-5.ensures.ok) c.in_ok-put_counted-6.ensures.ok in
    let before_code = more_sections _ _ _ _ _ (more_sections _ _ _ _ _ before_start c.in_ok-put_start.ensures.ok) c.in_ok-put_counted-7.ensures.ok in
    let numbered = more_sections _ _ _ _ _ (more_sections _ _ _ _ _ before_code c.in_ok-put_code.ensures.ok) c.in_ok-put_counted-8.ensures.ok in
    record {
      ok = on_ok c.put_names.result _ _ c.put_names.ensures.ok (more_sections _ _ _ _ _ numbered);
      was_encodable = on_ok c.put_names.result _ _ c.put_names.ensures.was_encodable (λ names. record {
        types = c.in_ok-put_types.ensures.was_encodable;
        imports = c.in_ok-put_counted.ensures.was_encodable;
        functions = c.in_ok-put_counted-2.ensures.was_encodable;
        tables = c.in_ok-put_counted-3.ensures.was_encodable;
        memories = c.in_ok-put_counted-4.ensures.was_encodable;
        globals = c.in_ok-put_counted-5.ensures.was_encodable;
        exports = c.in_ok-put_counted-6.ensures.was_encodable;
        start = c.in_ok-put_start.ensures.was_encodable;
        elements = c.in_ok-put_counted-7.ensures.was_encodable;
        code = c.in_ok-put_code.ensures.was_encodable;
        segments = c.in_ok-put_counted-8.ensures.was_encodable;
        names = names;
      });
      too_long = λ encodable. c.put_names.ensures.too_long encodable.names;
    }
