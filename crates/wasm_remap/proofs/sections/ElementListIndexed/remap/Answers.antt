use Rattle.std.proofs.Common.{rules, ◌≡◌, length, ap, ap₂, sym, ◌∙◌, map}
use Rattle.wasm_insn.specs.Views.{plain_view}
use Rattle.wasm_sections.specs.Elements.{expressions, list_view}
use Rattle.wasm_remap.specs.Instructions.{remapped_instruction}
use Rattle.wasm_remap.specs.Items.{remapped_elements}
use Rattle.wasm_remap.proofs.FirstLaws.{on_ok, viewed_back}
use Rattle.wasm_remap.proofs.sections.ElementListIndexed.remap.Goals as goal

pub returns-in_ok-remap-in-Expressions-clause-ok : goal.returns-in_ok-remap-in-Expressions-clause-ok
returns-in_ok-remap-in-Expressions-clause-ok g c =
    let long : length c.remap_each.new.items ≡ c.in-Expressions.expressions.len = search rules in
    on_ok c.remap_each.result
    (λ h m follows. ap₂ expressions (c.in_ok-remap-in-Expressions.ensures.ok m follows) (viewed_back (λ e. map plain_view e.0.items) (map (map (remapped_instruction m))) c.remap_each.new.items _ long (h m follows) c.deref_mut-in-Expressions.ensures.value) ∙ sym (ap (λ s. remapped_elements m (list_view s)) c.in-Expressions.is))
    c.remap_each.ensures.ok
