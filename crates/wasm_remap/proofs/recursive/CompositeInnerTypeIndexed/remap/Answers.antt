use Rattle.std.proofs.Common.{rules, ◌≡◌, length, ap, sym, ◌∙◌, map}
use Rattle.wasm_types.specs.Given.{shape_in}
use Rattle.wasm_types.specs.RecTypes.{structure}
use Rattle.wasm_remap.specs.Types.{remapped_field, remapped_shape}
use Rattle.wasm_remap.proofs.FirstLaws.{on_ok, written_back}
use Rattle.wasm_remap.proofs.recursive.CompositeInnerTypeIndexed.remap.Goals as goal

pub returns-in-Struct-clause-ok : goal.returns-in-Struct-clause-ok
returns-in-Struct-clause-ok g c =
    let long : length c.remap_each.new.items ≡ c.in-Struct.ty.fields.len = search rules in
    on_ok c.remap_each.result (λ h m follows. ap structure (written_back (map (remapped_field m)) c.remap_each.new.items _ long (h m follows) c.deref_mut.ensures.value) ∙ sym (ap (λ s. remapped_shape m (shape_in s)) c.in-Struct.is)) c.remap_each.ensures.ok
