use Rattle.std.proofs.Common.{rules, ◌≡◌, length, ap₂, ◌∙◌, map}
use Rattle.wasm_types.specs.RecTypes.{func}
use Rattle.wasm_remap.specs.Instructions.{remapped_val}
use Rattle.wasm_remap.proofs.FirstLaws.{written_back}
use Rattle.wasm_remap.proofs.recursive.FuncTypeIndexed.remap.Goals as goal

pub returns-clause-ok : goal.returns-clause-ok
returns-clause-ok g c m follows =
    let params : length c.remap_each.new.items ≡ c.in_ok-params.params.len = search rules in
    let results : length c.remap_each-2.new.items ≡ c.in_ok-results.results.len = search rules in
    let first = written_back (map (remapped_val m)) c.remap_each.new.items _ params (c.in_ok-remap_each.ensures.ok m follows) (c.deref_mut.ensures.value ∙ c.in_ok-params.ensures.items ∙ c.params.ensures) in
    let second = written_back (map (remapped_val m)) c.remap_each-2.new.items _ results (c.in_ok-remap_each-2.ensures.ok m follows) (c.deref_mut-2.ensures.value ∙ c.in_ok-results.ensures.items ∙ c.results.ensures) in
    ap₂ func (c.of.ensures.params ∙ first) (c.of.ensures.results ∙ second)
