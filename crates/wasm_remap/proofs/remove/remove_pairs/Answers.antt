use Rattle.std.proofs.Common.{rules, ◌≡◌, Some, sym, ap, ◌∙◌}
use Rattle.std.proofs.lemmas.Fn.{filter_same}
use Rattle.wasm_remap.specs.Removed.{staying, stays}
use Rattle.wasm_remap.specs.declared.spaces.IndexSpace.TheVariants.{Functions}
use Rattle.wasm_remap.proofs.remove.remove_pairs.Goals as goal

pub returns-in-Some-Functions : goal.returns-in-Some-Functions
returns-in-Some-Functions g c =
    let space : c.args.space ≡ Some Functions = search rules in
    filter_same _ (stays c.args.removed.now) _ (λ x b f k. search rules) _ _ c.retain.ensures.filtered ∙ sym (ap (λ s. staying c.args.removed.now s c.args.pairs.now.items) space)
