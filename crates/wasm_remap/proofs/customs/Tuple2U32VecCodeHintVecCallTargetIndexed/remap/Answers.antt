use Rattle.std.proofs.Common.{rules, ◌≡◌, length, ap₂, map, ℕ, List}
use Rattle.wasm_custom.specs.CodeMetadata.{TargetItem, hint_as, targets_view}
use Rattle.wasm_remap.specs.Customs.{remapped_target_hint}
use Rattle.wasm_remap.proofs.FirstLaws.{on_ok, viewed_back}
use Rattle.wasm_remap.proofs.customs.Tuple2U32VecCodeHintVecCallTargetIndexed.remap.Goals as goal

-- The hints of a function.
abbrev both : ℕ → List (ℕ × List TargetItem) → ℕ × List (ℕ × List TargetItem)
both x ys = (x, ys)

pub returns-clause-ok : goal.returns-clause-ok
returns-clause-ok g c =
    let long : length c.remap_each.new.items ≡ c.args.self.now.1.len = search rules in
    on_ok c.remap_each.result
    (λ h m follows. ap₂ both (c.in_ok-self.ensures.ok m follows) (viewed_back (hint_as targets_view) (map (remapped_target_hint m)) c.remap_each.new.items _ long (h m follows) c.deref_mut.ensures.value))
    c.remap_each.ensures.ok
