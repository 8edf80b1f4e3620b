use Rattle.wasm_reader.proofs.Common.{◌≡◌, ℕ, List, map, sym, ap, subst, ◌∙◌, on_ok, AppendsMinimal, instance_view, hints_view, dylink_view, feature_view, Contents, Hints, CoreInstances}
use Rattle.wasm_reader.proofs.Common.{TargetFeatures, Dylink, content, contents_of, grammars_of, kind_in}
use Rattle.wasm_reader.specs.Kinds.{CallTargets, CompilationOrders, InstructionFrequencies}
use Rattle.wasm_custom.proofs.Words.{call_targets_view, frequencies_view, orders_view}
use Rattle.wasm_base.proofs.Words.{HasEncoding}
use Rattle.wasm_reader.proofs.KindValues.{AppendsValue, value_appended, value_fits}
use Rattle.wasm_reader.proofs.kinds.encode_items.Goals as goal

-- The items are those of a case of a match.
of_items : (x y : Contents) (old new : List ℕ) → x ≡ y → AppendsValue y old new → AppendsMinimal (grammars_of (kind_in x)) (content (kind_in x)) x old new
of_items x y old new e a = subst (λ z. AppendsMinimal (grammars_of (kind_in z)) (content (kind_in z)) z old new) (sym e) (value_appended y old new a)

pub returns-in-Hints-clause-ok : goal.returns-in-Hints-clause-ok
returns-in-Hints-clause-ok g c = on_ok c.append_hints.result _ _ c.append_hints.ensures.ok λ a. of_items _ _ _ _ (ap contents_of c.in-Hints.is ∙ ap (λ v. Hints (map hints_view v)) (sym c.deref-in-Hints.ensures.value)) a

pub returns-in-CoreInstances-clause-ok : goal.returns-in-CoreInstances-clause-ok
returns-in-CoreInstances-clause-ok g c = on_ok c.append_instances.result _ _ c.append_instances.ensures.ok λ a. of_items _ _ _ _ (ap contents_of c.in-CoreInstances.is ∙ ap (λ v. CoreInstances (map instance_view v)) (sym c.deref-in-CoreInstances.ensures.value)) a

pub returns-in-CoreInstances-clause-too_long : goal.returns-in-CoreInstances-clause-too_long
returns-in-CoreInstances-clause-too_long g c = λ h.
    let same = ap contents_of c.in-CoreInstances.is ∙ ap (λ v. CoreInstances (map instance_view v)) (sym c.deref-in-CoreInstances.ensures.value) in
    value_fits (CoreInstances (map instance_view c.deref-in-CoreInstances.result.now)) c.append_instances.result c.append_instances.ensures.too_long
    (subst (λ z. HasEncoding (grammars_of (kind_in z)) (content (kind_in z)) z) same h)

pub returns-in-TargetFeatures-clause-ok : goal.returns-in-TargetFeatures-clause-ok
returns-in-TargetFeatures-clause-ok g c = on_ok c.append_features.result _ _ c.append_features.ensures.ok λ a. of_items _ _ _ _ (ap contents_of c.in-TargetFeatures.is ∙ ap (λ v. TargetFeatures (map feature_view v)) (sym c.deref-in-TargetFeatures.ensures.value)) a

pub returns-in-Dylink-clause-ok : goal.returns-in-Dylink-clause-ok
returns-in-Dylink-clause-ok g c = on_ok c.append_dylink.result _ _ c.append_dylink.ensures.ok λ a. of_items _ _ _ _ (ap contents_of c.in-Dylink.is ∙ ap (λ v. Dylink (map dylink_view v)) (sym c.deref-in-Dylink.ensures.value)) a

pub returns-in-InstructionFrequencies-clause-ok : goal.returns-in-InstructionFrequencies-clause-ok
returns-in-InstructionFrequencies-clause-ok g c = on_ok c.append_frequencies.result _ _ c.append_frequencies.ensures.ok λ a. of_items _ _ _ _ (ap contents_of c.in-InstructionFrequencies.is ∙ ap (λ v. InstructionFrequencies (map frequencies_view v)) (sym c.deref-in-InstructionFrequencies.ensures.value)) a

pub returns-in-CompilationOrders-clause-ok : goal.returns-in-CompilationOrders-clause-ok
returns-in-CompilationOrders-clause-ok g c = on_ok c.append_orders.result _ _ c.append_orders.ensures.ok λ a. of_items _ _ _ _ (ap contents_of c.in-CompilationOrders.is ∙ ap (λ v. CompilationOrders (map orders_view v)) (sym c.deref-in-CompilationOrders.ensures.value)) a

pub returns-in-CallTargets-clause-ok : goal.returns-in-CallTargets-clause-ok
returns-in-CallTargets-clause-ok g c = on_ok c.append_call_targets.result _ _ c.append_call_targets.ensures.ok λ a. of_items _ _ _ _ (ap contents_of c.in-CallTargets.is ∙ ap (λ v. CallTargets (map call_targets_view v)) (sym c.deref-in-CallTargets.ensures.value)) a
