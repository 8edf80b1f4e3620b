use Rattle.std.proofs.Common.{rules, ◌≡◌, length, ap, sym, ◌∙◌, map}
use Rattle.wasm_custom.specs.CodeMetadata.{call_targets_view, frequencies_view, orders_view}
use Rattle.wasm_custom.specs.Names.{name_item_view}
use Rattle.wasm_custom.specs.Words.{hints_view, instance_view, link_view}
use Rattle.wasm_reader.specs.Kinds.{contents_of, CallTargets, CompilationOrders, CoreInstances, Hints, Imports, InstructionFrequencies, Linking, Names, Relocations, Segments, Tags, Types}
use Rattle.wasm_remap.specs.Customs.{remapped_hints, remapped_hints_in, remapped_instance, remapped_link, remapped_name, remapped_relocation, remapped_targets}
use Rattle.wasm_remap.specs.Items.{remapped_data, remapped_import, remapped_tag}
use Rattle.wasm_remap.specs.Sections.{remapped}
use Rattle.wasm_remap.specs.Types.{remapped_type}
use Rattle.wasm_sections.specs.Words.{imports_item, segment_view}
use Rattle.wasm_types.specs.Items.{entry_view}
use Rattle.wasm_remap.proofs.FirstLaws.{on_ok, viewed_back, written_back}
use Rattle.wasm_remap.proofs.items.remap_content.Goals as goal

pub returns-in-Segments-clause-ok : goal.returns-in-Segments-clause-ok
returns-in-Segments-clause-ok g c =
    let long : length c.remap_each-in-Segments.new.items ≡ c.in-Segments.items.len = search rules in
    on_ok c.remap_each-in-Segments.result (λ h m follows. ap Segments (viewed_back segment_view (map (remapped_data m)) c.remap_each-in-Segments.new.items _ long (h m follows) c.deref_mut-in-Segments.ensures.value) ∙ sym (ap (λ s. remapped m (contents_of s)) c.in-Segments.is)) c.remap_each-in-Segments.ensures.ok

pub returns-in-Imports-clause-ok : goal.returns-in-Imports-clause-ok
returns-in-Imports-clause-ok g c =
    let long : length c.remap_each-in-Imports.new.items ≡ c.in-Imports.items.len = search rules in
    on_ok c.remap_each-in-Imports.result (λ h m follows. ap Imports (viewed_back imports_item (map (remapped_import m)) c.remap_each-in-Imports.new.items _ long (h m follows) c.deref_mut-in-Imports.ensures.value) ∙ sym (ap (λ s. remapped m (contents_of s)) c.in-Imports.is)) c.remap_each-in-Imports.ensures.ok

pub returns-in-Tags-clause-ok : goal.returns-in-Tags-clause-ok
returns-in-Tags-clause-ok g c =
    let long : length c.remap_each-in-Tags.new.items ≡ c.in-Tags.items.len = search rules in
    on_ok c.remap_each-in-Tags.result (λ h m follows. ap Tags (written_back (map (remapped_tag m)) c.remap_each-in-Tags.new.items _ long (h m follows) c.deref_mut-in-Tags.ensures.value) ∙ sym (ap (λ s. remapped m (contents_of s)) c.in-Tags.is)) c.remap_each-in-Tags.ensures.ok

pub returns-in-Names-clause-ok : goal.returns-in-Names-clause-ok
returns-in-Names-clause-ok g c =
    let long : length c.remap_each-in-Names.new.items ≡ c.in-Names.items.len = search rules in
    on_ok c.remap_each-in-Names.result (λ h m follows. ap Names (viewed_back name_item_view (map (remapped_name m)) c.remap_each-in-Names.new.items _ long (h m follows) c.deref_mut-in-Names.ensures.value) ∙ sym (ap (λ s. remapped m (contents_of s)) c.in-Names.is)) c.remap_each-in-Names.ensures.ok

pub returns-in-Linking-clause-ok : goal.returns-in-Linking-clause-ok
returns-in-Linking-clause-ok g c =
    let long : length c.remap_each-in-Linking.new.items ≡ c.in-Linking.items.len = search rules in
    on_ok c.remap_each-in-Linking.result (λ h m follows. ap Linking (viewed_back link_view (map (remapped_link m)) c.remap_each-in-Linking.new.items _ long (h m follows) c.deref_mut-in-Linking.ensures.value) ∙ sym (ap (λ s. remapped m (contents_of s)) c.in-Linking.is)) c.remap_each-in-Linking.ensures.ok

pub returns-in-Hints-clause-ok : goal.returns-in-Hints-clause-ok
returns-in-Hints-clause-ok g c =
    let long : length c.remap_each-in-Hints.new.items ≡ c.in-Hints.items.len = search rules in
    on_ok c.remap_each-in-Hints.result (λ h m follows. ap Hints (viewed_back hints_view (map (remapped_hints m)) c.remap_each-in-Hints.new.items _ long (h m follows) c.deref_mut-in-Hints.ensures.value) ∙ sym (ap (λ s. remapped m (contents_of s)) c.in-Hints.is)) c.remap_each-in-Hints.ensures.ok

pub returns-in-CoreInstances-clause-ok : goal.returns-in-CoreInstances-clause-ok
returns-in-CoreInstances-clause-ok g c =
    let long : length c.remap_each-in-CoreInstances.new.items ≡ c.in-CoreInstances.items.len = search rules in
    on_ok c.remap_each-in-CoreInstances.result (λ h m follows. ap CoreInstances (viewed_back instance_view (map (remapped_instance m)) c.remap_each-in-CoreInstances.new.items _ long (h m follows) c.deref_mut-in-CoreInstances.ensures.value) ∙ sym (ap (λ s. remapped m (contents_of s)) c.in-CoreInstances.is)) c.remap_each-in-CoreInstances.ensures.ok

pub returns-in-Types-clause-ok : goal.returns-in-Types-clause-ok
returns-in-Types-clause-ok g c =
    let long : length c.remap_each-in-Types.new.items ≡ c.in-Types.items.len = search rules in
    on_ok c.remap_each-in-Types.result (λ h m follows. ap Types (viewed_back entry_view (map (remapped_type m)) c.remap_each-in-Types.new.items _ long (h m follows) c.deref_mut-in-Types.ensures.value) ∙ sym (ap (λ s. remapped m (contents_of s)) c.in-Types.is)) c.remap_each-in-Types.ensures.ok

pub returns-in-Relocations-clause-ok : goal.returns-in-Relocations-clause-ok
returns-in-Relocations-clause-ok g c =
    let long : length c.remap_each-in-Relocations.new.items ≡ c.in-Relocations.relocations.len = search rules in
    on_ok c.remap_each-in-Relocations.result (λ h m follows. ap (λ xs. Relocations (c.in-Relocations.name.now, (c.in-Relocations.section, xs))) (written_back (map (remapped_relocation m)) c.remap_each-in-Relocations.new.items _ long (h m follows) c.deref_mut-in-Relocations.ensures.value) ∙ sym (ap (λ s. remapped m (contents_of s)) c.in-Relocations.is)) c.remap_each-in-Relocations.ensures.ok

pub returns-in-InstructionFrequencies-clause-ok : goal.returns-in-InstructionFrequencies-clause-ok
returns-in-InstructionFrequencies-clause-ok g c =
    let long : length c.remap_each-in-InstructionFrequencies.new.items ≡ c.in-InstructionFrequencies.items.len = search rules in
    on_ok c.remap_each-in-InstructionFrequencies.result (λ h m follows. ap InstructionFrequencies (viewed_back frequencies_view (map (remapped_hints_in m)) c.remap_each-in-InstructionFrequencies.new.items _ long (h m follows) c.deref_mut-in-InstructionFrequencies.ensures.value) ∙ sym (ap (λ s. remapped m (contents_of s)) c.in-InstructionFrequencies.is)) c.remap_each-in-InstructionFrequencies.ensures.ok

pub returns-in-CompilationOrders-clause-ok : goal.returns-in-CompilationOrders-clause-ok
returns-in-CompilationOrders-clause-ok g c =
    let long : length c.remap_each-in-CompilationOrders.new.items ≡ c.in-CompilationOrders.items.len = search rules in
    on_ok c.remap_each-in-CompilationOrders.result (λ h m follows. ap CompilationOrders (viewed_back orders_view (map (remapped_hints_in m)) c.remap_each-in-CompilationOrders.new.items _ long (h m follows) c.deref_mut-in-CompilationOrders.ensures.value) ∙ sym (ap (λ s. remapped m (contents_of s)) c.in-CompilationOrders.is)) c.remap_each-in-CompilationOrders.ensures.ok

pub returns-in-CallTargets-clause-ok : goal.returns-in-CallTargets-clause-ok
returns-in-CallTargets-clause-ok g c =
    let long : length c.remap_each-in-CallTargets.new.items ≡ c.in-CallTargets.items.len = search rules in
    on_ok c.remap_each-in-CallTargets.result (λ h m follows. ap CallTargets (viewed_back call_targets_view (map (remapped_targets m)) c.remap_each-in-CallTargets.new.items _ long (h m follows) c.deref_mut-in-CallTargets.ensures.value) ∙ sym (ap (λ s. remapped m (contents_of s)) c.in-CallTargets.is)) c.remap_each-in-CallTargets.ensures.ok
