use Rattle.std.proofs.Common.{rules, ◌≡◌, length, ap, sym, ◌∙◌, map}
use Rattle.wasm_code.specs.Words.{body_view}
use Rattle.wasm_custom.specs.Names.{name_item_view}
use Rattle.wasm_reader.specs.Kinds.{contents_of, Bodies, Names}
use Rattle.wasm_remap.specs.Removed.{trimmed, trimmed_name}
use Rattle.wasm_remap.proofs.FirstLaws.{viewed_back}
use Rattle.wasm_remap.proofs.RemovedLaws.{unflagged_view}
use Rattle.wasm_remap.proofs.remove.trim.Goals as goal

pub returns-in-Bodies : goal.returns-in-Bodies
returns-in-Bodies g c = ap Bodies (ap (map body_view) c.remove_flagged-in-Bodies.ensures ∙ unflagged_view body_view c.args.defined.now c.in-Bodies.bodies.items) ∙ sym (ap (λ s. trimmed c.args.removed.now c.args.defined.now (contents_of s)) c.in-Bodies.is)

pub returns-in-Names : goal.returns-in-Names
returns-in-Names g c =
    let long : length c.remove_all_names.new.items ≡ c.in-Names.names.len = search rules in
    ap Names (viewed_back name_item_view (map (trimmed_name c.args.removed.now)) c.remove_all_names.new.items _ long c.remove_all_names.ensures c.deref_mut.ensures.value) ∙ sym (ap (λ s. trimmed c.args.removed.now c.args.defined.now (contents_of s)) c.in-Names.is)
