use Rattle.wasm_base.proofs.Words.{take_all}
use Rattle.std.specs.List.{count_by}
use Rattle.std.proofs.lemmas.List.Sums.{count_by_more_no, count_by_more_yes}
use Rattle.wasm_base.specs.Cow.{items_of}
use Rattle.wasm_remap.specs.Imported.{imported_from, is_in}
use Rattle.wasm_remap.proofs.CountedImports.{counted_images}
use Rattle.wasm_remap.proofs.imports.imported_from.Goals.{then-is_in, else-is_in}
use Rattle.std.proofs.Common.{arith, ap, sym, ◌∙◌}
use Rattle.wasm_sections.specs.Imports.{compact_item, imports_item}
use Rattle.wasm_remap.proofs.imports.imported_from.Goals as goal

pub loop-item-preserved : goal.loop-item-preserved
loop-item-preserved g c = elim c.if-is_in.branch [
  | then-is_in w ↦
      let more = count_by_more_yes (λ i. is_in c.args.space i.ty) c.as_slice-item-items.result.now c.loop-item.item-index _ c.loop-item-test.true (sym c.is_in-in-loop-item.ensures ∙ w.if-is_in.true) in
      (omega (arith, w.count-is, c.loop-item.invariant.0, more), omega (arith, w.count-is, c.loop-item.invariant.1))
  | else-is_in w ↦
      let more = count_by_more_no (λ i. is_in c.args.space i.ty) c.as_slice-item-items.result.now c.loop-item.item-index _ c.loop-item-test.true (sym c.is_in-in-loop-item.ensures ∙ w.if-is_in.false) in
      (omega (arith, w.count-is, c.loop-item.invariant.0, more), omega (arith, w.count-is, c.loop-item.invariant.1))
]

pub returns-after-loop-item : goal.returns-after-loop-item
returns-after-loop-item g c =
    let test = λ (i : _). is_in c.args.space i.ty in
    c.loop-item.invariant.0 ∙ ap (count_by test) (take_all c.loop-item.item-index c.as_slice-item-items.result.now c.loop-item-test.false ∙ c.as_slice-item-items.ensures)
    ∙ counted_images (λ i. is_in c.args.space i.1) compact_item (items_of c.in-Compact1.items) ∙ sym (ap (λ i. imported_from c.args.space (imports_item i).imported) c.in-Compact1.is)
