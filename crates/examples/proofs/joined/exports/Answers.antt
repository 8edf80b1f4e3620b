use Rattle.examples.proofs.Common.{[], refl, arith, ascii, new_exports, adds_export, add_export, cut_none, cut_gains}
use Rattle.wasm_sections.specs.Exports.{ContainsExports}
use Rattle.examples.proofs.joined.exports.Goals as goal

pub returns : goal.returns
returns g c =
    let none = cut_none {P = λ entries. ContainsExports entries []} c.new-section.ensures (new_exports refl) in
    cut_gains none c.in_ok-export.ensures.ok (λ entries contains. adds_export {items = []} contains add_export refl c.in_ok-export.ensures.was_encodable (ascii refl) (omega arith))
