use Rattle.examples.proofs.Common.{[], refl, arith, adds_item, new_functions, cut_none, cut_gains}
use Rattle.wasm_sections.specs.Functions.{ContainsFunctions}
use Rattle.examples.proofs.joined.functions.Goals as goal

pub returns : goal.returns
returns g c =
    let none = cut_none {P = λ entries. ContainsFunctions entries []} c.new-section.ensures (new_functions refl) in
    cut_gains none c.in_ok-function.ensures.ok (λ entries contains. adds_item {items = []} contains 0 refl (omega arith))
