use Rattle.examples.proofs.Common.{[], ◌∷◌, ◌++◌, refl, ap, new_names, adds_names, list_cut, cut_none, cut_gains}
use Rattle.wasm_custom.specs.Words.{subsection_encoding}
use Rattle.wasm_custom.specs.Names.{ContainsNames}
use Rattle.examples.proofs.joined.joined_names.Goals as goal

pub returns : goal.returns
returns g c =
    let none = cut_none {P = λ entries. ContainsNames entries []} c.new-section.ensures (new_names refl) in
    let names = c.in_ok-function_names.ensures in
    cut_gains none c.in_ok-functions.ensures.ok (λ entries contains. adds_names {items = []} contains 1 names.are (ap (λ s. entries ++ subsection_encoding 1 s ∷ []) (list_cut _ names)) refl)
