use Rattle.examples.proofs.Common.{[], ◌∷◌, ◌∙◌, refl, arith, rules, drained_array, IsVal, I32, new_types, counted, listed_arrays, adds_shape, func, cut_none, cut_same, cut_gains}
use Rattle.wasm_types.specs.RecTypes.{ContainsTypes}
use Rattle.examples.proofs.joined.types.Goals as goal

pub returns : goal.returns
returns g c =
    let none = cut_none {P = λ entries. ContainsTypes entries []} (c.ty.ensures.same ∙ c.new-section.ensures) (new_types refl) in
    cut_same (cut_gains none (listed_arrays c.in_ok-function.ensures (I32 ∷ I32 ∷ []) (I32 ∷ []) (λ it b. b.0) (λ it b. b.0))
    (λ entries contains. adds_shape {items = []} contains (func (I32 ∷ I32 ∷ []) (I32 ∷ [])) refl (counted IsVal (I32 ∷ I32 ∷ []) (tt, (tt, tt)) (omega arith), counted IsVal (I32 ∷ []) (tt, tt) (omega arith)))) (search rules)

pub function-requires-clause-params : goal.function-requires-clause-params
function-requires-clause-params g c = record { can = λ it b. tt; reported = λ it xs b d. drained_array it xs d }

pub function-requires-clause-results : goal.function-requires-clause-results
function-requires-clause-results g c = record { can = λ it b. tt; reported = λ it xs b d. drained_array it xs d }
