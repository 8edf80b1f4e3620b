-- Written by tools/answers.
use Rattle.examples.proofs.Common.{[], ◌∷◌, arith, rules, drained_array, IsVal, I32, new_types, same_types, counted, listed_arrays, adds_shape, func}
use Rattle.examples.proofs.compiled.types.Goals as goal

pub returns : goal.returns
returns g c = same_types (adds_shape {old = c.ty-2.result.section.now} (same_types (same_types (adds_shape {old = c.ty.result.section.now} (same_types (new_types c.new-section.ensures) c.ty.ensures.same) (func (I32 ∷ I32 ∷ []) (I32 ∷ [])) (listed_arrays c.in_ok-function.ensures (I32 ∷ I32 ∷ []) (I32 ∷ []) (λ it b. b.0) (λ it b. b.0)) (counted IsVal (I32 ∷ I32 ∷ []) (tt, (tt, tt)) (omega arith), counted IsVal (I32 ∷ []) (tt, tt) (omega arith))) (search rules)) c.ty-2.ensures.same) (func (I32 ∷ []) (I32 ∷ [])) (listed_arrays c.in_ok-function-2.ensures (I32 ∷ []) (I32 ∷ []) (λ it b. b.0) (λ it b. b.0)) (counted IsVal (I32 ∷ []) (tt, tt) (omega arith), counted IsVal (I32 ∷ []) (tt, tt) (omega arith))) (search rules)

pub function-requires-clause-params : goal.function-requires-clause-params
function-requires-clause-params g c = record { can = λ it b. tt; reported = λ it xs b d. drained_array it xs d }

pub function-requires-clause-results : goal.function-requires-clause-results
function-requires-clause-results g c = record { can = λ it b. tt; reported = λ it xs b d. drained_array it xs d }

pub function-requires-2-clause-params : goal.function-requires-2-clause-params
function-requires-2-clause-params g c = record { can = λ it b. tt; reported = λ it xs b d. drained_array it xs d }

pub function-requires-2-clause-results : goal.function-requires-2-clause-results
function-requires-2-clause-results g c = record { can = λ it b. tt; reported = λ it xs b d. drained_array it xs d }
