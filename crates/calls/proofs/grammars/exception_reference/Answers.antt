use Rattle.calls.proofs.Common.{[], ◌∷◌, sym, standard, standard_minimal, Exn}
use Rattle.calls.proofs.grammars.exception_reference.Goals as goal

pub returns : goal.returns
returns g c =
    let read = c.in_ok-ty.ensures.found in
    let law = c.types.ensures.reference in
    (law.unique standard read.front (0x69 ∷ []) _ [] _ _ read.encodes (law.encodings.included standard_minimal standard tt (0x69 ∷ []) _ (c.standard_types.ensures.reference Exn)) (sym read.split)).0
