use Rattle.read_back.proofs.Common.{[], ◌∷◌, arith, ap, ◌∙◌, copied_source, iter_rest, size_prefixed, hints_payload, new_hints, adds_hints, adds_hints_of, copied_gives, encodes_entries, likely}
use Rattle.read_back.proofs.custom.write_hints.Goals as goal

pub returns : goal.returns
returns g c =
    let first = adds_hints (new_hints c.new-section.ensures) 0 c.in_ok-function_hints.ensures (omega arith) (record { offset = omega arith; value = omega arith }, tt) in
    let given = copied_gives (likely ∷ []) (λ it b. ap (λ s. iter_rest (copied_source s)) b ∙ ap iter_rest c.copied.ensures.source ∙ c.iter.ensures.rest) in
    let both = adds_hints_of first c.args.index c.in_ok-function_hints-2.ensures (likely ∷ []) given (omega (arith, c.ranges.index.fits)) (record { offset = omega arith; value = omega arith }, tt) in
    encodes_entries (size_prefixed hints_payload) _ _ c.encode.ensures.appends c.encode.ensures.read both
