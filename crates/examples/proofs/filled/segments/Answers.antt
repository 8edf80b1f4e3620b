-- Written by tools/answers.
use Rattle.examples.proofs.Common.{arith, pos, ap, ◌∙◌, [], ◌∷◌, ints, copied_source, iter_rest, Global, drained_array, one_constant, normal_row, I32Const, new_segments, copied_added, adds_active}
use Rattle.examples.proofs.Common.{adds_passive, array_added}
use Rattle.examples.proofs.filled.segments.Goals as goal

pub returns : goal.returns
returns g c =
    let e1 = one_constant c.in_ok-offset.ensures.stores ((omega (arith, ints), omega (arith, ints)), tt) in
    let s1 = adds_active (new_segments c.new-section.ensures) 0 (normal_row {A = Global} (I32Const (pos 8)) ∷ []) _ c.args.bytes.now (copied_added c.in_ok-active.ensures c.args.bytes.now (λ it b. ap (λ s. iter_rest (copied_source s)) b ∙ ap iter_rest c.copied.ensures.source ∙ c.iter.ensures.rest)) (omega arith) e1 in
    adds_passive s1 (1 ∷ 2 ∷ 3 ∷ []) (array_added c.in_ok-passive.ensures (1 ∷ 2 ∷ 3 ∷ []) (λ it b. b.0))

pub passive-requires : goal.passive-requires
passive-requires g c = record { can = λ it b. tt; reported = λ it xs b d. drained_array it xs d }
