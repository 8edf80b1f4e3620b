use Rattle.read_back.proofs.Common.{[], ◌∷◌, arith, ap, ◌∙◌, copied_source, iter_rest, drained_vec, new_instances, adds_instance, adds_instance_of, vec_gives, copied_gives, first_instance}
use Rattle.read_back.proofs.Common.{other_instance}
use Rattle.read_back.proofs.dumps.instances.Goals as goal

pub returns : goal.returns
returns g c =
    let first = adds_instance (new_instances c.new-section.ensures) first_instance c.in_ok-instance.ensures (omega arith) (omega arith, tt) (omega arith, (omega arith, tt)) in
    let memories = vec_gives (1 ∷ []) (λ it b. (b.0 ∙ c.in_ok-memories.ensures.items, b.1 ∙ c.in_ok-memories.ensures.len)) in
    let globals = copied_gives (7 ∷ []) (λ it b. ap (λ s. iter_rest (copied_source s)) b ∙ ap iter_rest c.copied.ensures.source ∙ c.iter.ensures.rest) in
    adds_instance_of first (other_instance c.args.index (7 ∷ [])) c.in_ok-instance-2.ensures memories globals (omega (arith, c.ranges.index.fits)) (omega arith, tt) (omega arith, tt)

pub instance-requires-2-clause-memories : goal.instance-requires-2-clause-memories
instance-requires-2-clause-memories g c = record { can = λ it b. tt; reported = λ it xs b d. drained_vec it xs d }
