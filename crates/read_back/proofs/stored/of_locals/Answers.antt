use Rattle.read_back.proofs.Common.{[], ◌∷◌, arith, refl, rules, I32, new_function_of_types, lent, writes_instruction, LocalGet, End}
use Rattle.read_back.proofs.stored.of_locals.Goals as goal

pub returns : goal.returns
returns g c =
    let b1 = lent (new_function_of_types c.in_ok-function.ensures ((2, I32) ∷ []) (omega arith) refl ((omega arith, tt), tt)) c.instructions-sink.ensures.same in
    let b2 = writes_instruction b1 (LocalGet c.args.index) c.in_ok-local_get.ensures.writes.bytes (omega (arith, c.ranges.index.fits), tt) in
    let b3 = writes_instruction b2 End c.in_ok-end.ensures.writes.bytes tt in
    lent b3 (search rules)
