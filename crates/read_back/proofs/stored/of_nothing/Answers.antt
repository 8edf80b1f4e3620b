-- Written by tools/answers.
use Rattle.read_back.proofs.Common.{rules, drained_array, new_function, lent, writes_instruction, End}
use Rattle.read_back.proofs.stored.of_nothing.Goals as goal

pub returns : goal.returns
returns g c =
    let b1 = lent (new_function c.in_ok-function.ensures tt) c.instructions-sink.ensures.same in
    let b2 = writes_instruction b1 End c.in_ok-end.ensures.writes.bytes tt in
    lent b2 (search rules)

pub new-requires : goal.new-requires
new-requires g c = record { can = λ it b. tt; reported = λ it xs b d. drained_array it xs d }
