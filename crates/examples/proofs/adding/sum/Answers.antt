-- Written by tools/answers.
use Rattle.examples.proofs.Common.{arith, rules, drained_array, new_function, lent, writes_instruction, LocalGet, Numeric, End, I32Add}
use Rattle.examples.proofs.adding.sum.Goals as goal

pub returns : goal.returns
returns g c =
    let b1 = lent (new_function c.in_ok-function.ensures tt) c.instructions-sink.ensures.same in
    let b2 = writes_instruction b1 (LocalGet 0) c.in_ok-local_get.ensures.writes.bytes (omega arith, tt) in
    let b3 = writes_instruction b2 (LocalGet 1) c.in_ok-local_get-2.ensures.writes.bytes (omega arith, tt) in
    let b4 = writes_instruction b3 (Numeric I32Add) c.in_ok-i32_add.ensures.writes.bytes tt in
    let b5 = writes_instruction b4 End c.in_ok-end.ensures.writes.bytes tt in
    lent b5 (search rules)

pub new-requires : goal.new-requires
new-requires g c = record { can = λ it b. tt; reported = λ it xs b d. drained_array it xs d }
