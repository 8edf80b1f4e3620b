-- Written by tools/answers.
use Rattle.examples.proofs.Common.{arith, rules, drained_array, new_function, lent, writes_instruction, GlobalGet, Call, GlobalSet, End}
use Rattle.examples.proofs.whole.start.Goals as goal

pub returns : goal.returns
returns g c =
    let b1 = lent (new_function c.in_ok-function.ensures tt) c.instructions-sink.ensures.same in
    let b2 = writes_instruction b1 (GlobalGet 0) c.in_ok-global_get.ensures.writes.bytes (omega arith, tt) in
    let b3 = writes_instruction b2 (Call 1) c.in_ok-call.ensures.writes.bytes (omega arith, tt) in
    let b4 = writes_instruction b3 (GlobalSet 0) c.in_ok-global_set.ensures.writes.bytes (omega arith, tt) in
    let b5 = writes_instruction b4 (Call 0) c.in_ok-call-2.ensures.writes.bytes (omega arith, tt) in
    let b6 = writes_instruction b5 End c.in_ok-end.ensures.writes.bytes tt in
    lent b6 (search rules)

pub new-requires : goal.new-requires
new-requires g c = record { can = λ it b. tt; reported = λ it xs b d. drained_array it xs d }
