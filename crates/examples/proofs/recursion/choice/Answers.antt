-- Written by tools/answers.
use Rattle.examples.proofs.Common.{arith, rules, drained_array, new_function, lent, writes_instruction, writes_labels, Empty, Block, LocalGet, End}
use Rattle.examples.proofs.recursion.choice.Goals as goal

pub returns : goal.returns
returns g c =
    let b1 = lent (new_function c.in_ok-function.ensures tt) c.instructions-sink.ensures.same in
    let b2 = writes_instruction b1 (Block Empty) c.in_ok-block.ensures.writes.bytes (tt, tt) in
    let b3 = writes_instruction b2 (Block Empty) c.in_ok-block-2.ensures.writes.bytes (tt, tt) in
    let b4 = writes_instruction b3 (LocalGet 0) c.in_ok-local_get.ensures.writes.bytes (omega arith, tt) in
    let b5 = writes_labels b4 c.in_ok-br_table.ensures.writes (omega arith, tt) (omega arith) in
    let b6 = writes_instruction b5 End c.in_ok-end.ensures.writes.bytes tt in
    let b7 = writes_instruction b6 End c.in_ok-end-2.ensures.writes.bytes tt in
    let b8 = writes_instruction b7 End c.in_ok-end-3.ensures.writes.bytes tt in
    lent b8 (search rules)

pub new-requires : goal.new-requires
new-requires g c = record { can = λ it b. tt; reported = λ it xs b d. drained_array it xs d }

pub br_table-requires : goal.br_table-requires
br_table-requires g c = record { can = λ it b. tt; reported = λ it xs b d. drained_array it xs d }
