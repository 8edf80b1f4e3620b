-- Written by tools/answers.
use Rattle.examples.proofs.Common.{arith, pos, rules, ints, drained_array, new_function, lent, writes_instruction, Empty, Block, LocalGet, Numeric, BrIf, I32Const, Call, Return, End, I32Eqz, I32Sub}
use Rattle.examples.proofs.Common.{I32Mul}
use Rattle.examples.proofs.recursion.factorial.Goals as goal

pub returns : goal.returns
returns g c =
    let b1 = lent (new_function c.in_ok-function.ensures tt) c.instructions-sink.ensures.same in
    let b2 = writes_instruction b1 (Block Empty) c.in_ok-block.ensures.writes.bytes (tt, tt) in
    let b3 = writes_instruction b2 (LocalGet 0) c.in_ok-local_get.ensures.writes.bytes (omega arith, tt) in
    let b4 = writes_instruction b3 (Numeric I32Eqz) c.in_ok-i32_eqz.ensures.writes.bytes tt in
    let b5 = writes_instruction b4 (BrIf 0) c.in_ok-br_if.ensures.writes.bytes (omega arith, tt) in
    let b6 = writes_instruction b5 (LocalGet 0) c.in_ok-local_get-2.ensures.writes.bytes (omega arith, tt) in
    let b7 = writes_instruction b6 (LocalGet 0) c.in_ok-local_get-3.ensures.writes.bytes (omega arith, tt) in
    let b8 = writes_instruction b7 (I32Const (pos 1)) c.in_ok-i32_const.ensures.writes.bytes ((omega (arith, ints), omega (arith, ints)), tt) in
    let b9 = writes_instruction b8 (Numeric I32Sub) c.in_ok-i32_sub.ensures.writes.bytes tt in
    let b10 = writes_instruction b9 (Call c.args.itself) c.in_ok-call.ensures.writes.bytes (omega (arith, c.ranges.itself.fits), tt) in
    let b11 = writes_instruction b10 (Numeric I32Mul) c.in_ok-i32_mul.ensures.writes.bytes tt in
    let b12 = writes_instruction b11 Return c.in_ok-return_.ensures.writes.bytes tt in
    let b13 = writes_instruction b12 End c.in_ok-end.ensures.writes.bytes tt in
    let b14 = writes_instruction b13 (I32Const (pos 1)) c.in_ok-i32_const-2.ensures.writes.bytes ((omega (arith, ints), omega (arith, ints)), tt) in
    let b15 = writes_instruction b14 End c.in_ok-end-2.ensures.writes.bytes tt in
    lent b15 (search rules)

pub new-requires : goal.new-requires
new-requires g c = record { can = λ it b. tt; reported = λ it xs b d. drained_array it xs d }
