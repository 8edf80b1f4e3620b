use Rattle.wasm_base.proofs.Std.{arith}
use Rattle.wasm_base.proofs.DecodingSteps.{front_and_rest}
use Rattle.wasm_base.proofs.DecodeNumbers.{begun_more, begun_last, begun_small}
use Rattle.wasm_base.proofs.leb128.read_few_groups.Goals as goal

pub overflow_mul-sum : goal.overflow_mul-sum
overflow_mul-sum c =
    let l = c.loop-group in
    let small = begun_small l._group _ c.from.result l.sum l.power c.args.bytes.now l.rest.now c.loop-group-test.true c.from.ensures l.invariant in
    omega (arith, small.0, small.1)

pub overflow_add-sum : goal.overflow_add-sum
overflow_add-sum c =
    let l = c.loop-group in
    let small = begun_small l._group _ c.from.result l.sum l.power c.args.bytes.now l.rest.now c.loop-group-test.true c.from.ensures l.invariant in
    omega (arith, small.0, small.1)

pub overflow_mul-power : goal.overflow_mul-power
overflow_mul-power c =
    let l = c.loop-group in
    let small = begun_small l._group _ c.from.result l.sum l.power c.args.bytes.now l.rest.now c.loop-group-test.true c.from.ensures l.invariant in
    omega (arith, small.0, small.1)

pub returns-then-b-lt128-clause-power : goal.returns-then-b-lt128-clause-power
returns-then-b-lt128-clause-power c =
    let l = c.loop-group in
    let small = begun_small l._group _ c.from.result l.sum l.power c.args.bytes.now l.rest.now c.loop-group-test.true c.from.ensures l.invariant in
    omega (arith, small.0, small.1)

pub returns-then-b-lt128-clause-found : goal.returns-then-b-lt128-clause-found
returns-then-b-lt128-clause-found c =
    let l = c.loop-group in
    begun_last l._group _ c.from.result l.sum l.power c.args.bytes.now l.rest.now _ c.loop-group-test.true (front_and_rest l.rest.now c.in-len1-up.len_at_least) c.if-b-lt128.true c.from.ensures l.invariant

pub loop-group-preserved : goal.loop-group-preserved
loop-group-preserved c =
    let l = c.loop-group in
    begun_more l._group _ c.from.result l.sum l.power c.args.bytes.now l.rest.now _ c.loop-group-test.true (front_and_rest l.rest.now c.in-len1-up.len_at_least) c.if-b-lt128.false (omega (arith, c.type_inv.bytes 0)) c.from.ensures l.invariant
