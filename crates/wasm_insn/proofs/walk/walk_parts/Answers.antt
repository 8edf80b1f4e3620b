use Rattle.wasm_insn.proofs.Common.{fault_stays, arguments_fail}
use Rattle.wasm_insn.proofs.WalkInstructions.{walked_arguments_start, walked_arguments_step, walked_arguments_done}
use Rattle.wasm_insn.proofs.walk.walk_parts.Goals as goal

pub loop-part-init : goal.loop-part-init
loop-part-init g c = walked_arguments_start c.args.wanted.now c.args.bytes.now _

pub returns-in_err-rest-clause-none : goal.returns-in_err-rest-clause-none
returns-in_err-rest-clause-none g c =
    let go = c.loop-part.invariant in
    fault_stays c.from_residual.result _ c.from_residual.ensures.1 λ n. arguments_fail c.args.wanted.now c.args.bytes.now c.loop-part.part-index _ c.loop-part.rest.now go.values c.loop-part-test.true go.read (c.in_err-rest.ensures.none n)

pub loop-part-preserved : goal.loop-part-preserved
loop-part-preserved g c = walked_arguments_step c.args.wanted.now c.args.bytes.now c.loop-part.part-index _ c.loop-part.rest.now c.in_ok-rest.rest.now _ _ _ c.loop-part-test.true c.loop-part.invariant c.in_ok-rest.ensures.found

pub returns-clause-found : goal.returns-clause-found
returns-clause-found g c = walked_arguments_done c.args.wanted.now c.args.bytes.now c.loop-part.part-index c.loop-part.rest.now _ _ c.loop-part-test.false c.loop-part.invariant
