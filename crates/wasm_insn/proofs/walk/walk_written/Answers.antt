use Rattle.wasm_base.proofs.Words.{sym, ◌∙◌, if_ok_more, if_err_more}
use Rattle.wasm_insn.proofs.Common.{fault_stays, instruction_no_arguments}
use Rattle.wasm_insn.proofs.DecodeInstructions.{instruction_none}
use Rattle.wasm_insn.proofs.WalkInstructions.{instruction_walks}
use Rattle.wasm_insn.proofs.walk.walk_written.Goals as goal

pub returns-clause-found : goal.returns-clause-found
returns-clause-found g c = if_ok_more c.walk_arguments.result (λ rest h. instruction_walks g.E.Effect.seen g.G.Grammar.grammar c.in_ok-op.op c.in-Some.shape c.args.bytes.now _ rest.now _ _ _ c.in_ok-op.ensures.found (sym c.shape.ensures ∙ c.in-Some.is) c.in_ok-put.ensures.ok h) c.walk_arguments.ensures.found

pub returns-clause-none : goal.returns-clause-none
returns-clause-none g c = if_err_more c.walk_arguments.result (λ e none n. instruction_no_arguments c.args.bytes.now _ c.in_ok-op.op c.in-Some.shape c.in_ok-op.ensures.found (sym c.shape.ensures ∙ c.in-Some.is) (none n)) c.walk_arguments.ensures.none

pub returns-in_err-op-clause-none : goal.returns-in_err-op-clause-none
returns-in_err-op-clause-none g c = fault_stays c.from_residual.result _ c.from_residual.ensures.1 λ n. instruction_none c.args.bytes.now (c.in_err-op.ensures.none n)
