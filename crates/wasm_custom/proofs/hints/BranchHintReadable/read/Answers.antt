use Rattle.wasm_custom.proofs.Common.{fault_stays, hint_none, hint_rejects, hint_decodes}
use Rattle.wasm_custom.proofs.hints.BranchHintReadable.read.Goals as goal

pub returns-in_err-branch_func_offset-clause-none : goal.returns-in_err-branch_func_offset-clause-none
returns-in_err-branch_func_offset-clause-none g c = fault_stays c.from_residual.result _ c.from_residual.ensures.1 λ n. hint_none c.args.bytes.now (c.in_err-branch_func_offset.ensures.none n)

pub returns-in_err-value-clause-none : goal.returns-in_err-value-clause-none
returns-in_err-value-clause-none g c = fault_stays c.from_residual-in_err-value.result _ c.from_residual-in_err-value.ensures.1 λ n. hint_rejects c.args.bytes.now _ _ c.in_ok-branch_func_offset.ensures.found (c.in_err-value.ensures.none n)

pub returns-clause-found : goal.returns-clause-found
returns-clause-found g c = search (hint_decodes, c.in_ok-branch_func_offset.ensures.found, c.in_ok-value.ensures.found, c.from.ensures)
