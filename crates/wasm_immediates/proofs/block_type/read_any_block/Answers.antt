use Rattle.wasm_immediates.proofs.Common.{inl, inr, arith, fault_stays, block_result_decodes, block_index, block_none, block_no_result, block_empty, block_no_index}
use Rattle.wasm_immediates.proofs.block_type.read_any_block.Goals.{in_default-via-then-tag-lt64, in_default-via-else-tag-lt64+else-tag-lt128}
use Rattle.wasm_immediates.proofs.block_type.read_any_block.Goals as goal

pub returns-in_err-tag-clause-none : goal.returns-in_err-tag-clause-none
returns-in_err-tag-clause-none g c = fault_stays c.from_residual.result _ c.from_residual.ensures.1 λ n. block_none c.args.bytes.now (c.in_err-tag.ensures.none n)

pub returns-in_err-ty-in-65-to-127-clause-none : goal.returns-in_err-ty-in-65-to-127-clause-none
returns-in_err-ty-in-65-to-127-clause-none g c = fault_stays c.from_residual-in_err-ty-in-65-to-127.result _ c.from_residual-in_err-ty-in-65-to-127.ensures.1 λ n. block_no_result c.args.bytes.now _ _ c.in_ok-tag.ensures.found (omega arith) (omega arith) (c.in_err-ty-in-65-to-127.ensures.none n)

pub returns-in_ok-ty-in-65-to-127-clause-found : goal.returns-in_ok-ty-in-65-to-127-clause-found
returns-in_ok-ty-in-65-to-127-clause-found g c = block_result_decodes c.args.bytes.now _ _ _ _ c.in_ok-tag.ensures.found c.in_ok-ty-in-65-to-127.ensures.found

pub returns-in_ok-index-in_default-clause-found : goal.returns-in_ok-index-in_default-clause-found
returns-in_ok-index-in_default-clause-found g c = block_index c.args.bytes.now _ _ c.in_ok-index-in_default.ensures.found

pub returns-in-64-clause-found : goal.returns-in-64-clause-found
returns-in-64-clause-found g c = search (block_empty, c.in_ok-tag.ensures.found, c.in-64.is)

pub returns-in_err-index-in_default-clause-none : goal.returns-in_err-index-in_default-clause-none
returns-in_err-index-in_default-clause-none g c =
    fault_stays c.from_residual-in_err-index-in_default.result _ c.from_residual-in_err-index-in_default.ensures.1 λ n. elim c.in_default.branch [
      | in_default-via-then-tag-lt64 w ↦ block_no_index c.args.bytes.now _ _ c.in_ok-tag.ensures.found (inl (omega arith)) (c.in_err-index-in_default.ensures.none n)
      | in_default-via-else-tag-lt64+else-tag-lt128 w ↦ block_no_index c.args.bytes.now _ _ c.in_ok-tag.ensures.found (inr (omega arith)) (c.in_err-index-in_default.ensures.none n)
    ]
