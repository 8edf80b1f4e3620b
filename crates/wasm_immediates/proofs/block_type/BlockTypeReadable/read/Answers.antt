use Rattle.wasm_immediates.proofs.Common.{fault_stays, block_none}
use Rattle.wasm_immediates.proofs.block_type.BlockTypeReadable.read.Goals as goal

pub returns-in_err-tag-clause-none : goal.returns-in_err-tag-clause-none
returns-in_err-tag-clause-none g c = fault_stays c.from_residual.result _ c.from_residual.ensures.1 λ n. block_none c.args.bytes.now (c.in_err-tag.ensures.none n)
