use Rattle.wasm_custom.proofs.Common.{fault_stays, segment_none}
use Rattle.wasm_custom.proofs.segments.SegmentInfoReadable.read.Goals as goal

pub returns-in_err-name-clause-none : goal.returns-in_err-name-clause-none
returns-in_err-name-clause-none g c = fault_stays c.from_residual.result _ c.from_residual.ensures.1 λ n. segment_none c.args.bytes.now (c.in_err-name.ensures.none n)
