use Rattle.wasm_sections.proofs.Common.{fault_stays, bytes_none, bytes_read}
use Rattle.wasm_sections.proofs.data.BytesReadable.read.Goals as goal

pub returns-in_err-bytes-clause-none : goal.returns-in_err-bytes-clause-none
returns-in_err-bytes-clause-none g c = fault_stays c.from_residual.result _ c.from_residual.ensures.1 λ n. bytes_none c.args.bytes.now (c.in_err-bytes.ensures.none n)

pub returns-clause-found : goal.returns-clause-found
returns-clause-found g c = search (bytes_read, c.in_ok-bytes.ensures.found)
