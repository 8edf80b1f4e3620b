use Rattle.wasm_reader.proofs.Conversions.{large_flags}
use Rattle.wasm_reader.proofs.convert.cast.Goals as goal

pub returns-in_err-is_from-clause-other : goal.returns-in_err-is_from-clause-other
returns-in_err-is_from-clause-other g c = rw c.from_residual-in_err-is_from.ensures (large_flags c.args.op c.args.args.now c.flags-item.result _ c.flags-item.is c.in-len4.len_at_least c.in_ok-flag_of.ensures.some c.in_err-is_from.ensures.other)
