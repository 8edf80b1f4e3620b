use Rattle.wasm_base.proofs.FormatLaws.{raw_bytes_unambiguous}
use Rattle.wasm_base.proofs.fixed.ArrayU816Layout.laws.Goals as goal

pub returns : goal.returns
returns c = raw_bytes_unambiguous 16
