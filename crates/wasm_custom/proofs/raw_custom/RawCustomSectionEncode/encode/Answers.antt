use Rattle.wasm_custom.proofs.CustomLaws.{raw_back}
use Rattle.wasm_custom.proofs.raw_custom.RawCustomSectionEncode.encode.Goals as goal

pub returns-clause-read : goal.returns-clause-read
returns-clause-read g c = raw_back c.args.self.now.0.now
