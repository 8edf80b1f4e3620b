use Rattle.wasm_base.proofs.Words.{◌<◌, byte_unambiguous, such_unambiguous}
use Rattle.wasm_custom.proofs.hints.HintValueLayout.laws.Goals as goal

pub returns : goal.returns
returns c = such_unambiguous (λ b. b < 128) byte_unambiguous
