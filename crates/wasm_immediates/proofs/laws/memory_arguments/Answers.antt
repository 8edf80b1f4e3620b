use Rattle.wasm_immediates.proofs.ImmediateEncodings.{memory_arguments}
use Rattle.wasm_immediates.proofs.laws.memory_arguments.Goals as goal

pub returns : goal.returns
returns g m = memory_arguments m
