use Rattle.wasm_base.proofs.Words.{drained_copied}
use Rattle.wasm_bench.proofs.bodies.with_locals.Goals as goal

pub new-requires : goal.new-requires
new-requires c = record { can = λ it b. tt; reported = λ it xs b d. drained_copied it xs d }
