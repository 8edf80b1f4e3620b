use Rattle.wasm_base.proofs.Words.{drained_copied}
use Rattle.wasm_bench.proofs.calls.table_call.Goals as goal

pub br_table-requires : goal.br_table-requires
br_table-requires c = record { can = λ it b. tt; reported = λ it xs b d. drained_copied it xs d }
