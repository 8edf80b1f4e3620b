use Rattle.wasm_base.proofs.Calls.{cut_extends}
use Rattle.wasm_base.proofs.store.EntriesStore.grows.Goals as goal

pub returns : goal.returns
returns g c = λ encoding old new before after more gains cut. cut_extends more gains cut
