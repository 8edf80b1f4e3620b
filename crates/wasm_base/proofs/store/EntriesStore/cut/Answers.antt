use Rattle.wasm_base.proofs.store.EntriesStore.cut.Goals as goal

pub returns : goal.returns
returns g c = λ items holds. holds
