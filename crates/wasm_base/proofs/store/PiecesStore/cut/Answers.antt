use Rattle.std.proofs.Common.{refl}
use Rattle.wasm_base.proofs.store.PiecesStore.cut.Goals as goal

pub returns : goal.returns
returns g c = λ items holds. record { pieces = c.args.self.now; number = refl; content = refl; are = holds }
