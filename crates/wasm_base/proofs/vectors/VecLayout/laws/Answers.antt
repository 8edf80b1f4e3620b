use Rattle.wasm_base.proofs.FormatLaws.{vec_unambiguous}
use Rattle.wasm_base.proofs.vectors.VecLayout.laws.Goals as goal

pub returns : goal.returns
returns g c = vec_unambiguous c.laws.ensures
