use Rattle.wasm_base.proofs.FormatLaws.{pair_unambiguous}
use Rattle.wasm_base.proofs.tuples.Tuple2Layout.laws.Goals as goal

pub returns : goal.returns
returns g c = pair_unambiguous c.laws.ensures c.laws-2.ensures
