use Rattle.wasm_tool.proofs.Common.{◌∙◌, drained_vec, adds_these}
use Rattle.wasm_base.proofs.KnownLengths as lengths
use Rattle.wasm_tool.proofs.recipe.add_data.Goals as goal

pub active-requires : goal.active-requires
active-requires g c = record { can = λ it b. tt; reported = λ it xs b d. lengths.drained_vec it xs d }

pub returns : goal.returns
returns g c =
    adds_these c.active.result c.args.bytes.items (λ it xs b d. drained_vec c.args.bytes.items it xs b.0 (b.1 ∙ c.args.bytes.ok.0) d) (λ it b. b.1 ∙ c.args.bytes.ok.0) c.active.ensures
