use Rattle.wasm_code.proofs.BodyLaws.{runs_given}
use Rattle.wasm_code.proofs.function.Function.new.Goals as goal

pub returns : goal.returns
returns g c = runs_given _ _ _ _ _ _ _ _ _ c.in_ok-runs.ensures.ok c.in_ok-bytes.ensures.items c.in_ok-encode_once.ensures
