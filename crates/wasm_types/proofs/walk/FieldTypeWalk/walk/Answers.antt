use Rattle.wasm_base.proofs.DecodingSteps.{mapped_rejects}
use Rattle.wasm_types.specs.{field_of}
use Rattle.wasm_types.proofs.Common.{if_ok_more, if_err_more}
use Rattle.wasm_types.proofs.WalkTypes.{field_walks}
use Rattle.wasm_types.proofs.walk.FieldTypeWalk.walk.Goals as goal

pub returns-clause-found : goal.returns-clause-found
returns-clause-found g c = if_ok_more c.walk.result (λ rest h. field_walks h) c.walk.ensures.found

pub returns-clause-none : goal.returns-clause-none
returns-clause-none g c = if_err_more c.walk.result (λ e none n. mapped_rejects field_of (none n)) c.walk.ensures.none
