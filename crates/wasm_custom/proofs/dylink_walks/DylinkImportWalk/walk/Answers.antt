use Rattle.wasm_base.proofs.WalkLaws.{mapped_walks}
use Rattle.wasm_base.proofs.Words.{if_ok_more, if_err_more}
use Rattle.wasm_custom.specs.{import_flags_of}
use Rattle.wasm_custom.proofs.DylinkLaws.{import_flags_none}
use Rattle.wasm_custom.proofs.dylink_walks.DylinkImportWalk.walk.Goals as goal

pub returns-clause-found : goal.returns-clause-found
returns-clause-found g c = if_ok_more c.walk.result (λ rest h. mapped_walks import_flags_of h) c.walk.ensures.found

pub returns-clause-none : goal.returns-clause-none
returns-clause-none g c = if_err_more c.walk.result (λ e none n. import_flags_none c.args.bytes.now (none n)) c.walk.ensures.none
