use Rattle.wasm_base.proofs.WalkLaws.{mapped_walks}
use Rattle.wasm_base.proofs.Words.{if_ok_more, if_err_more}
use Rattle.wasm_custom.specs.{instance_of}
use Rattle.wasm_custom.proofs.CoreDumpLaws.{instance_none}
use Rattle.wasm_custom.proofs.core_walks.CoreInstanceWalk.walk.Goals as goal

pub returns-clause-found : goal.returns-clause-found
returns-clause-found g c = if_ok_more c.walk_marked.result (λ rest h. mapped_walks instance_of h) c.walk_marked.ensures.found

pub returns-clause-none : goal.returns-clause-none
returns-clause-none g c = if_err_more c.walk_marked.result (λ e none n. instance_none c.args.bytes.now (none n)) c.walk_marked.ensures.none
