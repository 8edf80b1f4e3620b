use Rattle.wasm_base.proofs.Words.{fault_stays, if_ok_more, if_err_more}
use Rattle.wasm_custom.proofs.NameLaws.{subsection_none}
use Rattle.wasm_custom.proofs.WalkCustoms.{subsection_walks, subsection_lacks}
use Rattle.wasm_custom.proofs.name_walks.NameItemWalk.walk.Goals as goal

pub returns-in_err-id-clause-none : goal.returns-in_err-id-clause-none
returns-in_err-id-clause-none g c = fault_stays c.from_residual.result _ c.from_residual.ensures.1 λ n. subsection_none c.args.bytes.now (c.in_err-id.ensures.none n)

pub returns-clause-found : goal.returns-clause-found
returns-clause-found g c = if_ok_more c.walk_after_id.result (λ rest h. subsection_walks g.G.Grammar.grammar _ c.in_ok-id.ensures.found c.name_kind_of.ensures c.in_ok-put.ensures.ok h) c.walk_after_id.ensures.found

pub returns-clause-none : goal.returns-clause-none
returns-clause-none g c = if_err_more c.walk_after_id.result (λ e none n. subsection_lacks g.G.Grammar.grammar _ c.in_ok-id.ensures.found c.name_kind_of.ensures (none n)) c.walk_after_id.ensures.none
