use Rattle.wasm_base.proofs.Words.{false, fault_stays, if_err_more, on_ok}
use Rattle.wasm_custom.specs.{name_name, subsection}
use Rattle.wasm_custom.proofs.NameLaws.{names_none, no_names}
use Rattle.wasm_custom.proofs.WalkCustoms.{listed_walks}
use Rattle.wasm_custom.proofs.name_walks.walk_names.Goals as goal

pub returns-in_err-rest-clause-none : goal.returns-in_err-rest-clause-none
returns-in_err-rest-clause-none g c = fault_stays c.from_residual.result _ c.from_residual.ensures.1 λ n. names_none c.args.bytes.now (c.in_err-rest.ensures.none n)

pub returns-clause-none : goal.returns-clause-none
returns-clause-none g c = if_err_more c.walk_to_end.result (λ e none n. no_names c.args.bytes.now _ c.in_ok-rest.ensures.found (none n)) c.walk_to_end.ensures.none

pub returns-clause-found : goal.returns-clause-found
returns-clause-found g c = on_ok c.walk_to_end.result _ _ c.walk_to_end.ensures.found (λ h. listed_walks g.G.Grammar.grammar name_name false subsection c.in_ok-rest.ensures.found c.in_ok-put.ensures.ok h)
