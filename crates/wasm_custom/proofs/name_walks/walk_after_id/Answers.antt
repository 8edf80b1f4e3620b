use Rattle.wasm_base.proofs.Faults.{if_ok_more, if_err_more}
use Rattle.wasm_base.proofs.Words.{mapped_rejects}
use Rattle.wasm_base.proofs.WalkLaws.{mapped_walks}
use Rattle.wasm_custom.specs.Names.{Module, Map, Indirect, Other}
use Rattle.wasm_custom.specs.declared.names.NameKind.TheVariants as kinds
use Rattle.wasm_custom.proofs.WalkCustoms.{of_known}
use Rattle.wasm_custom.proofs.NameLaws.{not_known}
use Rattle.wasm_custom.proofs.name_walks.walk_after_id.Goals as goal

pub returns-in-Module-clause-found : goal.returns-in-Module-clause-found
returns-in-Module-clause-found g c = if_ok_more c.walk.result (λ rest h. of_known c.args.id kinds.Module c.in-Module.is (mapped_walks Module h)) c.walk.ensures.found

pub returns-in-Module-clause-none : goal.returns-in-Module-clause-none
returns-in-Module-clause-none g c = if_err_more c.walk.result (λ e none n. not_known g.G.Grammar.grammar c.args.id kinds.Module c.in-Module.is (mapped_rejects Module (none n))) c.walk.ensures.none

pub returns-in-Map-clause-found : goal.returns-in-Map-clause-found
returns-in-Map-clause-found g c = if_ok_more c.walk-in-Map.result (λ rest h. of_known c.args.id kinds.Map c.in-Map.is (mapped_walks (Map c.args.id) h)) c.walk-in-Map.ensures.found

pub returns-in-Map-clause-none : goal.returns-in-Map-clause-none
returns-in-Map-clause-none g c = if_err_more c.walk-in-Map.result (λ e none n. not_known g.G.Grammar.grammar c.args.id kinds.Map c.in-Map.is (mapped_rejects (Map c.args.id) (none n))) c.walk-in-Map.ensures.none

pub returns-in-Indirect-clause-found : goal.returns-in-Indirect-clause-found
returns-in-Indirect-clause-found g c = if_ok_more c.walk-in-Indirect.result (λ rest h. of_known c.args.id kinds.Indirect c.in-Indirect.is (mapped_walks (Indirect c.args.id) h)) c.walk-in-Indirect.ensures.found

pub returns-in-Indirect-clause-none : goal.returns-in-Indirect-clause-none
returns-in-Indirect-clause-none g c = if_err_more c.walk-in-Indirect.result (λ e none n. not_known g.G.Grammar.grammar c.args.id kinds.Indirect c.in-Indirect.is (mapped_rejects (Indirect c.args.id) (none n))) c.walk-in-Indirect.ensures.none

pub returns-in-Other-clause-found : goal.returns-in-Other-clause-found
returns-in-Other-clause-found g c = if_ok_more c.walk-in-Other.result (λ rest h. of_known c.args.id kinds.Other c.in-Other.is (mapped_walks (Other c.args.id) h)) c.walk-in-Other.ensures.found

pub returns-in-Other-clause-none : goal.returns-in-Other-clause-none
returns-in-Other-clause-none g c = if_err_more c.walk-in-Other.result (λ e none n. not_known g.G.Grammar.grammar c.args.id kinds.Other c.in-Other.is (mapped_rejects (Other c.args.id) (none n))) c.walk-in-Other.ensures.none
