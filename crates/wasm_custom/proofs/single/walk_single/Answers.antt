use Rattle.wasm_custom.proofs.Common.{fault_stays, single_none, single_rejects}
use Rattle.wasm_custom.proofs.WalkCustoms.{named_walks}
use Rattle.wasm_custom.proofs.single.walk_single.Goals as goal

pub returns-in_err-rest-clause-none : goal.returns-in_err-rest-clause-none
returns-in_err-rest-clause-none g c = fault_stays c.from_residual.result _ c.from_residual.ensures.1 λ n. single_none c.args.name.now _ c.args.bytes.now (c.in_err-rest.ensures.none n)

pub returns-in_err-walk_whole-clause-none : goal.returns-in_err-walk_whole-clause-none
returns-in_err-walk_whole-clause-none g c = fault_stays c.from_residual-in_err-walk_whole.result _ c.from_residual-in_err-walk_whole.ensures.1 λ n. single_rejects c.args.name.now _ c.args.bytes.now _ c.in_ok-rest.ensures.found (c.in_err-walk_whole.ensures.none n)

pub returns-clause-found : goal.returns-clause-found
returns-clause-found g c = named_walks g.G.Grammar.grammar c.args.name.now c.in_ok-rest.ensures.found c.in_ok-put.ensures.ok g.T.Layout.format c.in_ok-walk_whole.ensures.found
