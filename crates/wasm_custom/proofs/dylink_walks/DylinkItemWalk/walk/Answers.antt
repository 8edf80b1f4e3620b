use Rattle.wasm_base.proofs.Words.{arith, fault_stays, if_ok_more, if_err_more}
use Rattle.wasm_custom.proofs.DylinkLaws.{others_none, dylink_none, memory_none, needed_none, exports_none, imports_none, paths_none}
use Rattle.wasm_custom.proofs.WalkDylink.{others_walk, memory_walk, needed_walk, exports_walk, imports_walk, paths_walk}
use Rattle.wasm_custom.proofs.dylink_walks.DylinkItemWalk.walk.Goals as goal

pub returns-in_err-id-clause-none : goal.returns-in_err-id-clause-none
returns-in_err-id-clause-none g c = fault_stays c.from_residual.result _ c.from_residual.ensures.1 λ n. dylink_none g.G.Grammar.grammar c.args.bytes.now (c.in_err-id.ensures.none n)

pub returns-in-1-clause-none : goal.returns-in-1-clause-none
returns-in-1-clause-none g c = if_err_more c.walk.result (λ e none n. memory_none g.G.Grammar.grammar c.args.bytes.now _ _ c.in_ok-id.ensures.found c.in-1.is (none n)) c.walk.ensures.none

pub returns-in-1-clause-found : goal.returns-in-1-clause-found
returns-in-1-clause-found g c = if_ok_more c.walk.result (λ rest h. memory_walk g.G.Grammar.grammar c.in_ok-id.ensures.found c.in-1.is c.in_ok-put.ensures.ok h) c.walk.ensures.found

pub returns-in-2-clause-none : goal.returns-in-2-clause-none
returns-in-2-clause-none g c = if_err_more c.walk-in-2.result (λ e none n. needed_none g.G.Grammar.grammar c.args.bytes.now _ _ c.in_ok-id.ensures.found c.in-2.is (none n)) c.walk-in-2.ensures.none

pub returns-in-2-clause-found : goal.returns-in-2-clause-found
returns-in-2-clause-found g c = if_ok_more c.walk-in-2.result (λ rest h. needed_walk g.G.Grammar.grammar c.in_ok-id.ensures.found c.in-2.is c.in_ok-put.ensures.ok h) c.walk-in-2.ensures.found

pub returns-in-3-clause-none : goal.returns-in-3-clause-none
returns-in-3-clause-none g c = if_err_more c.walk-in-3.result (λ e none n. exports_none g.G.Grammar.grammar c.args.bytes.now _ _ c.in_ok-id.ensures.found c.in-3.is (none n)) c.walk-in-3.ensures.none

pub returns-in-3-clause-found : goal.returns-in-3-clause-found
returns-in-3-clause-found g c = if_ok_more c.walk-in-3.result (λ rest h. exports_walk g.G.Grammar.grammar c.in_ok-id.ensures.found c.in-3.is c.in_ok-put.ensures.ok h) c.walk-in-3.ensures.found

pub returns-in-4-clause-none : goal.returns-in-4-clause-none
returns-in-4-clause-none g c = if_err_more c.walk-in-4.result (λ e none n. imports_none g.G.Grammar.grammar c.args.bytes.now _ _ c.in_ok-id.ensures.found c.in-4.is (none n)) c.walk-in-4.ensures.none

pub returns-in-4-clause-found : goal.returns-in-4-clause-found
returns-in-4-clause-found g c = if_ok_more c.walk-in-4.result (λ rest h. imports_walk g.G.Grammar.grammar c.in_ok-id.ensures.found c.in-4.is c.in_ok-put.ensures.ok h) c.walk-in-4.ensures.found

pub returns-in-5-clause-none : goal.returns-in-5-clause-none
returns-in-5-clause-none g c = if_err_more c.walk-in-5.result (λ e none n. paths_none g.G.Grammar.grammar c.args.bytes.now _ _ c.in_ok-id.ensures.found c.in-5.is (none n)) c.walk-in-5.ensures.none

pub returns-in-5-clause-found : goal.returns-in-5-clause-found
returns-in-5-clause-found g c = if_ok_more c.walk-in-5.result (λ rest h. paths_walk g.G.Grammar.grammar c.in_ok-id.ensures.found c.in-5.is c.in_ok-put.ensures.ok h) c.walk-in-5.ensures.found

pub returns-in_ok-require_standard-in_default-clause-none : goal.returns-in_ok-require_standard-in_default-clause-none
returns-in_ok-require_standard-in_default-clause-none g c = if_err_more c.walk-in_default.result (λ e none n. others_none g.G.Grammar.grammar c.args.bytes.now _ _ c.in_ok-id.ensures.found (omega arith, (omega arith, (omega arith, (omega arith, (omega arith, tt))))) c.in_ok-require_standard-in_default.ensures.found (none n)) c.walk-in_default.ensures.none

pub returns-in_ok-require_standard-in_default-clause-found : goal.returns-in_ok-require_standard-in_default-clause-found
returns-in_ok-require_standard-in_default-clause-found g c = if_ok_more c.walk-in_default.result (λ rest h. others_walk g.G.Grammar.grammar c.in_ok-id.ensures.found (omega arith, (omega arith, (omega arith, (omega arith, (omega arith, tt))))) c.in_ok-require_standard-in_default.ensures.found c.in_ok-put.ensures.ok h) c.walk-in_default.ensures.found
