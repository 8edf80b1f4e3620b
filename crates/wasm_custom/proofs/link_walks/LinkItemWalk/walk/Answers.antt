use Rattle.wasm_base.proofs.Words.{arith, fault_stays, if_ok_more, if_err_more}
use Rattle.wasm_custom.proofs.LinkLaws.{others_none, link_none, segments_none, inits_none, comdats_none, symbols_none, arch_none}
use Rattle.wasm_custom.proofs.WalkLinks.{others_walk, segments_walk, inits_walk, comdats_walk, symbols_walk, arch_walks}
use Rattle.wasm_custom.proofs.link_walks.LinkItemWalk.walk.Goals as goal

pub returns-in_err-id-clause-none : goal.returns-in_err-id-clause-none
returns-in_err-id-clause-none g c = fault_stays c.from_residual.result _ c.from_residual.ensures.1 λ n. link_none g.G.Grammar.grammar c.args.bytes.now (c.in_err-id.ensures.none n)

pub returns-in_ok-require_standard-in-5-clause-none : goal.returns-in_ok-require_standard-in-5-clause-none
returns-in_ok-require_standard-in-5-clause-none g c = if_err_more c.walk.result (λ e none n. segments_none g.G.Grammar.grammar c.args.bytes.now _ _ c.in_ok-id.ensures.found c.in-5.is c.in_ok-require_standard-in-5.ensures.found (none n)) c.walk.ensures.none

pub returns-in_ok-require_standard-in-5-clause-found : goal.returns-in_ok-require_standard-in-5-clause-found
returns-in_ok-require_standard-in-5-clause-found g c = if_ok_more c.walk.result (λ rest h. segments_walk g.G.Grammar.grammar c.in_ok-id.ensures.found c.in_ok-put.ensures.ok c.in-5.is c.in_ok-require_standard-in-5.ensures.found h) c.walk.ensures.found

pub returns-in_ok-require_standard-in-6-clause-none : goal.returns-in_ok-require_standard-in-6-clause-none
returns-in_ok-require_standard-in-6-clause-none g c = if_err_more c.walk-in-6.result (λ e none n. inits_none g.G.Grammar.grammar c.args.bytes.now _ _ c.in_ok-id.ensures.found c.in-6.is c.in_ok-require_standard-in-6.ensures.found (none n)) c.walk-in-6.ensures.none

pub returns-in_ok-require_standard-in-6-clause-found : goal.returns-in_ok-require_standard-in-6-clause-found
returns-in_ok-require_standard-in-6-clause-found g c = if_ok_more c.walk-in-6.result (λ rest h. inits_walk g.G.Grammar.grammar c.in_ok-id.ensures.found c.in_ok-put.ensures.ok c.in-6.is c.in_ok-require_standard-in-6.ensures.found h) c.walk-in-6.ensures.found

pub returns-in_ok-require_standard-in-7-clause-none : goal.returns-in_ok-require_standard-in-7-clause-none
returns-in_ok-require_standard-in-7-clause-none g c = if_err_more c.walk-in-7.result (λ e none n. comdats_none g.G.Grammar.grammar c.args.bytes.now _ _ c.in_ok-id.ensures.found c.in-7.is c.in_ok-require_standard-in-7.ensures.found (none n)) c.walk-in-7.ensures.none

pub returns-in_ok-require_standard-in-7-clause-found : goal.returns-in_ok-require_standard-in-7-clause-found
returns-in_ok-require_standard-in-7-clause-found g c = if_ok_more c.walk-in-7.result (λ rest h. comdats_walk g.G.Grammar.grammar c.in_ok-id.ensures.found c.in_ok-put.ensures.ok c.in-7.is c.in_ok-require_standard-in-7.ensures.found h) c.walk-in-7.ensures.found

pub returns-in-8-clause-none : goal.returns-in-8-clause-none
returns-in-8-clause-none g c = if_err_more c.walk-in-8.result (λ e none n. symbols_none g.G.Grammar.grammar c.args.bytes.now _ _ c.in_ok-id.ensures.found c.in-8.is (none n)) c.walk-in-8.ensures.none

pub returns-in-8-clause-found : goal.returns-in-8-clause-found
returns-in-8-clause-found g c = if_ok_more c.walk-in-8.result (λ rest h. symbols_walk g.G.Grammar.grammar c.in_ok-id.ensures.found c.in_ok-put.ensures.ok c.in-8.is h) c.walk-in-8.ensures.found

pub returns-in-9-clause-none : goal.returns-in-9-clause-none
returns-in-9-clause-none g c = if_err_more c.walk-in-9.result (λ e none n. arch_none g.G.Grammar.grammar c.args.bytes.now _ _ c.in_ok-id.ensures.found c.in-9.is (none n)) c.walk-in-9.ensures.none

pub returns-in-9-clause-found : goal.returns-in-9-clause-found
returns-in-9-clause-found g c = if_ok_more c.walk-in-9.result (λ rest h. arch_walks g.G.Grammar.grammar c.in_ok-id.ensures.found c.in_ok-put.ensures.ok c.in-9.is h) c.walk-in-9.ensures.found

pub returns-in_ok-require_standard-in_default-clause-none : goal.returns-in_ok-require_standard-in_default-clause-none
returns-in_ok-require_standard-in_default-clause-none g c = if_err_more c.walk-in_default.result (λ e none n. others_none g.G.Grammar.grammar c.args.bytes.now _ _ c.in_ok-id.ensures.found (omega arith, (omega arith, (omega arith, (omega arith, (omega arith, tt))))) c.in_ok-require_standard-in_default.ensures.found (none n)) c.walk-in_default.ensures.none

pub returns-in_ok-require_standard-in_default-clause-found : goal.returns-in_ok-require_standard-in_default-clause-found
returns-in_ok-require_standard-in_default-clause-found g c = if_ok_more c.walk-in_default.result (λ rest h. others_walk g.G.Grammar.grammar c.in_ok-id.ensures.found c.in_ok-put.ensures.ok (omega arith, (omega arith, (omega arith, (omega arith, (omega arith, tt))))) c.in_ok-require_standard-in_default.ensures.found h) c.walk-in_default.ensures.found
