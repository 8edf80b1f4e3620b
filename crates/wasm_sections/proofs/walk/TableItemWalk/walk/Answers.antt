use Rattle.wasm_base.proofs.Words.{fault_stays}
use Rattle.wasm_sections.proofs.TableLaws.{table_none, table_no_type, table_no_second, table_no_with}
use Rattle.wasm_sections.proofs.WalkItems.{table_walks, table_init_walks}
use Rattle.wasm_sections.proofs.walk.TableItemWalk.walk.Goals as goal

pub returns-in_err-first-clause-none : goal.returns-in_err-first-clause-none
returns-in_err-first-clause-none g c = fault_stays c.from_residual.result _ c.from_residual.ensures.1 λ n. table_none c.args.bytes.now (c.in_err-first.ensures.none n)

pub returns-in_err-rest-clause-none : goal.returns-in_err-rest-clause-none
returns-in_err-rest-clause-none g c = fault_stays c.from_residual-in_err-rest.result _ c.from_residual-in_err-rest.ensures.1 λ n. table_no_type c.args.bytes.now _ _ c.in_ok-first.ensures.found c.if-first-ne64.true (c.in_err-rest.ensures.none n)

pub returns-then-first-ne64-clause-found : goal.returns-then-first-ne64-clause-found
returns-then-first-ne64-clause-found g c = table_walks c.in_ok-rest.ensures.found

pub returns-in_err-second-clause-none : goal.returns-in_err-second-clause-none
returns-in_err-second-clause-none g c = fault_stays c.from_residual-in_err-second.result _ c.from_residual-in_err-second.ensures.1 λ n. table_no_second c.args.bytes.now _ _ c.in_ok-first.ensures.found c.if-first-ne64.false (c.in_err-second.ensures.none n)

pub returns-in_err-rest-2-clause-none : goal.returns-in_err-rest-2-clause-none
returns-in_err-rest-2-clause-none g c = fault_stays c.from_residual-in_err-rest-2.result _ c.from_residual-in_err-rest-2.ensures.1 λ n. table_no_with c.args.bytes.now _ _ _ _ c.in_ok-first.ensures.found c.if-first-ne64.false c.in_ok-second.ensures.found c.if-second-ne0.false (c.in_err-rest-2.ensures.none n)

pub returns-clause-found : goal.returns-clause-found
returns-clause-found g c = table_init_walks c.in_ok-first.ensures.found c.if-first-ne64.false c.in_ok-second.ensures.found c.if-second-ne0.false c.in_ok-put.ensures.ok c.in_ok-rest-2.ensures.found
