use Rattle.wasm_sections.proofs.Common.{fault_stays, table_decodes, table_none, table_no_type, table_with, table_no_second, table_no_with}
use Rattle.wasm_sections.proofs.table.TableItemReadable.read.Goals as goal

pub returns-in_err-first-clause-none : goal.returns-in_err-first-clause-none
returns-in_err-first-clause-none g c = fault_stays c.from_residual.result _ c.from_residual.ensures.1 λ n. table_none c.args.bytes.now (c.in_err-first.ensures.none n)

pub returns-in_err-table_type-clause-none : goal.returns-in_err-table_type-clause-none
returns-in_err-table_type-clause-none g c = fault_stays c.from_residual-in_err-table_type.result _ c.from_residual-in_err-table_type.ensures.1 λ n. table_no_type c.args.bytes.now _ _ c.in_ok-first.ensures.found c.if-first-ne64.true (c.in_err-table_type.ensures.none n)

pub returns-then-first-ne64-clause-found : goal.returns-then-first-ne64-clause-found
returns-then-first-ne64-clause-found g c = table_decodes c.args.bytes.now _ _ c.in_ok-table_type.ensures.found

pub returns-in_err-second-clause-none : goal.returns-in_err-second-clause-none
returns-in_err-second-clause-none g c = fault_stays c.from_residual-in_err-second.result _ c.from_residual-in_err-second.ensures.1 λ n. table_no_second c.args.bytes.now _ _ c.in_ok-first.ensures.found c.if-first-ne64.false (c.in_err-second.ensures.none n)

pub returns-in_err-table_type-2-clause-none : goal.returns-in_err-table_type-2-clause-none
returns-in_err-table_type-2-clause-none g c = fault_stays c.from_residual-in_err-table_type-2.result _ c.from_residual-in_err-table_type-2.ensures.1 λ n. table_no_with c.args.bytes.now _ _ _ _ c.in_ok-first.ensures.found c.if-first-ne64.false c.in_ok-second.ensures.found c.if-second-ne0.false (c.in_err-table_type-2.ensures.none n)

pub returns-clause-found : goal.returns-clause-found
returns-clause-found g c = table_with c.args.bytes.now _ _ _ _ _ _ _ c.in_ok-first.ensures.found c.if-first-ne64.false c.in_ok-second.ensures.found c.if-second-ne0.false c.in_ok-table_type-2.ensures.found
