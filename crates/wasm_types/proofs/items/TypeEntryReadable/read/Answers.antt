use Rattle.wasm_types.proofs.Common.{fault_stays, type_none, group_none, single_none, group_decodes, single_decodes}
use Rattle.wasm_types.proofs.items.TypeEntryReadable.read.Goals as goal

pub returns-in_err-tag-clause-none : goal.returns-in_err-tag-clause-none
returns-in_err-tag-clause-none g c = fault_stays c.from_residual.result _ c.from_residual.ensures.1 λ n. type_none c.args.bytes.now (c.in_err-tag.ensures.none n)

pub returns-in_err-types-clause-none : goal.returns-in_err-types-clause-none
returns-in_err-types-clause-none g c = fault_stays c.from_residual-in_err-types.result _ c.from_residual-in_err-types.ensures.1 λ n. group_none c.in_ok-tag.ensures.found c.if-tag-eq78.true (c.in_err-types.ensures.none n)

pub returns-in_err-sub-clause-none : goal.returns-in_err-sub-clause-none
returns-in_err-sub-clause-none g c = fault_stays c.from_residual-in_err-sub.result _ c.from_residual-in_err-sub.ensures.1 λ n. single_none c.in_ok-tag.ensures.found c.if-tag-eq78.false (c.in_err-sub.ensures.none n)

pub returns-in_ok-types-clause-found : goal.returns-in_ok-types-clause-found
returns-in_ok-types-clause-found g c = group_decodes c.in_ok-tag.ensures.found c.if-tag-eq78.true c.in_ok-types.ensures.found

pub returns-in_ok-sub-clause-found : goal.returns-in_ok-sub-clause-found
returns-in_ok-sub-clause-found g c = single_decodes c.in_ok-tag.ensures.found c.in_ok-sub.ensures.found
