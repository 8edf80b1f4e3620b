use Rattle.wasm_base.proofs.Words.{rules, fault_stays}
use Rattle.wasm_sections.proofs.ImportLaws.{import_no_module, single_no_name, single_no_type, named_none, alike_no_type, alike_no_names, group_unknown}
use Rattle.wasm_sections.proofs.WalkItems.{single_walks, named_walks, alike_walks}
use Rattle.wasm_sections.proofs.walk.ImportsWalk.walk.Goals as goal

pub returns-in_err-rest-clause-none : goal.returns-in_err-rest-clause-none
returns-in_err-rest-clause-none g c = fault_stays c.from_residual.result _ c.from_residual.ensures.1 λ n. import_no_module c.args.bytes.now (c.in_err-rest.ensures.none n)

pub returns-in_err-after-clause-none : goal.returns-in_err-after-clause-none
returns-in_err-after-clause-none g c = fault_stays c.from_residual-in_err-after.result _ c.from_residual-in_err-after.ensures.1 λ n. single_no_name c.args.bytes.now _ _ c.in_ok-rest.ensures.found.decoded c.in_default.ensures (c.in_err-after.ensures.none n)

pub returns-in_err-rest-2-clause-none : goal.returns-in_err-rest-2-clause-none
returns-in_err-rest-2-clause-none g c = fault_stays c.from_residual-in_err-rest-2.result _ c.from_residual-in_err-rest-2.ensures.1 λ n. single_no_type c.args.bytes.now _ _ _ _ c.in_ok-rest.ensures.found.decoded c.in_default.ensures c.in_ok-after.ensures.found.decoded (c.in_err-rest-2.ensures.none n)

pub returns-in_default-clause-found : goal.returns-in_default-clause-found
returns-in_default-clause-found g c = single_walks c.in_ok-rest.ensures.found c.in_ok-after.ensures.found c.in_ok-rest-2.ensures.found

pub returns-in_err-rest-in-127-clause-none : goal.returns-in_err-rest-in-127-clause-none
returns-in_err-rest-in-127-clause-none g c = fault_stays c.from_residual-in_err-rest-in-127.result _ c.from_residual-in_err-rest-in-127.ensures.1 λ n. named_none c.args.bytes.now _ _ _ _ c.in_ok-rest.ensures.found.decoded c.in-Some.ensures.0 c.in-127.is (c.in_err-rest-in-127.ensures.none n)

pub returns-in_ok-rest-in-127-clause-found : goal.returns-in_ok-rest-in-127-clause-found
returns-in_ok-rest-in-127-clause-found g c = named_walks c.in_ok-rest.ensures.found c.in-Some.kind c.in-Some.ensures.0 c.in-127.is c.in_ok-put.ensures.ok c.in_ok-rest-in-127.ensures.found

pub returns-in_err-after-in-126-clause-none : goal.returns-in_err-after-in-126-clause-none
returns-in_err-after-in-126-clause-none g c = fault_stays c.from_residual-in_err-after-in-126.result _ c.from_residual-in_err-after-in-126.ensures.1 λ n. alike_no_type c.args.bytes.now _ _ _ _ c.in_ok-rest.ensures.found.decoded c.in-Some.ensures.0 c.in-126.is (c.in_err-after-in-126.ensures.none n)

pub returns-in_err-rest-in-126-clause-none : goal.returns-in_err-rest-in-126-clause-none
returns-in_err-rest-in-126-clause-none g c = fault_stays c.from_residual-in_err-rest-in-126.result _ c.from_residual-in_err-rest-in-126.ensures.1 λ n. alike_no_names c.args.bytes.now _ _ _ _ _ _ c.in_ok-rest.ensures.found.decoded c.in-Some.ensures.0 c.in-126.is c.in_ok-after-in-126.ensures.found.decoded (c.in_err-rest-in-126.ensures.none n)

pub returns-in_ok-rest-in-126-clause-found : goal.returns-in_ok-rest-in-126-clause-found
returns-in_ok-rest-in-126-clause-found g c = alike_walks c.in_ok-rest.ensures.found c.in-Some.kind c.in-Some.ensures.0 c.in-126.is c.in_ok-put.ensures.ok c.in_ok-after-in-126.ensures.found c.in_ok-rest-in-126.ensures.found

pub returns-in_default-kind-clause-none : goal.returns-in_default-kind-clause-none
returns-in_default-kind-clause-none g c = λ n. group_unknown c.args.bytes.now _ _ _ _ c.in_ok-rest.ensures.found.decoded c.in-Some.ensures.0 c.in-Some.ensures.1 (search rules) (search rules)
