use Rattle.wasm_base.proofs.Words.{rules, fault_stays}
use Rattle.wasm_sections.proofs.ImportLaws.{import_no_module, single_no_name, single_no_type, single_decodes, named_decodes, named_none, alike_decodes, alike_no_type, alike_no_names, group_unknown}
use Rattle.wasm_sections.proofs.import.ImportsReadable.read.Goals as goal

pub returns-in_err-module-clause-none : goal.returns-in_err-module-clause-none
returns-in_err-module-clause-none g c = fault_stays c.from_residual.result _ c.from_residual.ensures.1 λ n. import_no_module c.args.bytes.now (c.in_err-module.ensures.none n)

pub returns-in_err-name-clause-none : goal.returns-in_err-name-clause-none
returns-in_err-name-clause-none g c = fault_stays c.from_residual-in_err-name.result _ c.from_residual-in_err-name.ensures.1 λ n. single_no_name c.args.bytes.now _ _ c.in_ok-module.ensures.found c.in_default.ensures (c.in_err-name.ensures.none n)

pub returns-in_err-ty-clause-none : goal.returns-in_err-ty-clause-none
returns-in_err-ty-clause-none g c = fault_stays c.from_residual-in_err-ty.result _ c.from_residual-in_err-ty.ensures.1 λ n. single_no_type c.args.bytes.now _ _ _ _ c.in_ok-module.ensures.found c.in_default.ensures c.in_ok-name.ensures.found (c.in_err-ty.ensures.none n)

pub returns-in_default-clause-found : goal.returns-in_default-clause-found
returns-in_default-clause-found g c = single_decodes c.args.bytes.now _ _ _ _ _ _ c.in_ok-module.ensures.found c.in_ok-name.ensures.found c.in_ok-ty.ensures.found

pub returns-in_err-items-in-127-clause-none : goal.returns-in_err-items-in-127-clause-none
returns-in_err-items-in-127-clause-none g c = fault_stays c.from_residual-in_err-items-in-127.result _ c.from_residual-in_err-items-in-127.ensures.1 λ n.
    named_none c.args.bytes.now _ _ _ _ c.in_ok-module.ensures.found c.in-Some.ensures.0 c.in-127.is (c.in_err-items-in-127.ensures.none n)

pub returns-in_err-ty-in-126-clause-none : goal.returns-in_err-ty-in-126-clause-none
returns-in_err-ty-in-126-clause-none g c = fault_stays c.from_residual-in_err-ty-in-126.result _ c.from_residual-in_err-ty-in-126.ensures.1 λ n.
    alike_no_type c.args.bytes.now _ _ _ _ c.in_ok-module.ensures.found c.in-Some.ensures.0 c.in-126.is (c.in_err-ty-in-126.ensures.none n)

pub returns-in_err-names-in-126-clause-none : goal.returns-in_err-names-in-126-clause-none
returns-in_err-names-in-126-clause-none g c = fault_stays c.from_residual-in_err-names-in-126.result _ c.from_residual-in_err-names-in-126.ensures.1 λ n.
    alike_no_names c.args.bytes.now _ _ _ _ _ _ c.in_ok-module.ensures.found c.in-Some.ensures.0 c.in-126.is c.in_ok-ty-in-126.ensures.found (c.in_err-names-in-126.ensures.none n)

pub returns-in_ok-items-in-127-clause-found : goal.returns-in_ok-items-in-127-clause-found
returns-in_ok-items-in-127-clause-found g c = named_decodes c.args.bytes.now _ _ _ _ _ _ c.in_ok-module.ensures.found c.in-Some.ensures.0 c.in-127.is c.in_ok-items-in-127.ensures.found

pub returns-in_ok-names-in-126-clause-found : goal.returns-in_ok-names-in-126-clause-found
returns-in_ok-names-in-126-clause-found g c = alike_decodes c.args.bytes.now _ _ _ _ _ _ _ _ c.in_ok-module.ensures.found c.in-Some.ensures.0 c.in-126.is c.in_ok-ty-in-126.ensures.found c.in_ok-names-in-126.ensures.found

pub returns-in_default-kind-clause-none : goal.returns-in_default-kind-clause-none
returns-in_default-kind-clause-none g c = λ n. group_unknown c.args.bytes.now _ _ _ _ c.in_ok-module.ensures.found c.in-Some.ensures.0 c.in-Some.ensures.1 (search rules) (search rules)
