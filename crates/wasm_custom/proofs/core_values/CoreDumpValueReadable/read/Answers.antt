use Rattle.wasm_custom.proofs.Common.{rules, sym, subst, to_z-of_z, padded_of, Decodes, fault_stays, w32, w64, value, i32_decodes, i64_decodes, value_none, i32_none, i64_none, f32_decodes, f32_none}
use Rattle.wasm_custom.proofs.Common.{f64_decodes, f64_none}
use Rattle.wasm_custom.specs.declared.core_values.CoreDumpValue.TheVariants as values
use Rattle.wasm_custom.proofs.core_values.CoreDumpValueReadable.read.Goals as goal

pub returns-in_ok-value-in-127-clause-found : goal.returns-in_ok-value-in-127-clause-found
returns-in_ok-value-in-127-clause-found g c =
    let rest = c.in_ok-value-in-127.rest.now in
    subst (λ z. Decodes value (padded_of g.G.Grammar.grammar) c.args.bytes.now (values.I32 z) rest) (sym (to_z-of_z {w = w32} (search rules)))
    (i32_decodes c.args.bytes.now _ rest _ _ c.in_ok-tag.ensures.found c.in-127.is c.in_ok-value-in-127.ensures.found)

pub returns-in_ok-value-in-126-clause-found : goal.returns-in_ok-value-in-126-clause-found
returns-in_ok-value-in-126-clause-found g c =
    let rest = c.in_ok-value-in-126.rest.now in
    subst (λ z. Decodes value (padded_of g.G.Grammar.grammar) c.args.bytes.now (values.I64 z) rest) (sym (to_z-of_z {w = w64} (search rules)))
    (i64_decodes c.args.bytes.now _ rest _ _ c.in_ok-tag.ensures.found c.in-126.is c.in_ok-value-in-126.ensures.found)

pub returns-in_err-tag-clause-none : goal.returns-in_err-tag-clause-none
returns-in_err-tag-clause-none g c = fault_stays c.from_residual.result _ c.from_residual.ensures.1 λ n. value_none c.args.bytes.now (c.in_err-tag.ensures.none n)

pub returns-in_err-value-in-127-clause-none : goal.returns-in_err-value-in-127-clause-none
returns-in_err-value-in-127-clause-none g c = fault_stays c.from_residual-in_err-value-in-127.result _ c.from_residual-in_err-value-in-127.ensures.1 λ n. i32_none c.args.bytes.now _ _ c.in_ok-tag.ensures.found c.in-127.is (c.in_err-value-in-127.ensures.none n)

pub returns-in_err-value-in-126-clause-none : goal.returns-in_err-value-in-126-clause-none
returns-in_err-value-in-126-clause-none g c = fault_stays c.from_residual-in_err-value-in-126.result _ c.from_residual-in_err-value-in-126.ensures.1 λ n. i64_none c.args.bytes.now _ _ c.in_ok-tag.ensures.found c.in-126.is (c.in_err-value-in-126.ensures.none n)

pub returns-in_err-value-in-125-clause-none : goal.returns-in_err-value-in-125-clause-none
returns-in_err-value-in-125-clause-none g c = fault_stays c.from_residual-in_err-value-in-125.result _ c.from_residual-in_err-value-in-125.ensures.1 λ n. f32_none c.args.bytes.now _ _ c.in_ok-tag.ensures.found c.in-125.is (c.in_err-value-in-125.ensures.none n)

pub returns-in_err-value-in-124-clause-none : goal.returns-in_err-value-in-124-clause-none
returns-in_err-value-in-124-clause-none g c = fault_stays c.from_residual-in_err-value-in-124.result _ c.from_residual-in_err-value-in-124.ensures.1 λ n. f64_none c.args.bytes.now _ _ c.in_ok-tag.ensures.found c.in-124.is (c.in_err-value-in-124.ensures.none n)

pub returns-in_ok-value-in-125-clause-found : goal.returns-in_ok-value-in-125-clause-found
returns-in_ok-value-in-125-clause-found g c = f32_decodes c.args.bytes.now _ _ _ _ c.in_ok-tag.ensures.found c.in-125.is c.in_ok-value-in-125.ensures.found

pub returns-in_ok-value-in-124-clause-found : goal.returns-in_ok-value-in-124-clause-found
returns-in_ok-value-in-124-clause-found g c = f64_decodes c.args.bytes.now _ _ _ _ c.in_ok-tag.ensures.found c.in-124.is c.in_ok-value-in-124.ensures.found
