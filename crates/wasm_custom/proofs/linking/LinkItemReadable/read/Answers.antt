use Rattle.wasm_base.proofs.Words.{arith}
use Rattle.wasm_custom.proofs.LinkLaws.{others_decodes, others_none}
use Rattle.wasm_custom.proofs.Common.{fault_stays, link_none, segments_decodes, segments_none, inits_decodes, inits_none, comdats_decodes, comdats_none, symbols_decodes, symbols_none}
use Rattle.wasm_custom.proofs.linking.LinkItemReadable.read.Goals as goal

pub returns-in_err-id-clause-none : goal.returns-in_err-id-clause-none
returns-in_err-id-clause-none g c = fault_stays c.from_residual.result _ c.from_residual.ensures.1 λ n. link_none g.G.Grammar.grammar c.args.bytes.now (c.in_err-id.ensures.none n)

pub returns-in_err-segments-in-5-clause-none : goal.returns-in_err-segments-in-5-clause-none
returns-in_err-segments-in-5-clause-none g c = fault_stays c.from_residual-in_err-segments-in-5.result _ c.from_residual-in_err-segments-in-5.ensures.1 λ n.
    segments_none g.G.Grammar.grammar c.args.bytes.now _ _ c.in_ok-id.ensures.found c.in-5.is c.in_ok-require_standard-in-5.ensures.found (c.in_err-segments-in-5.ensures.none n)

pub returns-in_ok-segments-in-5-clause-found : goal.returns-in_ok-segments-in-5-clause-found
returns-in_ok-segments-in-5-clause-found g c = segments_decodes g.G.Grammar.grammar c.args.bytes.now _ _ _ _ c.in_ok-id.ensures.found c.in-5.is c.in_ok-require_standard-in-5.ensures.found c.in_ok-segments-in-5.ensures.found

pub returns-in_err-functions-in-6-clause-none : goal.returns-in_err-functions-in-6-clause-none
returns-in_err-functions-in-6-clause-none g c = fault_stays c.from_residual-in_err-functions-in-6.result _ c.from_residual-in_err-functions-in-6.ensures.1 λ n.
    inits_none g.G.Grammar.grammar c.args.bytes.now _ _ c.in_ok-id.ensures.found c.in-6.is c.in_ok-require_standard-in-6.ensures.found (c.in_err-functions-in-6.ensures.none n)

pub returns-in_ok-functions-in-6-clause-found : goal.returns-in_ok-functions-in-6-clause-found
returns-in_ok-functions-in-6-clause-found g c = inits_decodes g.G.Grammar.grammar c.args.bytes.now _ _ _ _ c.in_ok-id.ensures.found c.in-6.is c.in_ok-require_standard-in-6.ensures.found c.in_ok-functions-in-6.ensures.found

pub returns-in_err-comdats-in-7-clause-none : goal.returns-in_err-comdats-in-7-clause-none
returns-in_err-comdats-in-7-clause-none g c = fault_stays c.from_residual-in_err-comdats-in-7.result _ c.from_residual-in_err-comdats-in-7.ensures.1 λ n.
    comdats_none g.G.Grammar.grammar c.args.bytes.now _ _ c.in_ok-id.ensures.found c.in-7.is c.in_ok-require_standard-in-7.ensures.found (c.in_err-comdats-in-7.ensures.none n)

pub returns-in_ok-comdats-in-7-clause-found : goal.returns-in_ok-comdats-in-7-clause-found
returns-in_ok-comdats-in-7-clause-found g c = comdats_decodes g.G.Grammar.grammar c.args.bytes.now _ _ _ _ c.in_ok-id.ensures.found c.in-7.is c.in_ok-require_standard-in-7.ensures.found c.in_ok-comdats-in-7.ensures.found

pub returns-in_err-symbols-in-8-clause-none : goal.returns-in_err-symbols-in-8-clause-none
returns-in_err-symbols-in-8-clause-none g c = fault_stays c.from_residual-in_err-symbols-in-8.result _ c.from_residual-in_err-symbols-in-8.ensures.1 λ n.
    symbols_none g.G.Grammar.grammar c.args.bytes.now _ _ c.in_ok-id.ensures.found c.in-8.is (c.in_err-symbols-in-8.ensures.none n)

pub returns-in_ok-symbols-in-8-clause-found : goal.returns-in_ok-symbols-in-8-clause-found
returns-in_ok-symbols-in-8-clause-found g c = symbols_decodes g.G.Grammar.grammar c.args.bytes.now _ _ _ _ c.in_ok-id.ensures.found c.in-8.is c.in_ok-symbols-in-8.ensures.found

pub returns-in_err-bytes-in_default-clause-none : goal.returns-in_err-bytes-in_default-clause-none
returns-in_err-bytes-in_default-clause-none g c = fault_stays c.from_residual-in_err-bytes-in_default.result _ c.from_residual-in_err-bytes-in_default.ensures.1 λ n.
    others_none g.G.Grammar.grammar c.args.bytes.now _ _ c.in_ok-id.ensures.found (omega arith, (omega arith, (omega arith, (omega arith, (omega arith, tt))))) c.in_ok-require_standard-in_default.ensures.found (c.in_err-bytes-in_default.ensures.none n)

pub returns-in_ok-bytes-in_default-clause-found : goal.returns-in_ok-bytes-in_default-clause-found
returns-in_ok-bytes-in_default-clause-found g c = others_decodes g.G.Grammar.grammar c.args.bytes.now _ _ _ _ c.in_ok-id.ensures.found (omega arith, (omega arith, (omega arith, (omega arith, (omega arith, tt))))) c.in_ok-require_standard-in_default.ensures.found c.in_ok-bytes-in_default.ensures.found
