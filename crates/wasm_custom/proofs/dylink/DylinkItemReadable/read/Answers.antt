use Rattle.wasm_base.proofs.Words.{arith}
use Rattle.wasm_custom.proofs.DylinkLaws.{others_decodes, others_none}
use Rattle.wasm_custom.proofs.Common.{fault_stays, dylink_none, memory_decodes, memory_none, needed_decodes, needed_none, exports_decodes, exports_none, imports_decodes, imports_none, paths_decodes}
use Rattle.wasm_custom.proofs.Common.{paths_none}
use Rattle.wasm_custom.proofs.dylink.DylinkItemReadable.read.Goals as goal

pub returns-in_err-id-clause-none : goal.returns-in_err-id-clause-none
returns-in_err-id-clause-none g c = fault_stays c.from_residual.result _ c.from_residual.ensures.1 λ n. dylink_none g.G.Grammar.grammar c.args.bytes.now (c.in_err-id.ensures.none n)

pub returns-in_err-memory-in-1-clause-none : goal.returns-in_err-memory-in-1-clause-none
returns-in_err-memory-in-1-clause-none g c = fault_stays c.from_residual-in_err-memory-in-1.result _ c.from_residual-in_err-memory-in-1.ensures.1 λ n. memory_none g.G.Grammar.grammar c.args.bytes.now _ _ c.in_ok-id.ensures.found c.in-1.is (c.in_err-memory-in-1.ensures.none n)

pub returns-in_ok-memory-in-1-clause-found : goal.returns-in_ok-memory-in-1-clause-found
returns-in_ok-memory-in-1-clause-found g c = memory_decodes g.G.Grammar.grammar c.args.bytes.now _ _ _ _ c.in_ok-id.ensures.found c.in-1.is c.in_ok-memory-in-1.ensures.found

pub returns-in_err-names-in-2-clause-none : goal.returns-in_err-names-in-2-clause-none
returns-in_err-names-in-2-clause-none g c = fault_stays c.from_residual-in_err-names-in-2.result _ c.from_residual-in_err-names-in-2.ensures.1 λ n. needed_none g.G.Grammar.grammar c.args.bytes.now _ _ c.in_ok-id.ensures.found c.in-2.is (c.in_err-names-in-2.ensures.none n)

pub returns-in_ok-names-in-2-clause-found : goal.returns-in_ok-names-in-2-clause-found
returns-in_ok-names-in-2-clause-found g c = needed_decodes g.G.Grammar.grammar c.args.bytes.now _ _ _ _ c.in_ok-id.ensures.found c.in-2.is c.in_ok-names-in-2.ensures.found

pub returns-in_err-exports-in-3-clause-none : goal.returns-in_err-exports-in-3-clause-none
returns-in_err-exports-in-3-clause-none g c = fault_stays c.from_residual-in_err-exports-in-3.result _ c.from_residual-in_err-exports-in-3.ensures.1 λ n. exports_none g.G.Grammar.grammar c.args.bytes.now _ _ c.in_ok-id.ensures.found c.in-3.is (c.in_err-exports-in-3.ensures.none n)

pub returns-in_ok-exports-in-3-clause-found : goal.returns-in_ok-exports-in-3-clause-found
returns-in_ok-exports-in-3-clause-found g c = exports_decodes g.G.Grammar.grammar c.args.bytes.now _ _ _ _ c.in_ok-id.ensures.found c.in-3.is c.in_ok-exports-in-3.ensures.found

pub returns-in_err-imports-in-4-clause-none : goal.returns-in_err-imports-in-4-clause-none
returns-in_err-imports-in-4-clause-none g c = fault_stays c.from_residual-in_err-imports-in-4.result _ c.from_residual-in_err-imports-in-4.ensures.1 λ n. imports_none g.G.Grammar.grammar c.args.bytes.now _ _ c.in_ok-id.ensures.found c.in-4.is (c.in_err-imports-in-4.ensures.none n)

pub returns-in_ok-imports-in-4-clause-found : goal.returns-in_ok-imports-in-4-clause-found
returns-in_ok-imports-in-4-clause-found g c = imports_decodes g.G.Grammar.grammar c.args.bytes.now _ _ _ _ c.in_ok-id.ensures.found c.in-4.is c.in_ok-imports-in-4.ensures.found

pub returns-in_err-paths-in-5-clause-none : goal.returns-in_err-paths-in-5-clause-none
returns-in_err-paths-in-5-clause-none g c = fault_stays c.from_residual-in_err-paths-in-5.result _ c.from_residual-in_err-paths-in-5.ensures.1 λ n. paths_none g.G.Grammar.grammar c.args.bytes.now _ _ c.in_ok-id.ensures.found c.in-5.is (c.in_err-paths-in-5.ensures.none n)

pub returns-in_ok-paths-in-5-clause-found : goal.returns-in_ok-paths-in-5-clause-found
returns-in_ok-paths-in-5-clause-found g c = paths_decodes g.G.Grammar.grammar c.args.bytes.now _ _ _ _ c.in_ok-id.ensures.found c.in-5.is c.in_ok-paths-in-5.ensures.found

pub returns-in_err-bytes-in_default-clause-none : goal.returns-in_err-bytes-in_default-clause-none
returns-in_err-bytes-in_default-clause-none g c = fault_stays c.from_residual-in_err-bytes-in_default.result _ c.from_residual-in_err-bytes-in_default.ensures.1 λ n.
    others_none g.G.Grammar.grammar c.args.bytes.now _ _ c.in_ok-id.ensures.found (omega arith, (omega arith, (omega arith, (omega arith, (omega arith, tt))))) c.in_ok-require_standard-in_default.ensures.found (c.in_err-bytes-in_default.ensures.none n)

pub returns-in_ok-bytes-in_default-clause-found : goal.returns-in_ok-bytes-in_default-clause-found
returns-in_ok-bytes-in_default-clause-found g c = others_decodes g.G.Grammar.grammar c.args.bytes.now _ _ _ _ c.in_ok-id.ensures.found (omega arith, (omega arith, (omega arith, (omega arith, (omega arith, tt))))) c.in_ok-require_standard-in_default.ensures.found c.in_ok-bytes-in_default.ensures.found
