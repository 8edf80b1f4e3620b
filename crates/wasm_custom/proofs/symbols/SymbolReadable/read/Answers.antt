use Rattle.wasm_custom.proofs.Common.{fault_stays, symbol_none, function_decodes, function_none, of_data_decodes, of_data_none, global_decodes, global_none, table_decodes, table_none}
use Rattle.wasm_custom.proofs.Common.{of_section_decodes, of_section_none, tag_symbol_decodes, tag_symbol_none}
use Rattle.wasm_custom.proofs.symbols.SymbolReadable.read.Goals as goal

pub returns-in_err-kind-clause-none : goal.returns-in_err-kind-clause-none
returns-in_err-kind-clause-none g c = fault_stays c.from_residual.result _ c.from_residual.ensures.1 λ n. symbol_none g.G.Grammar.grammar c.args.bytes.now (c.in_err-kind.ensures.none n)

pub returns-in_err-symbol-in-0-clause-none : goal.returns-in_err-symbol-in-0-clause-none
returns-in_err-symbol-in-0-clause-none g c = fault_stays c.from_residual-in_err-symbol-in-0.result _ c.from_residual-in_err-symbol-in-0.ensures.1 λ n. function_none g.G.Grammar.grammar c.args.bytes.now _ _ c.in_ok-kind.ensures.found c.in-0.is (c.in_err-symbol-in-0.ensures.none n)

pub returns-in_ok-symbol-in-0-clause-found : goal.returns-in_ok-symbol-in-0-clause-found
returns-in_ok-symbol-in-0-clause-found g c = function_decodes g.G.Grammar.grammar c.args.bytes.now _ _ c.in_ok-kind.ensures.found _ _ c.in-0.is c.in_ok-symbol-in-0.ensures.found

pub returns-in_err-symbol-in-1-clause-none : goal.returns-in_err-symbol-in-1-clause-none
returns-in_err-symbol-in-1-clause-none g c = fault_stays c.from_residual-in_err-symbol-in-1.result _ c.from_residual-in_err-symbol-in-1.ensures.1 λ n. of_data_none g.G.Grammar.grammar c.args.bytes.now _ _ c.in_ok-kind.ensures.found c.in-1.is (c.in_err-symbol-in-1.ensures.none n)

pub returns-in_ok-symbol-in-1-clause-found : goal.returns-in_ok-symbol-in-1-clause-found
returns-in_ok-symbol-in-1-clause-found g c = of_data_decodes g.G.Grammar.grammar c.args.bytes.now _ _ c.in_ok-kind.ensures.found _ _ c.in-1.is c.in_ok-symbol-in-1.ensures.found

pub returns-in_err-symbol-in-2-clause-none : goal.returns-in_err-symbol-in-2-clause-none
returns-in_err-symbol-in-2-clause-none g c = fault_stays c.from_residual-in_err-symbol-in-2.result _ c.from_residual-in_err-symbol-in-2.ensures.1 λ n. global_none g.G.Grammar.grammar c.args.bytes.now _ _ c.in_ok-kind.ensures.found c.in-2.is (c.in_err-symbol-in-2.ensures.none n)

pub returns-in_ok-symbol-in-2-clause-found : goal.returns-in_ok-symbol-in-2-clause-found
returns-in_ok-symbol-in-2-clause-found g c = global_decodes g.G.Grammar.grammar c.args.bytes.now _ _ c.in_ok-kind.ensures.found _ _ c.in-2.is c.in_ok-symbol-in-2.ensures.found

pub returns-in_err-symbol-in-5-clause-none : goal.returns-in_err-symbol-in-5-clause-none
returns-in_err-symbol-in-5-clause-none g c = fault_stays c.from_residual-in_err-symbol-in-5.result _ c.from_residual-in_err-symbol-in-5.ensures.1 λ n. table_none g.G.Grammar.grammar c.args.bytes.now _ _ c.in_ok-kind.ensures.found c.in-5.is (c.in_err-symbol-in-5.ensures.none n)

pub returns-in_ok-symbol-in-5-clause-found : goal.returns-in_ok-symbol-in-5-clause-found
returns-in_ok-symbol-in-5-clause-found g c = table_decodes g.G.Grammar.grammar c.args.bytes.now _ _ c.in_ok-kind.ensures.found _ _ c.in-5.is c.in_ok-symbol-in-5.ensures.found

pub returns-in_err-symbol-in-3-clause-none : goal.returns-in_err-symbol-in-3-clause-none
returns-in_err-symbol-in-3-clause-none g c = fault_stays c.from_residual-in_err-symbol-in-3.result _ c.from_residual-in_err-symbol-in-3.ensures.1 λ n.
    of_section_none g.G.Grammar.grammar c.args.bytes.now _ _ c.in_ok-kind.ensures.found c.in_ok-require_standard-in-3.ensures.found c.in-3.is (c.in_err-symbol-in-3.ensures.none n)

pub returns-in_ok-symbol-in-3-clause-found : goal.returns-in_ok-symbol-in-3-clause-found
returns-in_ok-symbol-in-3-clause-found g c = of_section_decodes g.G.Grammar.grammar c.args.bytes.now _ _ c.in_ok-kind.ensures.found _ _ c.in_ok-require_standard-in-3.ensures.found c.in-3.is c.in_ok-symbol-in-3.ensures.found

pub returns-in_err-symbol-in-4-clause-none : goal.returns-in_err-symbol-in-4-clause-none
returns-in_err-symbol-in-4-clause-none g c = fault_stays c.from_residual-in_err-symbol-in-4.result _ c.from_residual-in_err-symbol-in-4.ensures.1 λ n.
    tag_symbol_none g.G.Grammar.grammar c.args.bytes.now _ _ c.in_ok-kind.ensures.found c.in_ok-require_standard-in-4.ensures.found c.in-4.is (c.in_err-symbol-in-4.ensures.none n)

pub returns-in_ok-symbol-in-4-clause-found : goal.returns-in_ok-symbol-in-4-clause-found
returns-in_ok-symbol-in-4-clause-found g c = tag_symbol_decodes g.G.Grammar.grammar c.args.bytes.now _ _ c.in_ok-kind.ensures.found _ _ c.in_ok-require_standard-in-4.ensures.found c.in-4.is c.in_ok-symbol-in-4.ensures.found
