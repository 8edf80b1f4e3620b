use Rattle.wasm_custom.proofs.Common.{subst, name, optional, padded_of, Rejects, fault_stays, indexed_none, indexed_no_index, indexed_no_name}
use Rattle.wasm_custom.proofs.symbols.read_indexed.Goals as goal

pub returns-in_err-flags-clause-none : goal.returns-in_err-flags-clause-none
returns-in_err-flags-clause-none g c = fault_stays c.from_residual.result _ c.from_residual.ensures.1 λ n. indexed_none _ c.args.bytes.now (c.in_err-flags.ensures.none n)

pub returns-in_err-index-clause-none : goal.returns-in_err-index-clause-none
returns-in_err-index-clause-none g c = fault_stays c.from_residual-in_err-index.result _ c.from_residual-in_err-index.ensures.1 λ n. indexed_no_index _ c.args.bytes.now _ _ c.in_ok-flags.ensures.found (c.in_err-index.ensures.none n)

pub returns-in_err-name-clause-none : goal.returns-in_err-name-clause-none
returns-in_err-name-clause-none g c = fault_stays c.from_residual-in_err-name.result _ c.from_residual-in_err-name.ensures.1 λ n. indexed_no_name _ c.args.bytes.now _ _ _ _ c.in_ok-flags.ensures.found c.in_ok-index.ensures.found (subst (λ f. Rejects (optional f name) (padded_of g.G.Grammar.grammar) c.in_ok-index.rest.now) c.has_name.ensures (c.in_err-name.ensures.none n))
