use Rattle.wasm_custom.proofs.Common.{fault_stays, sym, subst, padded_of, RejectsWhole, kind_as, inside, no_module}
use Rattle.wasm_custom.proofs.names.fill_subsection.Goals as goal

pub returns-in_err-name-in-Module-clause-none : goal.returns-in_err-name-in-Module-clause-none
returns-in_err-name-in-Module-clause-none g c = fault_stays c.from_residual.result _ c.from_residual.ensures.1 λ n.
    subst (λ k. RejectsWhole (inside (kind_as k) c.args.id) (padded_of g.G.Grammar.grammar) c.args.bytes.now) (sym c.in-Module.is) (no_module c.args.bytes.now c.args.id (c.in_err-name-in-Module.ensures.none n))
