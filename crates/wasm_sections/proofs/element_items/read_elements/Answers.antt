use Rattle.wasm_sections.proofs.Common.{◌≢◌, sym, subst, IfOk, Decodes, Rejects, padded_of, Memory, IfErr, elements_as, list_view}
use Rattle.wasm_sections.proofs.element_items.read_elements.Goals as goal

pub returns-then-of_expressions-clause-found : goal.returns-then-of_expressions-clause-found
returns-then-of_expressions-clause-found g c = subst (λ b. IfOk c.read_expressions.result (λ x. Decodes (elements_as c.args.explicit b) (padded_of g.G.Grammar.grammar) c.args.bytes.now (list_view x.0) x.1.now)) (sym c.if-of_expressions.true) c.read_expressions.ensures.found

pub returns-then-of_expressions-clause-none : goal.returns-then-of_expressions-clause-none
returns-then-of_expressions-clause-none g c = subst (λ b. IfErr c.read_expressions.result (λ e. e.cause ≢ Memory → Rejects (elements_as c.args.explicit b) (padded_of g.G.Grammar.grammar) c.args.bytes.now)) (sym c.if-of_expressions.true) c.read_expressions.ensures.none

pub returns-else-of_expressions-clause-found : goal.returns-else-of_expressions-clause-found
returns-else-of_expressions-clause-found g c = subst (λ b. IfOk c.read_functions.result (λ x. Decodes (elements_as c.args.explicit b) (padded_of g.G.Grammar.grammar) c.args.bytes.now (list_view x.0) x.1.now)) (sym c.if-of_expressions.false) c.read_functions.ensures.found

pub returns-else-of_expressions-clause-none : goal.returns-else-of_expressions-clause-none
returns-else-of_expressions-clause-none g c = subst (λ b. IfErr c.read_functions.result (λ e. e.cause ≢ Memory → Rejects (elements_as c.args.explicit b) (padded_of g.G.Grammar.grammar) c.args.bytes.now)) (sym c.if-of_expressions.false) c.read_functions.ensures.none
