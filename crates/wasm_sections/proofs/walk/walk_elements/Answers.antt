use Rattle.wasm_sections.proofs.Common.{◌≢◌, sym, subst, IfOk, Rejects, padded_of, Memory, IfErr}
use Rattle.wasm_base.specs.Walks.{Walks}
use Rattle.wasm_sections.specs.{elements_as}
use Rattle.wasm_sections.proofs.walk.walk_elements.Goals as goal

pub returns-then-of_expressions-clause-found : goal.returns-then-of_expressions-clause-found
returns-then-of_expressions-clause-found g c = subst (λ b. IfOk c.walk_expressions.result (λ rest. Walks g.E.Effect.seen g.G.Grammar.grammar (elements_as c.args.explicit b) c.args.bytes.now rest.now c.args.effect.now c.walk_expressions.new.effect)) (sym c.if-of_expressions.true) c.walk_expressions.ensures.found

pub returns-then-of_expressions-clause-none : goal.returns-then-of_expressions-clause-none
returns-then-of_expressions-clause-none g c = subst (λ b. IfErr c.walk_expressions.result (λ e. e.cause ≢ Memory → Rejects (elements_as c.args.explicit b) (padded_of g.G.Grammar.grammar) c.args.bytes.now)) (sym c.if-of_expressions.true) c.walk_expressions.ensures.none

pub returns-else-of_expressions-clause-found : goal.returns-else-of_expressions-clause-found
returns-else-of_expressions-clause-found g c = subst (λ b. IfOk c.walk_functions.result (λ rest. Walks g.E.Effect.seen g.G.Grammar.grammar (elements_as c.args.explicit b) c.args.bytes.now rest.now c.args.effect.now c.walk_functions.new.effect)) (sym c.if-of_expressions.false) c.walk_functions.ensures.found

pub returns-else-of_expressions-clause-none : goal.returns-else-of_expressions-clause-none
returns-else-of_expressions-clause-none g c = subst (λ b. IfErr c.walk_functions.result (λ e. e.cause ≢ Memory → Rejects (elements_as c.args.explicit b) (padded_of g.G.Grammar.grammar) c.args.bytes.now)) (sym c.if-of_expressions.false) c.walk_functions.ensures.none
