use Rattle.examples.proofs.compiled.compiled_factorial.Goals as goal

pub returns : goal.returns
unfolding denote.Hole.Carrier.hidden Rattle.examples.specs.declared.trees.Expr.TheBlock.hidden-the_row-Expr-0 Rattle.examples.specs.declared.trees.Statement.TheBlock.hidden-the_row-Statement-0
returns g c = c.compile_tree.ensures
