-- This file defines the operations that expressions and statements compile to.
use Rattle.std.specs.Prelude.{List, [], ◌∷◌, ◌++◌}
use Rattle.examples.specs.declared.lowering.Operation.{Operation}
use Rattle.examples.specs.declared.trees.Expr.{Expr, Row_of-Expr, end_of-Expr, more_of-Expr}
use Rattle.examples.specs.declared.trees.Expr.TheVariants.{Constant, Local, Binary', Call'}
use Rattle.examples.specs.declared.trees.Statement.{Statement, Row_of-Statement, end_of-Statement, more_of-Statement}
use Rattle.examples.specs.declared.trees.Statement.TheVariants.{Set, While', Return}
use Rattle.examples.specs.declared.lowering.Operation.TheVariants as operations

abbrev mutual
  -- The operations of an expression: those of its operands, then its own.
  pub expr_operations : Expr → List Operation
  expr_operations (Constant value) = operations.Constant value ∷ []
  expr_operations (Local index) = operations.Get index ∷ []
  expr_operations (Binary' operator p left q right) = expr_operations left ++ (expr_operations right ++ operations.Binary operator ∷ [])
  expr_operations (Call' index p shape arguments) = argument_operations arguments ++ operations.Call index ∷ []

  -- The operations of arguments, one after another.
  pub argument_operations : {shape : _} → Row_of-Expr shape → List Operation
  argument_operations end_of-Expr = []
  argument_operations (more_of-Expr argument others) = expr_operations argument ++ argument_operations others

-- A loop in a block: it leaves both if the test is 0, and otherwise runs the body and repeats.
abbrev pub while_operations : (test body : List Operation) → List Operation
while_operations test body =
    operations.Block ∷ operations.Loop ∷
    (test ++ (operations.IsZero ∷ operations.BranchIf 1 ∷ (body ++ operations.Branch 0 ∷ operations.End ∷ operations.End ∷ [])))

abbrev mutual
  -- The operations of a statement.
  pub statement_operations : Statement → List Operation
  statement_operations (Set index value) = expr_operations value ++ operations.Set index ∷ []
  statement_operations (While' test p shape body) = while_operations (expr_operations test) (body_operations body)
  statement_operations (Return value) = expr_operations value ++ operations.Return ∷ []

  -- The operations of statements, one after another.
  pub body_operations : {shape : _} → Row_of-Statement shape → List Operation
  body_operations end_of-Statement = []
  body_operations (more_of-Statement statement others) = statement_operations statement ++ body_operations others
