-- This file proves the operations of a tree whose children are a slice.
use Rattle.wasm_base.proofs.Words.{◌≡◌, ℕ, List, [], ◌∷◌, ◌++◌, refl, sym, ap, ◌∙◌, flat_map}
use Rattle.std.specs.Borrow.{Bor}
use Rattle.examples.specs.Trees.{expr_operations, argument_operations, while_operations, statement_operations, body_operations}
use Rattle.examples.specs.declared.trees.Expr.{Expr, Row_of-Expr, end_of-Expr, more_of-Expr, items-the_row-Expr, items_hidden-the_row-Expr-0}
use Rattle.examples.specs.declared.trees.Expr.TheVariants.{Call, Call'}
use Rattle.examples.specs.declared.trees.Statement.{Statement, Row_of-Statement, end_of-Statement, more_of-Statement, items-the_row-Statement, items_hidden-the_row-Statement-0}
use Rattle.examples.specs.declared.trees.Statement.TheVariants.{While, While'}
use mathlib.Core.Former.{Count}
use Rattle.examples.specs.declared.lowering.Operation.TheVariants as operations

-- The arguments of a call.
abbrev arguments_of : Expr → (shape : Count) × Row_of-Expr shape
arguments_of (Call' index p shape arguments) = (_, arguments)
arguments_of _ = (_, end_of-Expr)

-- The statements of a loop.
abbrev body_of : Statement → (shape : Count) × Row_of-Statement shape
body_of (While' test p shape body) = (_, body)
body_of _ = (_, end_of-Statement)

arguments_listed : (shape : _) (row : Row_of-Expr shape) → argument_operations row ≡ flat_map expr_operations (items-the_row-Expr shape row)
arguments_listed _ end_of-Expr = refl
arguments_listed _ (more_of-Expr argument others) = ap (λ s. expr_operations argument ++ s) (arguments_listed _ others)

body_listed : (shape : _) (row : Row_of-Statement shape) → body_operations row ≡ flat_map statement_operations (items-the_row-Statement shape row)
body_listed _ end_of-Statement = refl
body_listed _ (more_of-Statement statement others) = ap (λ s. statement_operations statement ++ s) (body_listed _ others)

-- The operations of a call are those of each argument, then its own.
pub call_listed : (index : ℕ) (arguments : Bor (List Expr)) → flat_map expr_operations arguments.now ++ operations.Call index ∷ [] ≡ expr_operations (Call index arguments)
call_listed index arguments =
    let row = arguments_of (Call index arguments) in
    ap (λ s. s ++ operations.Call index ∷ []) (sym (arguments_listed row.0 row.1 ∙ ap (flat_map expr_operations) (items_hidden-the_row-Expr-0 arguments.now)))

-- The operations of a loop are its own, with those of each statement between them.
pub while_listed : (test : Expr) (body : Bor (List Statement)) → while_operations (expr_operations test) (flat_map statement_operations body.now) ≡ statement_operations (While test body)
while_listed test body =
    let row = body_of (While test body) in
    ap (while_operations (expr_operations test)) (sym (body_listed row.0 row.1 ∙ ap (flat_map statement_operations) (items_hidden-the_row-Statement-0 body.now)))
