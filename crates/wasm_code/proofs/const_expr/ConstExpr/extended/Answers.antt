use Rattle.wasm_code.proofs.ExpressionLaws.{stores_given}
use Rattle.wasm_code.proofs.const_expr.ConstExpr.extended.Goals as goal

pub returns : goal.returns
returns g c = stores_given _ _ _ _ _ c.new-bytes.ensures.items c.in_ok-encode_each.ensures
