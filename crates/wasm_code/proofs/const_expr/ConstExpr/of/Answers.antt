use Rattle.wasm_code.proofs.Common.{◌++◌, ap, ◌∙◌, append-nil, first_encoding, stores_first}
use Rattle.wasm_code.proofs.const_expr.ConstExpr.of.Goals as goal

pub returns : goal.returns
returns g c =
    let encoding = first_encoding c.args.first in
    stores_first c.args.first _ (ap (λ z. encoding ++ z) c.new-bytes.ensures.items ∙ append-nil encoding)
