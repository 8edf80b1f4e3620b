use Rattle.wasm_code.proofs.Common.{◌≡◌, ◌++◌, refl, rules, Global, instruction_encoding, RefNull, stores_more}
use Rattle.wasm_code.proofs.const_expr.ConstExpr.with_ref_null.Goals as goal

pub returns-clause-stores : goal.returns-clause-stores
returns-clause-stores g c =
    let encoding : c.ref_null.new.self.sink.now.items ≡ c.self.inside.bytes.items ++ instruction_encoding {A = Global} (RefNull c.args.ty) = search rules in
    stores_more _ _ _ _ _ c.self.view_is refl encoding
