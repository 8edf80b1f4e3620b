use Rattle.wasm_code.proofs.Common.{◌≡◌, ◌++◌, refl, rules, Global, instruction_encoding, Numeric, I64Sub, stores_more}
use Rattle.wasm_code.proofs.const_expr.ConstExpr.with_i64_sub.Goals as goal

pub returns-clause-stores : goal.returns-clause-stores
returns-clause-stores g c =
    let encoding : c.i64_sub.new.self.sink.now.items ≡ c.self.inside.bytes.items ++ instruction_encoding {A = Global} (Numeric I64Sub) = search rules in
    stores_more _ _ _ _ _ c.self.view_is refl encoding
