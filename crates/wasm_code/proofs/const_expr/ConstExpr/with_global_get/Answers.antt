use Rattle.wasm_code.proofs.Common.{◌≡◌, ◌++◌, refl, rules, Global, instruction_encoding, GlobalGet, stores_more}
use Rattle.wasm_code.proofs.const_expr.ConstExpr.with_global_get.Goals as goal

pub returns-clause-stores : goal.returns-clause-stores
returns-clause-stores g c =
    let encoding : c.global_get.new.self.sink.now.items ≡ c.self.inside.bytes.items ++ instruction_encoding {A = Global} (GlobalGet c.args.index) = search rules in
    stores_more _ _ _ _ _ c.self.view_is refl encoding
