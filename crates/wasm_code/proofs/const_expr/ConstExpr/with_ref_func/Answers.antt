use Rattle.wasm_code.proofs.Common.{◌≡◌, ◌++◌, refl, rules, Global, instruction_encoding, RefFunc, stores_more}
use Rattle.wasm_code.proofs.const_expr.ConstExpr.with_ref_func.Goals as goal

pub returns-clause-stores : goal.returns-clause-stores
returns-clause-stores g c =
    let encoding : c.ref_func.new.self.sink.now.items ≡ c.self.inside.bytes.items ++ instruction_encoding {A = Global} (RefFunc c.args.function_index) = search rules in
    stores_more _ _ _ _ _ c.self.view_is refl encoding
