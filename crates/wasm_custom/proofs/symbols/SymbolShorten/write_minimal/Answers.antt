use Rattle.wasm_custom.proofs.Common.{subst, HasEncoding, both_grammars, symbol, symbol_view, indexed_kind_encoded, Function, Global, Table, Tag}
use Rattle.wasm_custom.proofs.symbols.SymbolShorten.write_minimal.Goals as goal

pub returns-in-Function-clause-too_long : goal.returns-in-Function-clause-too_long
returns-in-Function-clause-too_long g c = λ h. c.append_indexed.ensures.too_long (indexed_kind_encoded Function _ _ _ (subst (λ x. HasEncoding both_grammars symbol (symbol_view x)) c.in-Function.is h))

pub returns-in-Global-clause-too_long : goal.returns-in-Global-clause-too_long
returns-in-Global-clause-too_long g c = λ h. c.append_indexed-in-Global.ensures.too_long (indexed_kind_encoded Global _ _ _ (subst (λ x. HasEncoding both_grammars symbol (symbol_view x)) c.in-Global.is h))

pub returns-in-Table-clause-too_long : goal.returns-in-Table-clause-too_long
returns-in-Table-clause-too_long g c = λ h. c.append_indexed-in-Table.ensures.too_long (indexed_kind_encoded Table _ _ _ (subst (λ x. HasEncoding both_grammars symbol (symbol_view x)) c.in-Table.is h))

pub returns-in-Tag-clause-too_long : goal.returns-in-Tag-clause-too_long
returns-in-Tag-clause-too_long g c = λ h. c.append_indexed-in-Tag.ensures.too_long (indexed_kind_encoded Tag _ _ _ (subst (λ x. HasEncoding both_grammars symbol (symbol_view x)) c.in-Tag.is h))
