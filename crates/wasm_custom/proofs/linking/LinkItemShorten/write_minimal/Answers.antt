use Rattle.wasm_custom.proofs.Common.{map, subst, HasEncoding, both_grammars, link, link_view, symbol_view, arch_encoded, comdats_encoded, segments_encoded, symbols_encoded}
use Rattle.wasm_custom.proofs.linking.LinkItemShorten.write_minimal.Goals as goal

pub returns-in-Symbols-clause-too_long : goal.returns-in-Symbols-clause-too_long
returns-in-Symbols-clause-too_long g c = λ h. c.append_vector-in-Symbols.ensures.too_long (symbols_encoded (map symbol_view c.in-Symbols.symbols.items) (subst (λ i. HasEncoding both_grammars link (link_view i)) c.in-Symbols.is h))

pub returns-in-Segments-clause-too_long : goal.returns-in-Segments-clause-too_long
returns-in-Segments-clause-too_long g c = λ h. c.append_vector.ensures.too_long (segments_encoded _ (subst (λ i. HasEncoding both_grammars link (link_view i)) c.in-Segments.is h))

pub returns-in-Comdats-clause-too_long : goal.returns-in-Comdats-clause-too_long
returns-in-Comdats-clause-too_long g c = λ h. c.append_vector-in-Comdats.ensures.too_long (comdats_encoded _ (subst (λ i. HasEncoding both_grammars link (link_view i)) c.in-Comdats.is h))

pub returns-in-Arch-clause-too_long : goal.returns-in-Arch-clause-too_long
returns-in-Arch-clause-too_long g c = λ h. c.append_target.ensures.too_long (arch_encoded _ (subst (λ i. HasEncoding both_grammars link (link_view i)) c.in-Arch.is h))
