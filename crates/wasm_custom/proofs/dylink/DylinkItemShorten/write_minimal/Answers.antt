use Rattle.wasm_custom.proofs.Common.{map, subst, HasEncoding, both_grammars, dylink_item, dylink_view, exports_encoded, imports_encoded, memory_encoded, needed_encoded, paths_encoded}
use Rattle.wasm_custom.proofs.dylink.DylinkItemShorten.write_minimal.Goals as goal

pub returns-in-Needed-clause-too_long : goal.returns-in-Needed-clause-too_long
returns-in-Needed-clause-too_long g c = λ h. c.append_vector.ensures.too_long (needed_encoded (map (λ n. n.now) c.in-Needed.names.items) (subst (λ i. HasEncoding both_grammars dylink_item (dylink_view i)) c.in-Needed.is h))

pub returns-in-RuntimePath-clause-too_long : goal.returns-in-RuntimePath-clause-too_long
returns-in-RuntimePath-clause-too_long g c = λ h. c.append_vector-in-RuntimePath.ensures.too_long (paths_encoded (map (λ n. n.now) c.in-RuntimePath.paths.items) (subst (λ i. HasEncoding both_grammars dylink_item (dylink_view i)) c.in-RuntimePath.is h))

pub returns-in-Memory-clause-too_long : goal.returns-in-Memory-clause-too_long
returns-in-Memory-clause-too_long g c = λ h. c.append_memory.ensures.too_long (memory_encoded _ (subst (λ i. HasEncoding both_grammars dylink_item (dylink_view i)) c.in-Memory.is h))

pub returns-in-ExportFlags-clause-too_long : goal.returns-in-ExportFlags-clause-too_long
returns-in-ExportFlags-clause-too_long g c = λ h. c.append_vector-in-ExportFlags.ensures.too_long (exports_encoded _ (subst (λ i. HasEncoding both_grammars dylink_item (dylink_view i)) c.in-ExportFlags.is h))

pub returns-in-ImportFlags-clause-too_long : goal.returns-in-ImportFlags-clause-too_long
returns-in-ImportFlags-clause-too_long g c = λ h. c.append_vector-in-ImportFlags.ensures.too_long (imports_encoded _ (subst (λ i. HasEncoding both_grammars dylink_item (dylink_view i)) c.in-ImportFlags.is h))
