-- This file re-exports what the proofs of this crate's functions use.
pub use Rattle.wasm_base.proofs.Words.{AppendsMinimal, HasSkipped, List, Some, ap, arith, eqb-false, eqb-true, fault_stays, filled_decodes, filled_none, filled_rejects, header, if_err_more, length}
pub use Rattle.wasm_base.proofs.Words.{map, memory_stays, none_left, on_ok, padded, refl, size_prefixed, subst, suc, sym, vec, vec_unambiguous, whole_decodes, whole_more, whole_rejects, ℕ, ◌++◌, ◌+◌}
pub use Rattle.wasm_base.proofs.Words.{◌-◌, ◌∙◌, ◌≡◌, ◌≤◌}
pub use Rattle.wasm_code.proofs.Words.{body, size_prefixed_body_unambiguous}
pub use Rattle.wasm_custom.proofs.Words.{hints_view, instance_view}
pub use Rattle.wasm_custom.specs.Words.{dylink_view, feature_view}
pub use Rattle.wasm_reader.proofs.Causes.{cause_stays}
pub use Rattle.wasm_reader.proofs.DecodeModules.{HasListed, line_decodes, line_rejects, listed_done, listed_step, listed_stops, sized_rejects}
pub use Rattle.wasm_reader.proofs.DecodeOutlines.{HasOutlined, counted, no_header, no_id, not_size_prefixed, outlined_ends, outlined_none, outlined_step}
pub use Rattle.wasm_reader.proofs.DecodeSections.{section_none, section_rejects, shorter}
pub use Rattle.wasm_reader.proofs.IteratingLaws.{end_stays, id_ahead, more_ahead, next_error, next_section, payload_ahead}
pub use Rattle.wasm_reader.proofs.KeptOffsets.{found_more, moved_of, or_left, or_right, such_of, tally_more}
pub use Rattle.wasm_reader.proofs.KindLaws.{items_appended, row, uncounted}
pub use Rattle.wasm_reader.proofs.MinimalModules.{after_id, gains, gains_same, is_change_encoding, keeps_offsets, loses_at, rewrites_below, rewrites_longer, rewrites_rest, rewrites_start}
pub use Rattle.wasm_reader.proofs.MinimalModules.{rewrites_step, rewrites_stop, stays_in, stops_at, whole_size_prefixed}
pub use Rattle.wasm_reader.proofs.MinimalSections.{shortened}
pub use Rattle.wasm_reader.specs.{Contents, CoreInstances, Dylink, EndsAt, Hints, grammars_of, Rewrites, Shortens, StopsAt, TargetFeatures, ahead, contains_offsets, content, contents_of, keeps, kind_in}
pub use Rattle.wasm_reader.specs.{section_of}
pub use Rattle.wasm_reader.specs.declared.whole.Target.TheVariants.{CodeAndData, Module, Relocated}
