-- This file re-exports what the proofs of this crate's functions use.
pub use Rattle.wasm_base.proofs.SectionLaws.{items, padded_unambiguous, payloads, unambiguous}
pub use Rattle.wasm_base.proofs.Words.{Appends, IsEncodableSection, arith, contains_more, counted_decodes, eqb-false, eqb-true, fault_stays, if_err_more, if_ok_more, on_ok, refl, subst, sym}
pub use Rattle.wasm_base.proofs.Words.{unambiguous_padded, vec_len, ◌∙◌, ◌≡◌}
pub use Rattle.wasm_types.proofs.DecodeFields.{field_decodes, field_none, mutable_none, storage_none, val_rejects}
pub use Rattle.wasm_types.proofs.DecodeItems.{alone_none, final_list_decodes, final_list_empty, final_list_none, final_list_none_after, final_none, group_decodes, group_none, open_none, prefix_listed}
pub use Rattle.wasm_types.proofs.DecodeItems.{prefix_standard, single_decodes, single_none, sub_decodes, sub_none, sub_none_after, supertypes_decodes, supertypes_none, supertypes_none_after}
pub use Rattle.wasm_types.proofs.DecodeItems.{type_none}
pub use Rattle.wasm_types.proofs.DecodeShapes.{array_none, composite_decodes, composite_none, composite_none_after, cont_none, func_none, index_decodes, index_none, index_none_after, no_index_none}
pub use Rattle.wasm_types.proofs.DecodeShapes.{shared_decodes, shared_none, shared_none_after, structure_none, unshared_decodes, unshared_none}
pub use Rattle.wasm_types.proofs.MinimalTypes.{each_appended, group_appended, types_encodable}
pub use Rattle.wasm_types.proofs.TypeLaws.{parts, sections}
pub use Rattle.wasm_types.specs.{IsEncodableEntry, after_descriptor, after_shape, entry_encoding}
