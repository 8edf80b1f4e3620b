-- This file re-exports what the proofs of this crate's functions use.
pub use Rattle.std.proofs.lemmas.Int.{to_z-of_z}
pub use Rattle.std.proofs.lemmas.List.{nil_from_length}
pub use Rattle.std.specs.Prelude.{All}
pub use Rattle.wasm_base.proofs.Words.{Consumes, DecodesWhole, Err, IsEncodableSection, List, Ok, ParsesSigned, ParsesUnsigned, Some, YieldsList-at, YieldsList-end, YieldsList-from_str_split}
pub use Rattle.wasm_base.proofs.Words.{YieldsList-turn, [], ap, ap₂, arith, codes, common_steps, false, get_or, length, lit<, on_ok, option_map, refl, rules, size_prefixed_encoding, slice_eq-Decides}
pub use Rattle.wasm_base.proofs.Words.{starts_char, string_bytes, strip_suffix_char, subst, sym, take, true, unsigned_Decides, wasm_module, ℕ, ◌++◌, ◌<◌, ◌∙◌, ◌∷◌, ◌≡◌, ◌≢◌}
pub use Rattle.wasm_code.proofs.Words.{drained_vec}
pub use Rattle.wasm_custom.proofs.Words.{subsection_encoding}
pub use Rattle.wasm_sections.proofs.Words.{active_encoding, adds_these}
pub use Rattle.wasm_sections.specs.Imports.{entity_encoding}
pub use Rattle.wasm_sections.specs.declared.import.EntityType.{EntityType}
pub use Rattle.wasm_tool.proofs.Answered.{not_none}
pub use Rattle.wasm_tool.proofs.LineLemmas.{line_is, lines_of-length, part_at, stripped, trimmed, within}
pub use Rattle.wasm_tool.proofs.Listings.{one_member}
pub use Rattle.wasm_tool.proofs.NumberLemmas.{decimal_of-parse, signed_of-parse}
pub use Rattle.wasm_tool.proofs.RecipeLemmas.{all_read, contains_more, explains, first_sections, follows_refused, module_decodes, module_encoding-contains, more_sections, of_header, on_module}
pub use Rattle.wasm_tool.proofs.RecipeLemmas.{recipe_encodable, refused_at_end, unused_at_end}
pub use Rattle.wasm_tool.proofs.SectionLemmas.{encodable_count, encodable_functions, encodable_import, encodable_name, encodable_segment, encodable_size_prefixed, names_count, names_name}
pub use Rattle.wasm_tool.proofs.SectionLemmas.{names_size_prefixed, puts_names, puts_no_names, puts_none, puts_some}
pub use Rattle.wasm_tool.proofs.VersionLemmas.{IsHeaderAfter, header_later, header_none, header_start, header_told, line_at, line_within, one_more_line}
pub use Rattle.wasm_tool.specs.{AreEncodableNames, ContainsLines, Follows, IsBlank, IsEmpty, IsEncodableRecipe, IsGood, IsModule, Lists, adds, counted_words, entity_of, entries_of, entry_of}
pub use Rattle.wasm_tool.specs.{entry_of_words, from_words, functions_encoding, import_entry, indices_of, left_locals, lines_of, lines_with, listing_of, name_entry, recipe_module, rest_of}
pub use Rattle.wasm_tool.specs.{sections_of, version_of, version_with, versioned_lines, words_of}
pub use Rattle.wasm_tool.specs.declared.version.Version.{Version}
pub use Rattle.wasm_tool.specs.declared.version.Version.TheVariants.{First}
