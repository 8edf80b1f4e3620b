-- This file re-exports the names that the proofs of dependent crates use.
pub use Rattle.std.proofs.Common.{Bool, Bor, Decides, Err, IsUtf8, List, MatchBool, None, Ok, Option, Result, Some, [], add-one, ap, append-nil, append_assoc, ap₂, arith, cond, drop, eq-eqb, eqb}
pub use Rattle.std.proofs.Common.{false, get_or, if◌then◌else◌, inl, inr, leb, length, length-append, lit<, lit≤, ltb, map, min, neg_ℤ, negsuc, not, option_map, pos, refl, replicate, rules}
pub use Rattle.std.proofs.Common.{slice_index_or, string_bytes, subst, suc, sym, take, to_z-of_z, true, unwrap_or, vec_capacity, vec_len, zero, ℕ, ℤ, ◌%◌, ◌&&◌, ◌*◌, ◌++◌, ◌+◌, ◌-◌, ◌/◌, ◌<◌, ◌==◌}
pub use Rattle.std.proofs.Common.{◌^◌, ◌||◌, ◌∙◌, ◌∷◌, ◌≡◌, ◌≢◌, ◌≤◌, ◌⊎◌}
pub use Rattle.std.proofs.Math.Nat.{div-div-eq-div-mul, pow-suc}
pub use Rattle.std.proofs.Math.Seq.{drop-cons, take-suc}
pub use Rattle.std.proofs.lemmas.Bool.{and_cases, and_parts, cases_lt, eqb-false, eqb-true, le-leb, le-ltb, leb-false, leb-true, lt-leb, lt-ltb, ltb-true, ne_eqb, not-true}
pub use Rattle.std.proofs.lemmas.Bool.Decides.{nat_tests, not_from_Decides}
pub use Rattle.std.proofs.lemmas.Grind.{common_steps, flat_map-append}
pub use Rattle.std.proofs.lemmas.Int.{ints}
pub use Rattle.std.proofs.lemmas.Iterator.{YieldsList, items_from_drains}
pub use Rattle.std.proofs.lemmas.Iterator.Adapters.{YieldsList-from_vec}
pub use Rattle.std.proofs.lemmas.Iterator.Consumers.{YieldsList-at, YieldsList-end, YieldsList-turn}
pub use Rattle.std.proofs.lemmas.Iterator.Splits.{YieldsList-from_str_split}
pub use Rattle.std.proofs.lemmas.List.{append_cancel_left, drop-drop, drop_all, drop_at, drop_more, flat_map_more, get_or-map, length-drop, length-map, length-take-le, map-append, map-id}
pub use Rattle.std.proofs.lemmas.List.{replicate_more, take-append-drop, take_all, take_at, take_more}
pub use Rattle.std.proofs.lemmas.List.Elements.{All-append, All-cons, All-from_get_or, All-from_recursion, All-head, All-map, All-more, All-nil, All-push, All-tail, filter-append}
pub use Rattle.std.proofs.lemmas.List.Folds.{flat_map-map}
pub use Rattle.std.proofs.lemmas.List.FromFn.{get_or-map-range_with_len}
pub use Rattle.std.proofs.lemmas.List.Splits.{slice_split_first, slice_split_none}
pub use Rattle.std.proofs.lemmas.List.Sums.{fails_before_first}
pub use Rattle.std.proofs.lemmas.Nat.{or_comm, or_shifted}
pub use Rattle.std.proofs.lemmas.Option.{get_or_from_slice_get, slice_get-get_or, slice_get_within}
pub use Rattle.std.proofs.lemmas.Slice.Eq.{bytes_eq-Decides, slice_eq-Decides}
pub use Rattle.std.proofs.lemmas.Str.{IsUtf8-nil}
pub use Rattle.std.proofs.lemmas.Str.Parse.{numerals_by_value, parse_plain, parse_signed_minus, parse_signed_plain, tells_all_ascii_digits}
pub use Rattle.std.proofs.lemmas.Str.Pattern.{drop_at_char, starts_char, strip_suffix_char}
pub use Rattle.std.specs.Array.Iter.{array_into_iter_items, array_steps, array_steps_back}
pub use Rattle.std.specs.Cmp.{unsigned_Decides}
pub use Rattle.std.specs.Int.{byte_at, bytes_low_first, cast_unsigned, to_le_bytes, w128, w32, w64}
pub use Rattle.std.specs.Int.RustNames.{bit_or}
pub use Rattle.std.specs.Io.KnownBytes.{Consumes}
pub use Rattle.std.specs.Iterator.{Count, Drains, Yields, size}
pub use Rattle.std.specs.Iterator.Adapters.{copied_source, copied_steps}
pub use Rattle.std.specs.Iterator.Runs.{EveryRun, ItemsAre, ItemsAreReversed}
pub use Rattle.std.specs.List.{All, AllByRecursion, AllZip, Contains, after_first, before_first, flat_map, position_or_len, range_with_len, slice_get, slice_split}
pub use Rattle.std.specs.Prelude.{IfOk, IfSome, IsOk, IsOkAnd, MatchOption, MatchResult, OnErr, OnOk, codes, filter, nat_lt, ⊤, ◌↔◌}
pub use Rattle.std.specs.Result.{OkIff}
pub use Rattle.std.specs.Slice.Iter.{iter_rest, iter_steps}
pub use Rattle.std.specs.Str.{all_ascii_digits, bytes_eq}
pub use Rattle.std.specs.Str.Lines.{strip_carriage_return}
pub use Rattle.std.specs.Str.Parse.{ParsesSigned, ParsesUnsigned, digits_value}
pub use Rattle.std.specs.Str.Pattern.{CutsPrefixes, FindsCharPrefix, IsTrimStartMatches}
pub use Rattle.std.specs.Vec.Iter.{into_iter_items, into_iter_len, into_iter_steps}
pub use Rattle.wasm_base.proofs.AfterLaws.{after_encodes, after_whole, just_unambiguous}
pub use Rattle.wasm_base.proofs.BaseLaws.{custom_unambiguous, name_unambiguous, s32_unambiguous, s33_unambiguous, s64_unambiguous, size_prefixed_bytes_unambiguous, u64_unambiguous, unambiguous_padded}
pub use Rattle.wasm_base.proofs.BaseLaws.{unambiguous_whole_padded, vec_bytes_unambiguous, vec_u32_unambiguous, vector_unambiguous}
pub use Rattle.wasm_base.proofs.Calls.{adds_item, adds_item_padded, adds_items, adds_items_padded, adds_raw, adds_raw_padded, ascii, contains_padded, each, encoded_padded, encodes_items}
pub use Rattle.wasm_base.proofs.Calls.{cut_extends, cut_gains, cut_none, cut_same, gains_joined}
pub use Rattle.wasm_base.proofs.Calls.{encodes_items_padded, finished, gains_items, gains_items_padded, gains_raw, gains_section, gains_section_padded, new_module, new_section}
pub use Rattle.wasm_base.proofs.ContentsLaws.{contains_more}
pub use Rattle.wasm_base.proofs.Cut.{joined_push}
pub use Rattle.wasm_base.proofs.DecodeFixed.{are_bytes, eight_read, four_read}
pub use Rattle.wasm_base.proofs.DecodeNumbers.{u32_byte}
pub use Rattle.wasm_base.proofs.DecodePlain.{fitting_appended, heap_is, index_is, little_endian_below, name_appended, ref_is, u32_appended, val_type_is, values_choice, vec_is}
pub use Rattle.wasm_base.proofs.DecodeSizePrefixed.{filled_decodes, filled_none, filled_rejects, none_left}
pub use Rattle.wasm_base.proofs.DecodeTypes.{after_decodes, after_rejects, no_index_byte, ref_type_decodes, ref_type_none, ref_type_rejects, tagged_after, tagged_after_none, val_type_decodes}
pub use Rattle.wasm_base.proofs.DecodeTypes.{val_type_none, val_type_rejects}
pub use Rattle.wasm_base.proofs.DecodeVectors.{HasRead, loop_decodes, loop_rejects, vec_rejects_count}
pub use Rattle.wasm_base.proofs.DecodeWhole.{HasMembers, empty_not, member_shorter, members_begun, members_continued, members_done, members_fail, whole_decodes, whole_more, whole_rejects}
pub use Rattle.wasm_base.proofs.DecodedValues.{behind_encodable, content_encoded, counted_encodable, left_encoded, mapped_encoded, member_encoded, members_encoded, name_encodable, prefixed_encoded}
pub use Rattle.wasm_base.proofs.DecodedValues.{right_encoded, stays_short, tagged_encoded}
pub use Rattle.wasm_base.proofs.DecodingSteps.{decodes_same, front_and_rest, mapped_decodes, mapped_rejects, members_start, members_step, such_decodes, such_none, such_rejects, then_decodes}
pub use Rattle.wasm_base.proofs.DecodingSteps.{then_rejects_first, then_rejects_second}
pub use Rattle.wasm_base.proofs.EncodingLaws.{decodes_uniquely, decodes_uniquely_padded, decodes_whole, encodes_in, joined_encodes, little_endian_encodes, members_encodes, name_encodes, s32_encodes}
pub use Rattle.wasm_base.proofs.EncodingLaws.{s33_encodes, s64_encodes, section_unique, section_unique_padded, size_prefixed_encodes, size_prefixed_in, tagged_encodes, u32_encodes, u32_in}
pub use Rattle.wasm_base.proofs.EncodingLaws.{u64_encodes, vec_encodes, vec_of_pieces}
pub use Rattle.wasm_base.proofs.EntryLaws.{content_encodable, counted_decodes, entries_encodes, pieces_encodes}
pub use Rattle.wasm_base.proofs.Faults.{fault_stays, if_err_more, if_ok_more, memory_implies, memory_stays}
pub use Rattle.wasm_base.proofs.FormatLaws.{AllChoices, AllValues, BeginNeverAlike, DeterminesTag, IsInjective, Then_unambiguous, any_bytes_whole, begin_apart, begins_coded, begins_fixed}
pub use Rattle.wasm_base.proofs.FormatLaws.{begins_mapped, begins_one_of, begins_weaker, by_mode_unambiguous, begins_such, begins_then, byte_unambiguous, choice_begins, choice_determines, choice_of}
pub use Rattle.wasm_base.proofs.FormatLaws.{choice_tags, choice_unambiguous, coded_unambiguous, either_unambiguous, ended_unambiguous, fixed_unambiguous, impossible_unambiguous}
pub use Rattle.wasm_base.proofs.FormatLaws.{little_endian_unambiguous, mapped_unambiguous, mapped_whole, member_at, members_go_on, members_whole, none_in_common, one_of_unambiguous}
pub use Rattle.wasm_base.proofs.FormatLaws.{optional_unambiguous, pair_unambiguous, pair_whole, prefixed_unambiguous, raw_bytes_unambiguous, same_pair, size_prefixed_of, size_prefixed_unambiguous}
pub use Rattle.wasm_base.proofs.FormatLaws.{such_unambiguous, tagged_at, tagged_unambiguous, then_at, values_mapped, values_one_of, values_tagged, vec_of_one, vec_unambiguous, when_unambiguous}
pub use Rattle.wasm_base.proofs.FormatLaws.{whole_from_unique, AllDetermine}
pub use Rattle.wasm_base.proofs.GroupLaws.{if_err_any}
pub use Rattle.wasm_base.proofs.JoinedLaws.{cut_encodable, cut_encoding, payload_joined, store_decodes}
pub use Rattle.wasm_base.proofs.KnownLengths.{array_items, copied_items, drained_array, drained_copied, drained_vec}
pub use Rattle.wasm_base.proofs.MinimalEncodings.{all_appended, built_appended, built_encoding, canonical_appended, cut_off, encoding_appended, front_appended, front_encoded, fewer_appended, front_then, mapped_appended, members_more, next_appended}
pub use Rattle.wasm_base.proofs.MinimalEncodings.{no_members_appended, nothing_appended, pair_appended, prefixed_appended, records_appended, size_prefixed_appended, tagged_appended, then_appended}
pub use Rattle.wasm_base.proofs.MinimalEncodings.{vec_appended}
pub use Rattle.wasm_base.proofs.ModuleLaws.{module_encoding-decodes, section_unambiguous}
pub use Rattle.wasm_base.proofs.NumberEncodings.{groups_encoding-last, one_group, two_groups}
pub use Rattle.wasm_base.proofs.NumberLaws.{groups_apart, u32_small, u32_unambiguous}
pub use Rattle.wasm_base.proofs.Outcomes.{on_ok, on_ok_both}
pub use Rattle.wasm_base.proofs.PartLaws.{bytes_encodes, flag_encodes, front_name_encodes, numbered_unambiguous, optional_determines, optional_encodes, pair_encodes, pair_in, prefixed_encodes}
pub use Rattle.wasm_base.proofs.PartLaws.{tagged_begins}
pub use Rattle.wasm_base.proofs.Payloads.{counted-payload, custom-payload, payload-decodes, u32-payload}
pub use Rattle.wasm_base.proofs.RejectionLaws.{one_item, rejects_padded}
pub use Rattle.wasm_base.proofs.SectionLaws.{SectionLaws, counted_laws, counted_laws_padded, sized_laws}
pub use Rattle.wasm_base.proofs.SkipLaws.{HasSkipped, skipped_decodes, skipped_rejects}
pub use Rattle.wasm_base.proofs.Tags.{IsOther, choice_other, code_decodes, code_none, code_unknown, fixed_decodes, impossible_rejects, no_bytes, no_choice, not_begun, one_of_left, one_of_rejects}
pub use Rattle.wasm_base.proofs.Tags.{one_of_right, optional_none, tagged_decodes, tagged_none, tagged_rejects}
pub use Rattle.wasm_base.proofs.RefTypeLaws.{IsRefByte, ref_begins, ref_unambiguous}
pub use Rattle.wasm_base.proofs.TypeLaws.{IsTypeByte, begins_s33, heap_unambiguous, types_apart}
pub use Rattle.wasm_base.proofs.ValTypeLaws.{IsValByte, heap-encodings, ref-encodings, val-encodings, val_begins, val_unambiguous}
pub use Rattle.wasm_base.proofs.Yielded.{All-last, Yields-push}
pub use Rattle.wasm_base.specs.Calls.{Adds, AddsEach, Appends, DecodesBack, DecodesBackBoth, DecodesBackPadded, DecodesOneMore}
pub use Rattle.wasm_base.specs.Continuing.{Continues, RejectsWhole}
pub use Rattle.wasm_base.specs.Decoding.{BeginsWith, Decodes, DecodesUniquely, DecodesWhole, DeterminesPrefix, HasEncodings, HasMinimalEncodings, Rejects, Unambiguous, UnambiguousPadded, IsIncludedIn}
pub use Rattle.wasm_base.specs.Decoding.{ShrinksTo, UnambiguousWhole, UnambiguousWholePadded}
pub use Rattle.wasm_base.specs.Encodings.{HasEncodableSize, IsEncodableAnySection, IsEncodableModule, IsEncodableVec, IsSizePrefixed, any_section_encoding, little_endian_encoding, longest}
pub use Rattle.wasm_base.specs.Encodings.{optional_encoding, raw_sized, size_prefixed_encoding, vec_encoding}
unfoldable pub use Rattle.wasm_base.specs.Encodings.{module_encoding}
pub use Rattle.wasm_base.specs.Entries.{ContainsItems, ContainsPadded, ItemLaws, Kind, counted_format, entry_encoding}
pub use Rattle.wasm_base.specs.Formats.{Format, IsVector, Then, after, after_byte, by_mode, any_bytes, any_section, byte, choice, coded, custom, ended, fixed, header, impossible, is_given, just}
pub use Rattle.wasm_base.specs.Formats.{little_endian, mapped, members, name, numbered, one_of, optional, pair, prefixed, raw_bytes, s32, s33, s64, size_prefixed, such, tagged, twos_complement, u32}
pub use Rattle.wasm_base.specs.Formats.{u64, vec, vector_format, wasm_module, when}
pub use Rattle.wasm_base.specs.Groups.{HasGroups, groups}
pub use Rattle.wasm_base.specs.Iterators.{AppendsVec}
pub use Rattle.wasm_base.specs.Laws.{IsEncodableName, IsUnsignedInRange, RejectsAllAfterPadded}
pub use Rattle.wasm_base.specs.Minimal.{AppendsMinimal, Grammars, HasEncoding, Includes, IsFrontOf, IsMinimalEncoding, both_grammars, builders_alone}
pub use Rattle.wasm_base.specs.Modules.{DecodesPayloads, DecodesSections, GainsDecoding, GainsDecodingPadded, SectionDecoding, decoding_of, padded_decoding_of}
pub use Rattle.wasm_base.specs.Numbers.{AreGroups, IsOfBuilders, IsUnsignedSize, Grammar, Mode, admitted, builders, groups_sum, is_admitted, minimal, minimal_of, padded, padded_of, standard}
pub use Rattle.wasm_base.specs.Numbers.{standard_minimal, signed_encoding, unsigned_encoding}
pub use Rattle.wasm_base.specs.Once.{AddsOnce, AddsOnceTo, GivesPair, GivesTriple, GivesVec, YieldsEncodable}
pub use Rattle.wasm_base.specs.Pieces.{IsEncodableSection, SectionPayload, joined, section_sized}
unfoldable pub use Rattle.wasm_base.specs.Pieces.{section_encoding}
pub use Rattle.wasm_base.specs.Types.{FUNCREF, IsIndexByte, IsRef, IsVal, heap_type, ref_encoding, ref_type, unshared, val_encoding, val_type}
