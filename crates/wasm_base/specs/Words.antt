-- This file re-exports definitions that the specs of dependent crates use.
pub use Rattle.wasm_base.specs.Calls.{DecodesBack, DecodesBackPadded}
pub use Rattle.wasm_base.specs.Continuing.{RejectsWhole}
pub use Rattle.wasm_base.specs.Cow.{utf8_of, items_of}
pub use Rattle.wasm_base.specs.Decoding.{BeginsWith, Decodes, DecodesUniquely, DecodesWhole, Rejects, Unambiguous}
pub use Rattle.wasm_base.specs.Encodings.{HasEncodableSize, IsEncodableVec, IsSizePrefixed, any_section_encoding, little_endian_encoding, longest, optional_encoding, size_prefixed_encoding}
pub use Rattle.wasm_base.specs.Encodings.{vec_encoding}
unfoldable pub use Rattle.wasm_base.specs.Encodings.{module_encoding}
pub use Rattle.wasm_base.specs.Entries.{ContainsItems, Kind}
pub use Rattle.wasm_base.specs.Formats.{Format, IsVector, Then, after, after_byte, by_mode, any_bytes, any_section, byte, choice, coded, ended, fixed, header, impossible, is_given, just}
pub use Rattle.wasm_base.specs.Formats.{little_endian, mapped, members, name, numbered, one_of, optional, pair, prefixed, raw_bytes, s32, s33, s64, size_prefixed, such, tagged, twos_complement, u32}
pub use Rattle.wasm_base.specs.Formats.{u64, vec, vector_format, wasm_module, when}
pub use Rattle.wasm_base.specs.Laws.{IsEncodableName, IsSigned32InRange, IsSigned64InRange, IsUnsignedInRange}
pub use Rattle.wasm_base.specs.Modules.{SectionDecoding, decoding_of, padded_decoding_of, raw_decoding}
pub use Rattle.wasm_base.specs.Numbers.{Grammar, Mode, admitted, builders, is_admitted, minimal, minimal_of, padded, padded_of, signed_encoding, standard, standard_minimal, unsigned_encoding}
pub use Rattle.wasm_base.specs.Pieces.{IsEncodableSection, joined}
unfoldable pub use Rattle.wasm_base.specs.Pieces.{section_encoding}
pub use Rattle.wasm_base.specs.SectionId.{number_of}
pub use Rattle.wasm_base.specs.Types.{FUNCREF, IsHeap, IsRef, IsVal, heap_encoding, heap_type, ref_encoding, ref_type, unshared, val_encoding, val_type}
