-- This file proves how custom sections of one value are encoded, decoded and minimized.
use Rattle.wasm_base.proofs.Words.{◌≡◌, ℕ, List, ◌++◌, length, IsUtf8, refl, sym, subst, arith, length-append, DecodesBack, Format, Mode, name, any_bytes, just, size_prefixed, minimal}
use Rattle.wasm_base.proofs.Words.{unsigned_encoding, Unambiguous, UnambiguousWhole, Decodes, Rejects, RejectsWhole, DecodesUniquely, size_prefixed_encoding, HasEncodableSize, name_unambiguous}
use Rattle.wasm_base.proofs.Words.{any_bytes_whole, ascii, whole_from_unique, size_prefixed_unambiguous, decodes_uniquely, name_encodes, size_prefixed_encodes, after_whole, AppendsMinimal}
use Rattle.wasm_base.proofs.Words.{HasEncoding}
use Rattle.wasm_base.proofs.Words.{Grammars}
use Rattle.wasm_custom.specs.{named_section, named_payload, named_encoding, IsEncodableNamed, source_map_name, debug_file_name, build_id_name, source_map_payload, debug_file_payload, build_id_payload}
use Rattle.wasm_custom.specs.{source_map_section, debug_file_section, build_id_section, SaysText}
use Rattle.wasm_custom.proofs.CustomLaws.{named_unambiguous, named_encodes, data_encodable, named_appended, named_encoded, named_encodable}
use Rattle.wasm_custom.proofs.DecodeNamed.{named_fills, named_none, named_rejects}

-- ---- sections of one value

-- If the section's size is at most 2^32 - 1, so is the number of its bytes.
value_encodable : (n bytes : List ℕ) → IsEncodableNamed n (size_prefixed_encoding bytes) → HasEncodableSize bytes
value_encodable n bytes encodable = omega (arith, data_encodable n (size_prefixed_encoding bytes) encodable, length-append (unsigned_encoding (length bytes)) bytes)

-- The section of a UTF-8 string decodes to that string alone.
pub text_back : (n given : List ℕ) → IsUtf8 n → IsEncodableNamed n (size_prefixed_encoding given) → DecodesBack (named_section n name) (SaysText given) (named_encoding n (size_prefixed_encoding given))
text_back n given utf8 encodable = record {
  for_each = λ said says.
      let named = subst (λ s. name minimal (size_prefixed_encoding s) said) says.1 (name_encodes said says.0 (subst HasEncodableSize (sym says.1) (value_encodable n given encodable))) in
      decodes_uniquely {F = named_section n name} (named_unambiguous n (whole_from_unique name_unambiguous)) (named_encodes minimal tt n name (size_prefixed_encoding given) said utf8 encodable named);
}

-- The section of size-prefixed bytes decodes to the bytes alone.
pub bytes_back : (n given : List ℕ) → IsUtf8 n → IsEncodableNamed n (size_prefixed_encoding given) → DecodesBack (named_section n (size_prefixed any_bytes)) (λ said. said ≡ given) (named_encoding n (size_prefixed_encoding given))
bytes_back n given utf8 encodable = record {
  for_each = λ said e.
      subst (λ x. DecodesUniquely (named_section n (size_prefixed any_bytes)) (named_encoding n (size_prefixed_encoding given)) x) (sym e)
      (decodes_uniquely {F = named_section n (size_prefixed any_bytes)} (named_unambiguous n (whole_from_unique (size_prefixed_unambiguous any_bytes_whole)))
      (named_encodes minimal tt n (size_prefixed any_bytes) (size_prefixed_encoding given) given utf8 encodable (size_prefixed_encodes any_bytes given given (value_encodable n given encodable) refl)));
}

-- ---- decoding

pub single_fills : {m : Mode} {X : Type 0} (n : List ℕ) (F : Format X) (bytes rest : List ℕ) (x : X) → Decodes (just n name) m bytes tt rest → F m rest x → named_payload n F m bytes x
single_fills n F bytes rest x h g = named_fills n F bytes rest x h g

pub single_none : {m : Mode} {X : Type 0} (n : List ℕ) (F : Format X) (bytes : List ℕ) → Rejects (just n name) m bytes → RejectsWhole (named_payload n F) m bytes
single_none n F bytes none = named_none n F bytes none

pub single_rejects : {m : Mode} {X : Type 0} (n : List ℕ) (F : Format X) (bytes rest : List ℕ) → Decodes (just n name) m bytes tt rest → RejectsWhole F m rest → RejectsWhole (named_payload n F) m bytes
single_rejects n F bytes rest h none = named_rejects n F bytes rest h none

pub ruleset single_steps = (single_fills, single_none, single_rejects)

-- ---- the one minimal encoding of a decoded value

pub single_appended : {k : Grammars} {X : Type 0} (n : List ℕ) (F : Format X) (x : X) (old middle new : List ℕ) → middle ≡ old ++ size_prefixed_encoding n → AppendsMinimal k F x middle new → AppendsMinimal k (named_payload n F) x old new
single_appended n F x old middle new e a = named_appended n F x e a

pub single_encoded : {k : Grammars} {X : Type 0} (n : List ℕ) (F : Format X) (x : X) → HasEncoding k (named_payload n F) x → HasEncoding k F x
single_encoded n F x h = named_encoded n F x h

pub single_name_encodable : {k : Grammars} {X : Type 0} (n : List ℕ) (F : Format X) (x : X) → HasEncoding k (named_payload n F) x → HasEncodableSize n
single_name_encodable n F x h = named_encodable n F x h

-- ---- source maps, files of debug information, and identities of builds

pub source_map_whole : UnambiguousWhole source_map_payload
source_map_whole = after_whole source_map_name name_unambiguous (whole_from_unique name_unambiguous)

pub debug_file_whole : UnambiguousWhole debug_file_payload
debug_file_whole = after_whole debug_file_name name_unambiguous (whole_from_unique name_unambiguous)

pub build_id_whole : UnambiguousWhole build_id_payload
build_id_whole = after_whole build_id_name name_unambiguous (whole_from_unique (size_prefixed_unambiguous any_bytes_whole))

pub source_map_unambiguous : Unambiguous source_map_section
source_map_unambiguous = size_prefixed_unambiguous source_map_whole

pub debug_file_unambiguous : Unambiguous debug_file_section
debug_file_unambiguous = size_prefixed_unambiguous debug_file_whole

pub build_id_unambiguous : Unambiguous build_id_section
build_id_unambiguous = size_prefixed_unambiguous build_id_whole

pub source_map_back : (url : List ℕ) → IsEncodableNamed source_map_name (size_prefixed_encoding url) → DecodesBack source_map_section (SaysText url) (named_encoding source_map_name (size_prefixed_encoding url))
source_map_back url encodable = text_back source_map_name url (ascii {bytes = source_map_name} refl) encodable

pub debug_file_back : (path : List ℕ) → IsEncodableNamed debug_file_name (size_prefixed_encoding path) → DecodesBack debug_file_section (SaysText path) (named_encoding debug_file_name (size_prefixed_encoding path))
debug_file_back path encodable = text_back debug_file_name path (ascii {bytes = debug_file_name} refl) encodable

pub build_id_back : (id : List ℕ) → IsEncodableNamed build_id_name (size_prefixed_encoding id) → DecodesBack build_id_section (λ said. said ≡ id) (named_encoding build_id_name (size_prefixed_encoding id))
build_id_back id encodable = bytes_back build_id_name id (ascii {bytes = build_id_name} refl) encodable
