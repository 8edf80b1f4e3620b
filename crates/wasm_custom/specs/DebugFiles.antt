-- This file defines the custom sections that refer to debug information elsewhere: a source map, a
-- file of DWARF, and the identity of the build. Tool conventions, Debugging; source maps are
-- those of the specification "Source map format".
use Rattle.std.specs.Prelude.{◌≡◌, List, ℕ, IsUtf8, codes}
use Rattle.wasm_base.specs.Words.{Format, name, any_bytes, size_prefixed, SectionDecoding}
use Rattle.wasm_custom.specs.Customs.{named_section, named_payload, decoding_as}

-- The section name `sourceMappingURL`.
abbrev pub source_map_name : List ℕ
source_map_name = codes "sourceMappingURL"

-- The section name `external_debug_info`.
abbrev pub debug_file_name : List ℕ
debug_file_name = codes "external_debug_info"

-- The section name `build_id`.
abbrev pub build_id_name : List ℕ
build_id_name = codes "build_id"

-- The payload of the section of a source map: its name, and the URL as a name.
abbrev pub source_map_payload : Format (List ℕ)
source_map_payload = named_payload source_map_name name

-- The payload of the section of a file of debug information: its name, and the path as a name.
abbrev pub debug_file_payload : Format (List ℕ)
debug_file_payload = named_payload debug_file_name name

-- The payload of the section of a build's identity: its name, and size-prefixed bytes.
abbrev pub build_id_payload : Format (List ℕ)
build_id_payload = named_payload build_id_name (size_prefixed any_bytes)

-- The section of a source map, without its id.
abbrev pub source_map_section : Format (List ℕ)
source_map_section = named_section source_map_name name

-- The section of a file of debug information, without its id.
abbrev pub debug_file_section : Format (List ℕ)
debug_file_section = named_section debug_file_name name

-- The section of a build's identity, without its id.
abbrev pub build_id_section : Format (List ℕ)
build_id_section = named_section build_id_name (size_prefixed any_bytes)

-- The string in the section is the given one, and is UTF-8.
abbrev pub SaysText : List ℕ → List ℕ → Type 0
SaysText given said = IsUtf8 said × (said ≡ given)

-- The section that decodes to the source map at this URL.
abbrev pub source_map_decoding : List ℕ → SectionDecoding
source_map_decoding url = decoding_as source_map_payload url

-- The section that decodes to the file of debug information at this path.
abbrev pub debug_file_decoding : List ℕ → SectionDecoding
debug_file_decoding path = decoding_as debug_file_payload path

-- The section that decodes to the build of this identity.
abbrev pub build_id_decoding : List ℕ → SectionDecoding
build_id_decoding id = decoding_as build_id_payload id
