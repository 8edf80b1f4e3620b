-- This file defines the producers section, its encoding and its format. Tool conventions, Producers
-- Section.
use Rattle.std.specs.Prelude.{ℕ, List, ◌++◌, codes, map}
use Rattle.std.specs.Borrow.{Bor}
use Rattle.std.specs.declared.vec.Vec.{Vec}
use Rattle.wasm_base.specs.Words.{Kind, ContainsItems, Format, name, pair, vec, IsEncodableName, size_prefixed_encoding, vec_encoding, IsEncodableVec, SectionDecoding}
use Rattle.wasm_custom.specs.Customs.{decoding_as}
use Rattle.wasm_custom.specs.Entries.{counted_payload}
use Rattle.wasm_custom.specs.Lists.{IsListOf}

-- A versioned name: a name and its version.
abbrev pub Producer : Type 0
Producer = List ℕ × List ℕ

-- The encoding of a versioned name: the name and the version.
abbrev pub producer_encoding : Producer → List ℕ
producer_encoding v = size_prefixed_encoding v.0 ++ size_prefixed_encoding v.1

-- The name and the version are UTF-8 of at most 2^32 - 1 bytes.
abbrev pub IsProducer : Producer → Type 0
IsProducer v = IsEncodableName v.0 × IsEncodableName v.1

-- A field: its name and its values.
abbrev pub Field : Type 0
Field = List ℕ × List Producer

-- The encoding of a field: its name, and the vector of its values.
abbrev pub field_encoding : Field → List ℕ
field_encoding f = size_prefixed_encoding f.0 ++ vec_encoding producer_encoding f.1

-- The field is well-formed: names and versions are UTF-8 of at most 2^32 - 1 bytes, and there are
-- at most 2^32 - 1 values.
abbrev pub IsField : Field → Type 0
IsField f = IsEncodableName f.0 × IsEncodableVec IsProducer f.1

-- A versioned name: a name and a version, which is encoded as a name too.
abbrev pub producer : Format Producer
producer = pair name name

-- A field: a name, and a vector of versioned names.
abbrev pub field : Format Field
field = pair name (vec producer)

-- The kind of fields of a producers section.
abbrev pub field_items : Kind Field Field
field_items = record { encoding = field_encoding; IsWellFormed = IsField; IsWellFormedPadded = IsField; normal_form = λ field. field; format = field }

-- The section name `producers`.
abbrev pub producers_name : List ℕ
producers_name = codes "producers"

-- ---- the producers section

-- The pieces are the encodings of these versioned names.
abbrev pub AreProducers : List (List ℕ) → List Producer → Type 0
AreProducers = IsListOf producer_encoding IsProducer

-- The pieces encode these fields.
abbrev pub ContainsFields : List (List ℕ) → List Field → Type 0
ContainsFields = ContainsItems field_items

-- The payload of a producers section: its name, and a vector of fields.
abbrev pub producers_payload : Format (List Field)
producers_payload = counted_payload producers_name field

-- The producers section that decodes to these fields.
abbrev pub producers_decoding : List Field → SectionDecoding
producers_decoding fields = decoding_as producers_payload fields

-- ---- decoded fields

-- The view of a decoded field.
abbrev pub field_view : {A : Type 0} → Bor (List ℕ) × Vec (Bor (List ℕ) × Bor (List ℕ)) A → Field
field_view f = (f.0.now, map (λ v. (v.0.now, v.1.now)) f.1.items)
