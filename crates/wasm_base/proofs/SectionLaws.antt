-- This file proves the laws of the sections of a kind from the laws of its items.
use Rattle.wasm_base.specs.{Kind, ItemLaws, Format, size_prefixed, vec, ContainsMore, ContainsMorePadded, DecodesPayloads, padded, Unambiguous, UnambiguousWhole, UnambiguousPadded, HasEncodableSize}
use Rattle.wasm_base.proofs.BaseLaws.{unambiguous_padded}
use Rattle.wasm_base.proofs.FormatLaws.{size_prefixed_unambiguous, vec_unambiguous, whole_from_unique}
use Rattle.wasm_base.proofs.ContentsLaws.{contains_more as more, contains_more_padded, plain_more_padded}
use Rattle.wasm_base.proofs.Payloads.{payload-decodes}
use Rattle.wasm_base.proofs.Std.{List}

-- The laws of a kind's sections: the payload is unambiguous as a whole, and items have their laws.
-- Possibly padded items are held as `ContainsMorePadded` states.
pub record SectionLaws {Record Item : Type 0} (kind : Kind Record Item) (payload : Format (List Item)) : Type 0 where
  pub whole : UnambiguousWhole payload
  pub items : ItemLaws kind
  pub held_padded : ContainsMorePadded kind

module _ {Record Item : Type 0} {kind : Kind Record Item} (laws : ItemLaws kind) (included : (given : Record) → kind.IsWellFormed given → kind.IsWellFormedPadded given) where
  -- For records without expressions, being well-formed does not depend on padding.
  pub sized_laws : {payload : Format (List Item)} → UnambiguousWhole payload → ((given : Record) → kind.IsWellFormedPadded given → kind.IsWellFormed given) → SectionLaws kind payload
  sized_laws whole plain = record { whole = whole; items = laws; held_padded = plain_more_padded laws included plain }

  -- The laws of sections of counted items.
  pub counted_laws : ((given : Record) → kind.IsWellFormedPadded given → kind.IsWellFormed given) → SectionLaws kind (vec kind.format)
  counted_laws plain = sized_laws (whole_from_unique (vec_unambiguous laws.unique)) plain

  -- The laws of sections of counted items whose expressions may be padded.
  pub counted_laws_padded : ((given : Record) → kind.IsWellFormedPadded given → HasEncodableSize (kind.encoding given) → kind.format padded (kind.encoding given) (kind.normal_form given)) → SectionLaws kind (vec kind.format)
  counted_laws_padded encodes = record { whole = whole_from_unique (vec_unambiguous laws.unique); items = laws; held_padded = contains_more_padded kind laws included encodes }

-- ---- each law of a kind

module _ {Record Item : Type 0} {kind : Kind Record Item} where
  pub held : ContainsMore kind
  held = more kind

  module _ {payload : Format (List Item)} (laws : SectionLaws kind payload) where
    pub unambiguous : Unambiguous (size_prefixed payload)
    unambiguous = size_prefixed_unambiguous laws.whole

    pub padded_unambiguous : UnambiguousPadded (size_prefixed payload)
    padded_unambiguous = unambiguous_padded unambiguous

    pub items : ItemLaws kind
    items = laws.items

    pub held_padded : ContainsMorePadded kind
    held_padded = laws.held_padded

    pub payloads : DecodesPayloads payload
    payloads = payload-decodes laws.whole
