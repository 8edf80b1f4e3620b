-- This file proves that tag types are unambiguous.
use Rattle.wasm_base.proofs.Words.{Mode, ◌≡◌, [], ◌∷◌, refl, ap, ◌≢◌, ℕ, List, subst, ItemLaws, u32, coded, vec, byte, pair, minimal, unsigned_encoding, Unambiguous, Decodes, Rejects}
use Rattle.wasm_base.proofs.Words.{coded_unambiguous, mapped_unambiguous, pair_unambiguous, AllValues, u32_unambiguous, u32_encodes, pair_encodes, SectionLaws, counted_laws, mapped_decodes}
use Rattle.wasm_base.proofs.Words.{mapped_rejects, code_decodes, code_none, code_unknown}
use Rattle.wasm_sections.specs.{tag_code, tag_encoding, IsTag, tag_of, tag_type, tag_items}
use Rattle.wasm_sections.specs.declared.tag.TagType.{TagType}
use Rattle.wasm_sections.specs.declared.tag.TagKind.{TagKind}
use Rattle.wasm_sections.specs.declared.tag.TagKind.TheVariants.{Exception}

back : (kind : TagKind) → Exception ≡ kind
back Exception = refl

pub tag_kind_unambiguous : Unambiguous (coded tag_code)
tag_kind_unambiguous = coded_unambiguous tag_code (λ b. Exception) back

pub tag_unambiguous : Unambiguous tag_type
tag_unambiguous = mapped_unambiguous tag_of (λ x y e. ap (λ t. (t.kind, t.func_type_idx)) e) (pair_unambiguous tag_kind_unambiguous u32_unambiguous)

pub tag_encodes : (t : TagType) → IsTag t → tag_type minimal (tag_encoding t) t
tag_encodes t plain =
    ((t.kind, t.func_type_idx), refl, pair_encodes (coded tag_code) u32 (tag_code t.kind ∷ []) (unsigned_encoding t.func_type_idx) t.kind t.func_type_idx refl (u32_encodes t.func_type_idx plain))

pub tag_laws : ItemLaws tag_items
tag_laws = record { unique = tag_unambiguous; encodes = λ t plain encodable. tag_encodes t plain }

pub tags_section : SectionLaws tag_items (vec tag_type)
tags_section = counted_laws tag_laws (λ given plain. plain) (λ given plain. plain)

-- ---- decoding tag types

pub tag_kind_decodes : {m : Mode} (bytes rest : List ℕ) (b : ℕ) → Decodes byte m bytes b rest → b ≡ 0 → Decodes (coded tag_code) m bytes Exception rest
tag_kind_decodes bytes rest b h e = code_decodes tag_code bytes rest b Exception h e

pub tag_kind_none : {m : Mode} (bytes : List ℕ) → Rejects byte m bytes → Rejects (coded tag_code) m bytes
tag_kind_none = code_none tag_code

pub tag_kind_unknown : {m : Mode} (bytes rest : List ℕ) (b : ℕ) → Decodes byte m bytes b rest → b ≢ 0 → Rejects (coded tag_code) m bytes
tag_kind_unknown bytes rest b h p = code_unknown tag_code bytes rest b h other
  where
    other : (k : TagKind) → b ≢ tag_code k
    other Exception e = p e

pub ruleset tag_kind_steps = (tag_kind_decodes)

pub tag_decodes : {m : Mode} (bytes rest : List ℕ) (k : TagKind) (n : ℕ) → Decodes (pair (coded tag_code) u32) m bytes (k, n) rest → Decodes tag_type m bytes (record { kind = k; func_type_idx = n }) rest
tag_decodes bytes rest k n h = mapped_decodes tag_of h

pub tag_none : {m : Mode} (bytes : List ℕ) → Rejects (pair (coded tag_code) u32) m bytes → Rejects tag_type m bytes
tag_none bytes n = mapped_rejects tag_of n

pub ruleset tag_steps = (tag_decodes)

-- ---- decoded tag types are well-formed

pub tag_is : AllValues IsTag tag_type
tag_is mode s t h = subst IsTag h.1 h.2.second.range
