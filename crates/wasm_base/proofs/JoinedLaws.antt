-- This file proves that entries that are joined decode as the pieces of which they consist.
use Rattle.wasm_base.proofs.Std.{◌≡◌, ◌≤◌, ◌++◌, ◌∙◌, List, ℕ, length, sym, ap, ap₂, subst}
use Rattle.wasm_base.specs.{unsigned_encoding, longest, joined, section_encoding, HasEncodableSize, IsEncodableSection, DecodesUniquely, DecodesUniquelyPadded, DecodesBackBoth}
use Rattle.wasm_base.specs.{Kind, counted_format, ItemLaws, ContainsItems, ContainsPadded, Joined, Cut, StoreModel, IsEncodableJoined, joined_payload, joined_encoding, size_prefixed_encoding}
use Rattle.wasm_base.proofs.EntryLaws.{counted_decodes}

-- The payload is that of the pieces.
pub payload_joined : {P : List (List ℕ) → Type 0} (j : Joined) (cut : Cut P j) → unsigned_encoding (length cut.pieces) ++ joined cut.pieces ≡ joined_payload j
payload_joined j cut = ap₂ (λ n b. unsigned_encoding n ++ b) cut.number cut.content

-- A section of the pieces fits if that of the entries does.
pub cut_encodable : {P : List (List ℕ) → Type 0} (j : Joined) (cut : Cut P j) → IsEncodableJoined j → IsEncodableSection cut.pieces
cut_encodable j cut fits = record { count = subst (λ n. n ≤ longest) (sym cut.number) fits.count; size = subst HasEncodableSize (sym (payload_joined j cut)) fits.size }

-- A section of the pieces has the encoding of the entries.
pub cut_encoding : {P : List (List ℕ) → Type 0} (j : Joined) (cut : Cut P j) → section_encoding cut.pieces ≡ joined_encoding j
unfolding section_encoding joined_encoding
cut_encoding j cut = ap size_prefixed_encoding (payload_joined j cut)

-- A store decodes to the items that its entries contain, if entries with a property can be cut into
-- pieces that have it.
pub store_decodes : {M Record Item : Type 0} (model : StoreModel M) (encoding : M → List ℕ) (kind : Kind Record Item) → ItemLaws kind → (s t : M) → s ≡ t → IsEncodableJoined (model.joins s) → encoding s ≡ joined_encoding (model.joins s)
    → ((items : List Item) → model.holds (λ pieces. ContainsItems kind pieces items) s → Cut (λ pieces. ContainsItems kind pieces items) (model.joins s))
    → ((items : List Item) → model.holds (λ pieces. ContainsPadded kind.format pieces items) s → Cut (λ pieces. ContainsPadded kind.format pieces items) (model.joins s))
    → DecodesBackBoth (counted_format kind.format) (λ items. model.holds (λ pieces. ContainsItems kind pieces items) t) (λ items. model.holds (λ pieces. ContainsPadded kind.format pieces items) t) (encoding t)
store_decodes model encoding kind laws s t same fits is says padded = rw (← same) (record {
  plain = record {
    for_each = λ items h. let cut = says items h in
        subst (λ b. DecodesUniquely (counted_format kind.format) b items) (cut_encoding _ cut ∙ sym is) ((counted_decodes kind laws cut.pieces (cut_encodable _ cut fits)).plain.for_each items cut.are);
  };
  padded = record {
    for_each = λ items h. let cut = padded items h in
        subst (λ b. DecodesUniquelyPadded (counted_format kind.format) b items) (cut_encoding _ cut ∙ sym is) ((counted_decodes kind laws cut.pieces (cut_encodable _ cut fits)).padded.for_each items cut.are);
  };
})
