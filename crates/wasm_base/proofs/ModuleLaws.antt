-- This file proves that a module decodes to its sections, as ids and payloads.
use Rattle.wasm_base.proofs.Std.{◌≡◌, ℕ, List, [], ◌∷◌, ◌++◌, refl, sym, ap, subst, ◌∙◌, append_assoc, append-nil, flat_map}
use Rattle.wasm_base.specs.{Mode, minimal, Format, byte, any_bytes, size_prefixed, members, any_section, wasm_module, header, DecodesWhole, Unambiguous, UnambiguousWhole, HasMinimalEncodings}
use Rattle.wasm_base.specs.{BeginsWith, size_prefixed_encoding, IsSizePrefixed, any_section_encoding, IsEncodableAnySection, module_encoding, IsEncodableModule, DecodesOneMore}
use Rattle.wasm_base.proofs.FormatLaws.{begins_then, pair_unambiguous, size_prefixed_unambiguous, byte_unambiguous, any_bytes_whole, members_whole, prefixed_whole}
use Rattle.wasm_base.proofs.EncodingLaws.{decodes_whole, size_prefixed_encodes, members_encodes}

pub section_unambiguous : Unambiguous any_section
section_unambiguous = pair_unambiguous byte_unambiguous (size_prefixed_unambiguous any_bytes_whole)

byte-begins : BeginsWith (λ b. Unit {0}) byte
byte-begins mode s b h = (b, [], h, tt)

pub module_whole : UnambiguousWhole wasm_module
module_whole = prefixed_whole header (members_whole (λ b. Unit {0}) (begins_then (λ b. Unit {0}) byte-begins) section_unambiguous)

pub module_empty : DecodesWhole wasm_module header []
module_empty = decodes_whole {F = wasm_module} module_whole ((tt, []), refl, record { front = header; back = []; joined = sym (append-nil header); first = (refl, refl); second = refl })

members_push : {X : Type 0} (F : Format X) (mode : Mode) (s t : List ℕ) (xs : List X) (x : X) → members F mode s xs → F mode t x → members F mode (s ++ t) (xs ++ x ∷ [])
members_push F mode s t [] x h g = (t, [], ap (λ z. z ++ t) h ∙ sym (append-nil t), g, refl)
members_push F mode s t (y ∷ xs) x h g = (h.0, h.1 ++ t, ap (λ z. z ++ t) h.2 ∙ append_assoc h.0 h.1 t, h.3, members_push F mode h.1 t xs x h.4 g)

-- A module that gains a section encodes one more.
more_encodes : (old : List ℕ) (sections : List (ℕ × List ℕ)) (id : ℕ) (encoding payload : List ℕ) → wasm_module minimal old sections → IsSizePrefixed encoding payload
    → wasm_module minimal (old ++ id ∷ encoding) (sections ++ (id, payload) ∷ [])
more_encodes old sections id encoding payload h sized =
    let front = h.2.front in
    let back = h.2.back in
    let said : members any_section minimal back sections = subst (λ xs. members any_section minimal back xs) h.1 h.2.second in
    let section : any_section minimal (id ∷ encoding) (id, payload) =
    record {
      front = id ∷ [];
      back = encoding;
      joined = refl;
      first = refl;
      second = subst (λ s. size_prefixed any_bytes minimal s payload) (sym sized.is) (size_prefixed_encodes any_bytes payload payload sized.encodable refl);
    } in (
      (tt, sections ++ (id, payload) ∷ []),
      refl,
      record {
        front = front;
        back = back ++ id ∷ encoding;
        joined = ap (λ s. s ++ id ∷ encoding) h.2.joined ∙ append_assoc front back (id ∷ encoding);
        first = (h.2.first.0, refl);
        second = members_push any_section minimal back (id ∷ encoding) sections (id, payload) said section;
      },
    )

pub one_more_section : (Payload : List ℕ → Type 0) (id : ℕ) (encoding old new : List ℕ) → new ≡ old ++ id ∷ encoding → ((payload : List ℕ) → Payload payload → IsSizePrefixed encoding payload) → DecodesOneMore Payload id old new
one_more_section Payload id encoding old new e sized = record {
  for_each = λ sections payload read pays.
      subst (λ s. DecodesWhole wasm_module s (sections ++ (id, payload) ∷ [])) (sym e)
      (decodes_whole {F = wasm_module} module_whole (more_encodes old sections id encoding payload read.encodes (sized payload pays)));
}

-- ---- the encoding of a module

any_section-encodes : (section : ℕ × List ℕ) → IsEncodableAnySection section → any_section minimal (any_section_encoding section) section
any_section-encodes section encodable = record {
  front = section.0 ∷ [];
  back = size_prefixed_encoding section.1;
  joined = refl;
  first = refl;
  second = size_prefixed_encodes any_bytes section.1 section.1 encodable refl;
}

pub module_encoding-encodes : (sections : List (ℕ × List ℕ)) → IsEncodableModule sections → wasm_module minimal (module_encoding sections) sections
unfolding module_encoding
module_encoding-encodes sections encodable = (
  (tt, sections),
  refl,
  record {
    front = header;
    back = flat_map any_section_encoding sections;
    joined = refl;
    first = (refl, refl);
    second = members_encodes any_section IsEncodableAnySection any_section_encoding any_section-encodes sections encodable;
  },
)

pub module_encoding-decodes : (sections : List (ℕ × List ℕ)) → IsEncodableModule sections → DecodesWhole wasm_module (module_encoding sections) sections
module_encoding-decodes sections encodable = decodes_whole {F = wasm_module} module_whole (module_encoding-encodes sections encodable)

pub module-encodings : HasMinimalEncodings wasm_module IsEncodableModule module_encoding
module-encodings = record { encodes = module_encoding-encodes }
