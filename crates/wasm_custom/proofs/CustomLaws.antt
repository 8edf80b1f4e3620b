-- This file proves that custom sections of a name are unambiguous.
use Rattle.wasm_base.proofs.Words.{◌≡◌, ℕ, ◌+◌, ◌≤◌, List, ◌++◌, length, IsUtf8, refl, sym, subst, arith, length-append, DecodesBack, DecodesBackBoth, Format, after, name, any_bytes, pair, custom}
use Rattle.wasm_base.proofs.Words.{just, Mode, minimal, padded, unsigned_encoding, IsOfBuilders, Unambiguous, UnambiguousWhole, DecodesUniquely, longest, size_prefixed_encoding, HasEncodableSize}
use Rattle.wasm_base.proofs.Words.{after_whole, after_encodes, name_unambiguous, custom_unambiguous, size_prefixed_unambiguous, encodes_in, decodes_uniquely, decodes_uniquely_padded, size_prefixed_in}
use Rattle.wasm_base.proofs.Words.{size_prefixed_encodes, pair_encodes, front_name_encodes, AppendsMinimal, HasEncoding, tagged_encoded, name_encodable, name_appended, tagged_appended}
use Rattle.wasm_base.proofs.Words.{Grammars}
use Rattle.wasm_custom.specs.{named_section, named_encoding, IsEncodableNamed, subsection_encoding, named_payload}

pub named_unambiguous : {X : Type 0} (n : List ℕ) {F : Format X} → UnambiguousWhole F → Unambiguous (named_section n F)
named_unambiguous n f = size_prefixed_unambiguous (after_whole n name_unambiguous f)

pub named_encodes : {X : Type 0} (mode : Mode) → IsOfBuilders mode → (n : List ℕ) (F : Format X) (content : List ℕ) (x : X) → IsUtf8 n → IsEncodableNamed n content → F mode content x → named_section n F mode (named_encoding n content) x
unfolding named_encoding
named_encodes mode of n F content x utf8 encodable h =
    size_prefixed_in mode (after n name F) (size_prefixed_encoding n ++ content) x encodable
    (after_encodes mode n name F (size_prefixed_encoding n) content x (encodes_in {F = name} name_unambiguous (front_name_encodes n content utf8 encodable) mode of) h)

-- The data are no longer than the section.
pub data_encodable : (n content : List ℕ) → IsEncodableNamed n content → length content ≤ 4294967295
data_encodable n content encodable = omega (arith, encodable, length-append (size_prefixed_encoding n) content)

-- The section of a name and data decodes to these alone.
pub custom_back : (n content : List ℕ) → IsEncodableNamed n content → DecodesBack custom (λ said. IsUtf8 n × (said ≡ (n, content))) (named_encoding n content)
unfolding named_encoding
custom_back n content encodable = record {
  for_each = λ said h.
      subst (λ x. DecodesUniquely custom (size_prefixed_encoding (size_prefixed_encoding n ++ content)) x) (sym h.1)
      (decodes_uniquely {F = custom} custom_unambiguous
      (size_prefixed_encodes (pair name any_bytes) (size_prefixed_encoding n ++ content) (n, content) encodable (pair_encodes name any_bytes (size_prefixed_encoding n) content n content (front_name_encodes n content h.0 encodable) refl)));
}

-- The section fits if the size that the call has computed fits.
pub encodable_of : (n content known given : List ℕ) (size : ℕ) → known ≡ n → given ≡ content → size ≡ length given → length (size_prefixed_encoding known) + size ≤ longest → IsEncodableNamed n content
encodable_of n content known given size e f l h =
    subst (λ z. IsEncodableNamed z content) e (subst (λ z. IsEncodableNamed known z) f (omega (arith, h, l, length-append (size_prefixed_encoding known) given)))

-- A section of raw bytes decodes to the value that they encode, possibly padded.
pub raw_back : (bytes : List ℕ) → DecodesBackBoth custom (custom minimal bytes) (custom padded bytes) bytes
raw_back bytes = record { plain = record { for_each = λ said h. decodes_uniquely {F = custom} custom_unambiguous h }; padded = record { for_each = λ said h. decodes_uniquely_padded {F = custom} custom_unambiguous h } }

-- The payload of a subsection fits if the subsection does.
pub content_encodable : (id : ℕ) (content : List ℕ) → HasEncodableSize (subsection_encoding id content) → HasEncodableSize content
content_encodable id content encodable = omega (arith, encodable, length-append (unsigned_encoding (length content)) content)

-- ---- the one minimal encoding of decoded custom sections

-- The encoding of a fixed value is that of the value.
pub just_appended : {k : Grammars} {X : Type 0} (F : Format X) (x : X) (old new : List ℕ) → AppendsMinimal k F x old new → AppendsMinimal k (just x F) tt old new
just_appended F x old new a = record { encoding = a.encoding; appended = a.appended; encodes = λ w q s h. a.encodes w q s h }

-- The encoding after a name is the name, then that of the value.
pub named_appended : {k : Grammars} {X : Type 0} (n : List ℕ) {old middle new : List ℕ} (G : Format X) (x : X) → middle ≡ old ++ size_prefixed_encoding n → AppendsMinimal k G x middle new → AppendsMinimal k (named_payload n G) x old new
named_appended n {old = old} {middle = middle} G x e a = tagged_appended (just n name) (λ u. G) (λ mode s z h. refl) (just_appended name n old middle (name_appended n old middle e)) a

pub named_encoded : {k : Grammars} {X : Type 0} (n : List ℕ) (G : Format X) (x : X) → HasEncoding k (named_payload n G) x → HasEncoding k G x
named_encoded n G x h = tagged_encoded (just n name) (λ u. G) tt x (λ mode s z h. refl) h

pub named_encodable : {k : Grammars} {X : Type 0} (n : List ℕ) (G : Format X) (x : X) → HasEncoding k (named_payload n G) x → HasEncodableSize n
named_encodable n G x h = let d = h.decoded in name_encodable n (record { grammar = h.grammar; included = h.included; bytes = d.2.front; decoded = d.2.first })
