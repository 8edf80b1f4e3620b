-- This file proves that the linking section of an object file decodes to its items in the standard's
-- grammar.
use Rattle.wasm_base.proofs.Words.{◌≡◌, ◌∙◌, List, [], ◌++◌, ℕ, sym, subst, append-nil, refl, Format, HasEncodings, minimal, padded, standard, any_bytes, any_bytes_whole, size_prefixed, size_prefixed_unambiguous, u32_unambiguous, Decodes, Rejects, RejectsWhole, IsIncludedIn}
use Rattle.wasm_base.specs.Decoding.{DecodesUniquely}
use Rattle.wasm_custom.specs.Linking.{LinkItem, linking_payload, object_payload}
use Rattle.wasm_custom.proofs.LinkLaws.{object_section}

-- A minimal encoding of the builders' grammar is one of the standard's.
in_standard : {X : Type 0} {F : Format X} → HasEncodings F → IsIncludedIn (F minimal) (F standard)
in_standard h s x k = h.included padded standard tt s x (h.included minimal padded tt s x k)

module _ {bytes encoding : List ℕ} {x : List LinkItem} (e : bytes ≡ encoding) (u : DecodesUniquely (size_prefixed object_payload) encoding x) where
  -- The bytes are a size and a payload.
  any : Decodes (size_prefixed any_bytes) standard bytes u.encodes.content []
  any = record {
    front = encoding;
    split = e ∙ sym (append-nil encoding);
    encodes = record { front = u.encodes.front; content = u.encodes.content; joined = u.encodes.joined; size = in_standard u32_unambiguous.encodings u.encodes.front _ u.encodes.size; encodes = refl };
  }

  pub has_payload : Rejects (size_prefixed any_bytes) standard bytes → ⊥
  has_payload none = none.none u.encodes.content [] any

  module _ {payload rest : List ℕ} (d : Decodes (size_prefixed any_bytes) standard bytes payload rest) where
    pub payload_decodes : IsIncludedIn (object_payload standard) (linking_payload standard) → RejectsWhole linking_payload standard payload → ⊥
    payload_decodes object_is none =
        let same = (size_prefixed_unambiguous any_bytes_whole).unique standard d.front any.front rest [] payload u.encodes.content d.encodes any.encodes (sym d.split ∙ any.split) in
        let inside = in_standard object_section.whole.encodings u.encodes.content x u.encodes.encodes in
        none.none x (object_is payload x (subst (λ z. object_payload standard z x) (sym same.0) inside))

    pub payload_is : {items : List LinkItem} → IsIncludedIn (linking_payload standard) (object_payload standard) → linking_payload standard payload items → items ≡ x
    payload_is {items} is_object h =
        let k = d.encodes in
        let whole : size_prefixed object_payload standard d.front items = record { front = k.front; content = k.content; joined = k.joined; size = k.size; encodes = is_object k.content items (subst (λ z. linking_payload standard z items) (sym k.encodes) h) } in
        (u.unique standard [] items rest (record { front = d.front; split = append-nil encoding ∙ sym e ∙ d.split; encodes = whole })).0
