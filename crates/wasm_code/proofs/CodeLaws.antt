-- This file proves that a code section decodes alone to its raw bodies, and to the bodies that they
-- encode.
use Rattle.wasm_base.proofs.Words.{ℕ, ◌≤◌, List, [], ◌∷◌, length, map, refl, sym, subst, arith, length-append, AllZip, Mode, minimal, padded, unsigned_encoding, Format, any_bytes, size_prefixed, vec}
use Rattle.wasm_base.proofs.Words.{Unambiguous, UnambiguousPadded, UnambiguousWholePadded, DecodesPayloads, longest, size_prefixed_encoding, joined, section_encoding, IsEncodableSection}
use Rattle.wasm_base.proofs.Words.{size_prefixed_bytes_unambiguous, unambiguous_padded, unambiguous_whole_padded, vec_unambiguous, size_prefixed_unambiguous, whole_from_unique, counted-payload}
use Rattle.wasm_base.proofs.Words.{content_encodable, size_prefixed_in, section_unique, section_unique_padded, ◌≡◌, ◌∙◌, DecodesUniquely, cut_encodable, cut_encoding}
use Rattle.wasm_base.specs.Decoding.{DecodesUniquelyPadded}
use Rattle.wasm_base.specs.Stores.{StoreModel, Cut, IsEncodableJoined, joined_encoding, pieces_model}
use Rattle.wasm_code.specs.{expression, body, raw_code, code_section, Body, ContainsBodies, EncodesBodies, EncodesBodiesPadded, DecodesCode}
use Rattle.wasm_code.proofs.ExpressionLaws.{expression_unambiguous}
use Rattle.wasm_code.proofs.BodyLaws.{body_whole, size_prefixed_body_unambiguous}

pub raw_code_unambiguous : Unambiguous raw_code
raw_code_unambiguous = size_prefixed_unambiguous (whole_from_unique (vec_unambiguous size_prefixed_bytes_unambiguous))

pub code_section_unambiguous : Unambiguous code_section
code_section_unambiguous = size_prefixed_unambiguous (whole_from_unique (vec_unambiguous size_prefixed_body_unambiguous))

-- If the total size fits, size-prefixed raw bytes encode the values that the raw bytes encode.
frames_encodes : {X : Type 0} (mode : Mode) (F : Format X) (raw : List (List ℕ)) (xs : List X) → length (joined (map size_prefixed_encoding raw)) ≤ longest → AllZip (F mode) raw xs → AllZip (size_prefixed F mode) (map size_prefixed_encoding raw) xs
frames_encodes mode F [] [] h g = tt
frames_encodes mode F [] (x ∷ xs) h g = absurd g
frames_encodes mode F (bytes ∷ raw) [] h g = absurd g
frames_encodes mode F (bytes ∷ raw) (x ∷ xs) h g =
    let rest = joined (map size_prefixed_encoding raw) in
    let whole = length-append (size_prefixed_encoding bytes) rest in
    let sized = length-append (unsigned_encoding (length bytes)) bytes in
    (size_prefixed_in mode F bytes x (omega (arith, h, whole, sized)) g.0, frames_encodes mode F raw xs (omega (arith, h, whole)) g.1)

-- Entries that are size-prefixed raw bodies encode the values that the raw bodies encode.
sized : {X : Type 0} (mode : Mode) (F : Format X) (entries raw : List (List ℕ)) (xs : List X) → ContainsBodies entries raw → IsEncodableSection entries → AllZip (F mode) raw xs → AllZip (size_prefixed F mode) entries xs
sized mode F entries raw xs e encodable encodes = subst (λ es. AllZip (size_prefixed F mode) es xs) (sym e) (frames_encodes mode F raw xs (content_encodable (map size_prefixed_encoding raw) (subst IsEncodableSection e encodable)) encodes)

same_bytes : (raw : List (List ℕ)) → AllZip (any_bytes minimal) raw raw
same_bytes [] = tt
same_bytes (bytes ∷ raw) = (refl, same_bytes raw)

pieces_decode : (entries : List (List ℕ)) → IsEncodableSection entries → DecodesCode pieces_model.holds entries (section_encoding entries)
pieces_decode entries encodable = record {
  raw = record { for_each = λ raw e. section_unique {F = size_prefixed any_bytes} raw_code_unambiguous entries raw encodable (sized minimal any_bytes entries raw raw e encodable (same_bytes raw)) };
  bodies = record { for_each = λ xs h. section_unique {F = size_prefixed body} code_section_unambiguous entries xs encodable (sized minimal body entries h.raw xs h.held encodable h.encodes) };
  padded = record { for_each = λ xs h. section_unique_padded {F = size_prefixed body} code_section_unambiguous entries xs encodable (sized padded body entries h.raw xs h.held encodable h.encodes) };
}

-- A store decodes to the bodies that its entries are, if entries with a property can be cut into
-- pieces that have it.
pub code_decodes : {M : Type 0} (model : StoreModel M) (encoding : M → List ℕ) (s t : M) → s ≡ t → IsEncodableJoined (model.joins s) → encoding s ≡ joined_encoding (model.joins s)
    → ((raw : List (List ℕ)) → model.holds (λ entries. ContainsBodies entries raw) s → Cut (λ entries. ContainsBodies entries raw) (model.joins s))
    → ((bodies : List Body) → model.holds (λ entries. EncodesBodies entries bodies) s → Cut (λ entries. EncodesBodies entries bodies) (model.joins s))
    → ((bodies : List Body) → model.holds (λ entries. EncodesBodiesPadded entries bodies) s → Cut (λ entries. EncodesBodiesPadded entries bodies) (model.joins s))
    → DecodesCode model.holds t (encoding t)
code_decodes model encoding s t same fits is raw bodies loose = rw (← same) (record {
  raw = record {
    for_each = λ xs h. let cut = raw xs h in
        subst (λ b. DecodesUniquely raw_code b xs) (cut_encoding _ cut ∙ sym is) ((pieces_decode cut.pieces (cut_encodable _ cut fits)).raw.for_each xs cut.are);
  };
  bodies = record {
    for_each = λ xs h. let cut = bodies xs h in
        subst (λ b. DecodesUniquely code_section b xs) (cut_encoding _ cut ∙ sym is) ((pieces_decode cut.pieces (cut_encodable _ cut fits)).bodies.for_each xs cut.are);
  };
  padded = record {
    for_each = λ xs h. let cut = loose xs h in
        subst (λ b. DecodesUniquelyPadded code_section b xs) (cut_encoding _ cut ∙ sym is) ((pieces_decode cut.pieces (cut_encodable _ cut fits)).padded.for_each xs cut.are);
  };
})

-- ---- payloads

pub raw_code-payload : DecodesPayloads (vec (size_prefixed any_bytes))
raw_code-payload = counted-payload size_prefixed_bytes_unambiguous

pub code_section-payload : DecodesPayloads (vec (size_prefixed body))
code_section-payload = counted-payload size_prefixed_body_unambiguous

pub ruleset payloads = (raw_code-payload, code_section-payload)

-- ---- padded LEB128

pub padded-expression : UnambiguousPadded expression
padded-expression = unambiguous_padded expression_unambiguous

pub padded-body : UnambiguousWholePadded body
padded-body = unambiguous_whole_padded body_whole

pub padded-size_prefixed : UnambiguousPadded (size_prefixed body)
padded-size_prefixed = unambiguous_padded size_prefixed_body_unambiguous

pub padded-raw_code : UnambiguousPadded raw_code
padded-raw_code = unambiguous_padded raw_code_unambiguous

pub padded-code_section : UnambiguousPadded code_section
padded-code_section = unambiguous_padded code_section_unambiguous

pub ruleset padded_laws = (padded-expression, padded-body, padded-size_prefixed, padded-raw_code, padded-code_section)
