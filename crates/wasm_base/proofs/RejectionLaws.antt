-- This file proves that certain bytes decode to no section.
use Rattle.wasm_base.proofs.Std.{◌≡◌, ℕ, ◌<◌, List, ◌∷◌, ◌++◌, length, arith}
use Rattle.wasm_base.specs.{counted_format, Format, vec, RejectsAllAfterPadded, Mode, IsOfBuilders, minimal, padded, standard_minimal, standard, Decodes, Unambiguous}
use Rattle.wasm_base.proofs.FormatLaws.{size_prefixed_of, vec_of_one}
use Rattle.wasm_base.proofs.NumberLaws.{u32_small}

-- If no value has a padded encoding there, none has a minimal one.
pub rejects_padded : {X : Type 0} {F : Format X} (encoding : List ℕ) → Unambiguous F → ((after rest : List ℕ) (x : X) → Decodes F padded (encoding ++ after) x rest → ⊥) → RejectsAllAfterPadded F encoding
rejects_padded {X} {F} encoding k none = record { none = λ mode of after. record { none = λ x rest h. none after rest x (in_padded mode of (encoding ++ after) rest x h) } }
  where
    in_padded : (mode : Mode) → IsOfBuilders mode → (bytes rest : List ℕ) (x : X) → Decodes F mode bytes x rest → Decodes F padded bytes x rest
    in_padded minimal of bytes rest x h = record { front = h.front; split = h.split; encodes = k.encodings.included minimal padded tt h.front x h.encodes }
    in_padded padded of bytes rest x h = h
    in_padded standard_minimal of bytes rest x h = absurd of
    in_padded standard of bytes rest x h = absurd of

-- The one item of a section whose size and count are one byte each has the remaining bytes as its
-- encoding.
pub one_item : {X : Type 0} {F : Format X} (size : ℕ) (content after rest s : List ℕ) (xs : List X) → size < 128 → length (1 ∷ content) ≡ size → (size ∷ 1 ∷ content) ++ after ≡ s ++ rest
    → counted_format F padded s xs → (x : X) × F padded content x
one_item {X} {F} size content after rest s xs low all e h =
    vec_of_one {F = F} padded content xs (u32_small padded 1 (omega arith)) (size_prefixed_of {F = vec F} padded size (1 ∷ content) after s rest xs (u32_small padded size low) all e h)
