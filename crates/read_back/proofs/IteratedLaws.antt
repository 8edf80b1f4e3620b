-- This file proves that the offsets of a section lead to its payload.
use Rattle.wasm_base.proofs.Words.{◌≡◌, ℕ, ◌+◌, ◌-◌, List, ◌∷◌, ◌++◌, length, take, drop, refl, sym, ap, ap₂, ◌∙◌, arith, append_assoc, drop_at, drop-drop, take_at}
use Rattle.std.proofs.lemmas.List.{length-append}
use Rattle.wasm_reader.specs.Words.{IsSection, Located, bytes_of}
use Rattle.wasm_reader.specs.Iterating.{end_of}

-- A slice of the module by the range of a section is the section's payload.
pub payload_sliced : (bytes : List ℕ) (start end : ℕ) (s : Located) (rest : List ℕ) → drop s.offset bytes ≡ bytes_of s.section ++ rest → IsSection s.section → start + length s.section.payload ≡ end_of s → end ≡ end_of s → take (end - start) (drop start bytes) ≡ s.section.payload
payload_sliced bytes start end s rest e i a b =
    let f = i.contains in
    let front = s.section.id ∷ f.front in
    let split : drop s.offset bytes ≡ front ++ (s.section.payload ++ rest) = e ∙ ap (λ z. (s.section.id ∷ z) ++ rest) (f.joined ∙ ap (λ z. f.front ++ z) f.encodes) ∙ append_assoc front s.section.payload rest in
    let at : start ≡ s.offset + length front = omega (arith, a, ap length f.joined, length-append f.front f.content, ap length f.encodes) in
    let size : end - start ≡ length s.section.payload = omega (arith, a, b) in
    ap₂ take size (ap (λ n. drop n bytes) at ∙ sym (drop-drop (length front) s.offset bytes) ∙ ap (drop (length front)) split ∙ drop_at front (s.section.payload ++ rest) (length front) refl) ∙ take_at s.section.payload rest (length s.section.payload) refl
