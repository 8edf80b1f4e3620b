-- This file proves that type indices are unambiguous.
use Rattle.wasm_base.proofs.Words.{◌≡◌, ℕ, false, arith, ◌+◌, ◌/◌, ◌%◌, ◌<◌, ◌≤◌, [], ◌∷◌, ItemLaws, unsigned_encoding, u32, vec, u32_unambiguous, two_groups, u32_encodes, SectionLaws, counted_laws}
use Rattle.wasm_sections.specs.{function_items}

pub function_laws : ItemLaws function_items
function_laws = record { unique = u32_unambiguous; encodes = λ index plain encodable. u32_encodes index plain }

pub functions_section : SectionLaws function_items (vec u32)
functions_section = counted_laws function_laws (λ given plain. plain) (λ given plain. plain)

-- For the tactics: an index of two bytes.
pub two_bytes : (n : ℕ) → 128 ≤ n → n < 16384 → unsigned_encoding n ≡ (n % 128 + 128) ∷ n / 128 ∷ []
two_bytes n high low = two_groups false 128 n (omega arith) high (omega arith)
