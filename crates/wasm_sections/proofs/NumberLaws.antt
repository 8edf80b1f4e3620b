-- This file proves that a section of one number decodes to it alone.
use Rattle.wasm_base.proofs.Words.{◌≡◌, ℕ, ◌^◌, ◌<◌, sym, subst, DecodesBack, u32, size_prefixed, unsigned_encoding, Unambiguous, DecodesUniquely, size_prefixed_encoding, HasEncodableSize}
use Rattle.wasm_base.proofs.Words.{size_prefixed_unambiguous, whole_from_unique, u32_unambiguous, decodes_uniquely, size_prefixed_encodes, u32_encodes}

pub number_unambiguous : Unambiguous (size_prefixed u32)
number_unambiguous = size_prefixed_unambiguous (whole_from_unique u32_unambiguous)

pub number_unique : (n : ℕ) → n < 2 ^ 32 → HasEncodableSize (unsigned_encoding n) → DecodesBack (size_prefixed u32) (λ said. said ≡ n) (size_prefixed_encoding (unsigned_encoding n))
number_unique n range encodable = record {
  for_each = λ said e.
      subst (λ x. DecodesUniquely (size_prefixed u32) (size_prefixed_encoding (unsigned_encoding n)) x) (sym e)
      (decodes_uniquely {F = size_prefixed u32} number_unambiguous (size_prefixed_encodes u32 (unsigned_encoding n) n encodable (u32_encodes n range)));
}
