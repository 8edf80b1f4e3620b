-- This file proves the laws of this crate's formats.
use Rattle.wasm_base.proofs.Std.{ℕ, List, [], ◌∷◌, ◌++◌, length, pos, refl, arith, ◌≡◌, ap, ℤ, negsuc}
use Rattle.std.specs.Prelude.{IsUtf8}
use Rattle.wasm_base.specs.{minimal, padded, unsigned_encoding, signed_encoding, Format, u32, u64, s32, s64, s33, little_endian, byte, any_bytes, members, pair, vec, size_prefixed, name, custom}
use Rattle.wasm_base.specs.{wasm_module, twos_complement, vector_format, IsVector, Unambiguous, UnambiguousWhole, HasMinimalEncodings, UnambiguousPadded, UnambiguousWholePadded, vec_encoding}
use Rattle.wasm_base.specs.{IsEncodableVec, size_prefixed_encoding, HasEncodableSize, little_endian_encoding, IsUnsignedInRange, IsByteNumberInRange, IsSigned32InRange, IsSigned64InRange}
use Rattle.wasm_base.specs.{IsEncodableName, custom_encoding, IsEncodableCustom}
use Rattle.wasm_base.proofs.NumberLaws.{unsigned_unambiguous, signed_unambiguous, u32_unambiguous}
use Rattle.wasm_base.proofs.FormatLaws.{little_endian_unambiguous, byte_unambiguous, any_bytes_whole, pair_whole, vec_unambiguous, size_prefixed_unambiguous, such_unambiguous}
use Rattle.wasm_base.proofs.EncodingLaws.{little_endian_encodes, u32_encodes, u64_encodes, s32_encodes, s64_encodes, s33_encodes, size_prefixed_encodes, name_encodes, vec_encodes}
use Rattle.wasm_base.proofs.ModuleLaws.{module_whole, module-encodings}

pub unambiguous_padded : {X : Type 0} {F : Format X} → Unambiguous F → UnambiguousPadded F
unambiguous_padded {F = F} f = record { unique = f.unique padded; included = f.encodings.included minimal padded tt }

pub unambiguous_whole_padded : {X : Type 0} {F : Format X} → UnambiguousWhole F → UnambiguousWholePadded F
unambiguous_whole_padded {F = F} f = record { whole = f.whole padded; included = f.encodings.included minimal padded tt }

-- ---- numbers

pub u64_unambiguous : Unambiguous u64
u64_unambiguous = unsigned_unambiguous 64 (omega arith)

pub s32_unambiguous : Unambiguous s32
s32_unambiguous = signed_unambiguous 32 (omega arith)

pub s64_unambiguous : Unambiguous s64
s64_unambiguous = signed_unambiguous 64 (omega arith)

pub s33_unambiguous : Unambiguous s33
s33_unambiguous =
    let f = signed_unambiguous 33 (omega arith) in
    record {
      unique = λ mode s t r q x y h g e. let a = f.unique mode s t r q (pos x) (pos y) h g e in (cc (a.0), a.1, a.2);
      encodings = record {
        one = λ w s t x h g. f.encodings.one w s t (pos x) h g;
        included = λ m n below s x h. f.encodings.included m n below s (pos x) h;
        shorter = λ w s x h. f.encodings.shorter w s (pos x) h;
      };
    }

pub u32-encodings : HasMinimalEncodings u32 (IsUnsignedInRange 32) unsigned_encoding
u32-encodings = record { encodes = u32_encodes }

pub u64-encodings : HasMinimalEncodings u64 (IsUnsignedInRange 64) unsigned_encoding
u64-encodings = record { encodes = u64_encodes }

pub s32-encodings : HasMinimalEncodings s32 IsSigned32InRange signed_encoding
s32-encodings = record { encodes = s32_encodes }

pub s64-encodings : HasMinimalEncodings s64 IsSigned64InRange signed_encoding
s64-encodings = record { encodes = s64_encodes }

pub s33-encodings : HasMinimalEncodings s33 (IsUnsignedInRange 32) (λ n. signed_encoding (pos n))
s33-encodings = record { encodes = s33_encodes }

pub ruleset numbers = (u32_unambiguous, u64_unambiguous, s32_unambiguous, s64_unambiguous, s33_unambiguous, u32-encodings, u64-encodings, s32-encodings, s64-encodings, s33-encodings)

-- ---- fixed bytes, names, vectors, size-prefixed bytes, modules

pub fixed_4_unambiguous : Unambiguous (little_endian 4)
fixed_4_unambiguous = little_endian_unambiguous 4

pub fixed_8_unambiguous : Unambiguous (little_endian 8)
fixed_8_unambiguous = little_endian_unambiguous 8

pub fixed_16_unambiguous : Unambiguous (little_endian 16)
fixed_16_unambiguous = little_endian_unambiguous 16

pub fixed_4-encodings : HasMinimalEncodings (little_endian 4) (IsByteNumberInRange 4) (little_endian_encoding 4)
fixed_4-encodings = record { encodes = little_endian_encodes 4 }

pub fixed_8-encodings : HasMinimalEncodings (little_endian 8) (IsByteNumberInRange 8) (little_endian_encoding 8)
fixed_8-encodings = record { encodes = little_endian_encodes 8 }

pub fixed_16-encodings : HasMinimalEncodings (little_endian 16) (IsByteNumberInRange 16) (little_endian_encoding 16)
fixed_16-encodings = record { encodes = little_endian_encodes 16 }

pub size_prefixed_bytes_unambiguous : Unambiguous (size_prefixed any_bytes)
size_prefixed_bytes_unambiguous = size_prefixed_unambiguous any_bytes_whole

pub name_unambiguous : Unambiguous name
name_unambiguous = such_unambiguous IsUtf8 size_prefixed_bytes_unambiguous

pub vec_bytes_unambiguous : Unambiguous (vec byte)
vec_bytes_unambiguous = vec_unambiguous byte_unambiguous

pub vec_u32_unambiguous : Unambiguous (vec u32)
vec_u32_unambiguous = vec_unambiguous u32_unambiguous

pub vec_names_unambiguous : Unambiguous (vec name)
vec_names_unambiguous = vec_unambiguous name_unambiguous

pub custom_unambiguous : Unambiguous custom
custom_unambiguous = size_prefixed_unambiguous (pair_whole name_unambiguous any_bytes_whole)

pub size_prefixed-encodings : HasMinimalEncodings (size_prefixed any_bytes) HasEncodableSize size_prefixed_encoding
size_prefixed-encodings = record { encodes = λ bytes h. size_prefixed_encodes any_bytes bytes bytes h refl }

pub name-encodings : HasMinimalEncodings name IsEncodableName size_prefixed_encoding
name-encodings = record { encodes = λ bytes h. name_encodes bytes h.0 h.1 }

pub vec-u32-encodings : HasMinimalEncodings (vec u32) (IsEncodableVec (IsUnsignedInRange 32)) (vec_encoding unsigned_encoding)
vec-u32-encodings = record { encodes = vec_encodes u32 (IsUnsignedInRange 32) unsigned_encoding u32_encodes }

pub vec-names-encodings : HasMinimalEncodings (vec name) (IsEncodableVec IsEncodableName) (vec_encoding size_prefixed_encoding)
vec-names-encodings = record { encodes = vec_encodes name IsEncodableName size_prefixed_encoding (λ bytes h. name_encodes bytes h.0 h.1) }

members_bytes : (bytes : List ℕ) → members byte minimal bytes bytes
members_bytes [] = refl
members_bytes (b ∷ bs) = (b ∷ [], bs, refl, refl, members_bytes bs)

pub vec-bytes-encodings : HasMinimalEncodings (vec byte) HasEncodableSize size_prefixed_encoding
vec-bytes-encodings = record {
  encodes = λ bytes h. record { front = unsigned_encoding (length bytes); back = bytes; joined = refl; first = u32_encodes (length bytes) (omega (arith, h)); second = members_bytes bytes };
}

pub custom-encodings : HasMinimalEncodings custom IsEncodableCustom custom_encoding
custom-encodings = record {
  encodes = λ c h.
      size_prefixed_encodes (pair name any_bytes) (size_prefixed_encoding c.0 ++ c.1) c h.size
      (record { front = size_prefixed_encoding c.0; back = c.1; joined = refl; first = name_encodes c.0 h.name.0 h.name.1; second = refl });
}

pub ruleset frames = (vec-bytes-encodings, custom-encodings, fixed_4_unambiguous, fixed_8_unambiguous, fixed_16_unambiguous, fixed_4-encodings, fixed_8-encodings, fixed_16-encodings, size_prefixed_bytes_unambiguous, name_unambiguous, vec_bytes_unambiguous, vec_u32_unambiguous, vec_names_unambiguous, custom_unambiguous, module_whole, module-encodings, size_prefixed-encodings, name-encodings, vec-u32-encodings, vec-names-encodings)

-- ---- padded LEB128

pub padded-u32 : UnambiguousPadded u32
padded-u32 = unambiguous_padded u32_unambiguous

pub padded-u64 : UnambiguousPadded u64
padded-u64 = unambiguous_padded u64_unambiguous

pub padded-s32 : UnambiguousPadded s32
padded-s32 = unambiguous_padded s32_unambiguous

pub padded-s64 : UnambiguousPadded s64
padded-s64 = unambiguous_padded s64_unambiguous

pub padded-s33 : UnambiguousPadded s33
padded-s33 = unambiguous_padded s33_unambiguous

pub padded-fixed_4 : UnambiguousPadded (little_endian 4)
padded-fixed_4 = unambiguous_padded fixed_4_unambiguous

pub padded-fixed_8 : UnambiguousPadded (little_endian 8)
padded-fixed_8 = unambiguous_padded fixed_8_unambiguous

pub padded-fixed_16 : UnambiguousPadded (little_endian 16)
padded-fixed_16 = unambiguous_padded fixed_16_unambiguous

pub padded-name : UnambiguousPadded name
padded-name = unambiguous_padded name_unambiguous

pub padded-vec-bytes : UnambiguousPadded (vec byte)
padded-vec-bytes = unambiguous_padded vec_bytes_unambiguous

pub padded-vec-u32 : UnambiguousPadded (vec u32)
padded-vec-u32 = unambiguous_padded vec_u32_unambiguous

pub padded-vec-names : UnambiguousPadded (vec name)
padded-vec-names = unambiguous_padded vec_names_unambiguous

pub padded-size_prefixed : UnambiguousPadded (size_prefixed any_bytes)
padded-size_prefixed = unambiguous_padded size_prefixed_bytes_unambiguous

pub padded-custom : UnambiguousPadded custom
padded-custom = unambiguous_padded custom_unambiguous

pub padded-module : UnambiguousWholePadded wasm_module
padded-module = unambiguous_whole_padded module_whole

pub ruleset padded_laws = (padded-u32, padded-u64, padded-s32, padded-s64, padded-s33, padded-fixed_4, padded-fixed_8, padded-fixed_16, padded-name, padded-vec-bytes, padded-vec-u32, padded-vec-names, padded-size_prefixed, padded-custom, padded-module)

same_vector : (v w : ℤ) → IsVector v → IsVector w → twos_complement 128 v ≡ twos_complement 128 w → v ≡ w
same_vector (pos n) (pos m) h g e = ap pos e
same_vector (pos n) (negsuc m) h g e = absurd (omega (arith, h, g, e))
same_vector (negsuc n) (pos m) h g e = absurd (omega (arith, h, g, e))
same_vector (negsuc n) (negsuc m) h g e = let same : n ≡ m = omega (arith, h, g, e) in ap negsuc same

pub vector_unambiguous : Unambiguous vector_format
vector_unambiguous =
    let f = little_endian_unambiguous 16 in
    record {
      unique = λ mode s t r q x y h g e.
          let a = f.unique mode s t r q (twos_complement 128 x) (twos_complement 128 y) h.0 g.0 e in
          (same_vector x y h.1 g.1 a.0, a.1, a.2);
      encodings = record {
        one = λ w s t x h g. f.encodings.one w s t (twos_complement 128 x) h.0 g.0;
        included = λ m n below s x h. h;
        shorter = λ w s x h. let a = f.encodings.shorter w s (twos_complement 128 x) h.0 in (a.0, (a.1, h.1), a.2);
      };
    }
