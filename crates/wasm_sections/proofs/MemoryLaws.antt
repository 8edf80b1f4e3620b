-- This file proves that memory types are unambiguous.
use Rattle.wasm_base.proofs.Words.{◌≡◌, ℕ, ◌^◌, ◌<◌, [], ◌∷◌, ◌++◌, Option, refl, ap, ◌∙◌, List, subst, ItemLaws, u32, u64, optional, is_given, vec, mapped, pair, minimal, unsigned_encoding}
use Rattle.wasm_base.proofs.Words.{Unambiguous, u64_unambiguous, DeterminesTag, tagged_unambiguous, mapped_unambiguous, pair_unambiguous, optional_unambiguous, AllValues, u32_unambiguous, u32_encodes}
use Rattle.wasm_base.proofs.Words.{u64_encodes, optional_encoding, pair_encodes, optional_encodes, optional_determines, SectionLaws, counted_laws}
use Rattle.wasm_sections.specs.{flags_code, memory_flags, memory_encoding, IsMemory, memory_of, after_memory_flags, memory_type, memory_items}
use Rattle.wasm_sections.specs.Flags.{Flags}
use Rattle.wasm_sections.specs.declared.memory.MemoryType.{MemoryType}
use Rattle.wasm_sections.proofs.FlagLaws.{flags_unambiguous}
use Rattle.wasm_sections.proofs.DecodeLimits.{optional_is, u64_is, u32_is}

abbrev parts_of : MemoryType → ℕ × (Option ℕ × Option ℕ)
parts_of m = (m.minimum, (m.maximum, m.page_size_log2))

flags_determine : DeterminesTag after_memory_flags memory_flags
flags_determine mode f s m h =
    let maximum = optional_determines u64 f.has_maximum mode h.2.second.front h.0.1.0 h.2.second.first in
    let page = optional_determines u32 f.has_page_size mode h.2.second.back h.0.1.1 h.2.second.second in
    let explicit : f ≡ memory_flags (memory_of f h.0) = λ i. record { has_maximum = maximum i; shared = f.shared; is_64 = f.is_64; has_page_size = page i } in
    explicit ∙ ap memory_flags h.1

pub memory_unambiguous : Unambiguous memory_type
memory_unambiguous =
    tagged_unambiguous memory_flags flags_determine flags_unambiguous λ f.
    mapped_unambiguous (memory_of f) (λ x y e. ap parts_of e)
    (pair_unambiguous u64_unambiguous (pair_unambiguous (optional_unambiguous f.has_maximum u64_unambiguous) (optional_unambiguous f.has_page_size u32_unambiguous)))

pub memory_encodes : (m : MemoryType) → IsMemory m → memory_type minimal (memory_encoding m) m
memory_encodes m plain =
    let maximum = optional_encodes u64 (λ n. n < 2 ^ 64) unsigned_encoding u64_encodes m.maximum plain.maximum in
    let page = optional_encodes u32 (λ n. n < 2 ^ 32) unsigned_encoding u32_encodes m.page_size_log2 plain.page_size in
    let last = pair_encodes (optional (is_given m.maximum) u64) (optional (is_given m.page_size_log2) u32) (optional_encoding unsigned_encoding m.maximum) (optional_encoding unsigned_encoding m.page_size_log2) m.maximum m.page_size_log2 maximum page in (
      (memory_flags m, m),
      refl,
      record {
        front = flags_code (memory_flags m) ∷ [];
        back = unsigned_encoding m.minimum ++ (optional_encoding unsigned_encoding m.maximum ++ optional_encoding unsigned_encoding m.page_size_log2);
        joined = refl;
        first = refl;
        second = (parts_of m, refl, record { front = unsigned_encoding m.minimum; back = optional_encoding unsigned_encoding m.maximum ++ optional_encoding unsigned_encoding m.page_size_log2; joined = refl; first = u64_encodes m.minimum plain.minimum; second = last });
      },
    )

pub memory_laws : ItemLaws memory_items
memory_laws = record { unique = memory_unambiguous; encodes = λ m plain encodable. memory_encodes m plain }

pub memories_section : SectionLaws memory_items (vec memory_type)
memories_section = counted_laws memory_laws (λ given plain. plain) (λ given plain. plain)

-- ---- decoded memory types are well-formed

pub memory_is : AllValues IsMemory memory_type
memory_is mode s m h = subst IsMemory h.1 (after h.0.0 h.2.back h.0.1 h.2.second)
  where
    after : (f : Flags) (s : List ℕ) (m : _) → mapped (memory_of f) (pair u64 (pair (optional f.has_maximum u64) (optional f.has_page_size u32))) mode s m → IsMemory m
    after f s m h =
        subst IsMemory h.1
        (record { minimum = h.2.first.range; maximum = optional_is (λ n. n < 2 ^ 64) u64 u64_is f.has_maximum mode h.2.second.front h.0.1.0 h.2.second.first; page_size = optional_is (λ n. n < 2 ^ 32) u32 u32_is f.has_page_size mode h.2.second.back h.0.1.1 h.2.second.second })
