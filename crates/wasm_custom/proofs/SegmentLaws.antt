-- This file proves that segments are unambiguous, and how they are decoded and minimized.
use Rattle.wasm_base.proofs.Words.{ℕ, List, ◌++◌, ap, refl, minimal, unsigned_encoding, size_prefixed_encoding, pair_encodes, u32_encodes, name_encodes, u32, name, pair, Mode, Unambiguous, Decodes}
use Rattle.wasm_base.proofs.Words.{Rejects, AppendsMinimal, both_grammars, HasEncoding, mapped_unambiguous, pair_unambiguous, name_unambiguous, u32_unambiguous, mapped_decodes, mapped_rejects, mapped_appended}
use Rattle.wasm_base.proofs.Words.{pair_appended, mapped_encoded, left_encoded}
use Rattle.wasm_custom.specs.Segments.{SegmentInfo, segment_encoding, IsSegment, segment_of, segment}

abbrev parts_of : SegmentInfo → List ℕ × (ℕ × ℕ)
parts_of s = (s.name, (s.alignment, s.flags))

pub segment_unambiguous : Unambiguous segment
segment_unambiguous = mapped_unambiguous segment_of (λ x y e. ap parts_of e) (pair_unambiguous name_unambiguous (pair_unambiguous u32_unambiguous u32_unambiguous))

pub segment_encodes : (s : SegmentInfo) → IsSegment s → segment minimal (segment_encoding s) s
segment_encodes s plain =
    let numbers = pair_encodes u32 u32 (unsigned_encoding s.alignment) (unsigned_encoding s.flags) s.alignment s.flags (u32_encodes s.alignment plain.alignment) (u32_encodes s.flags plain.flags) in
    (parts_of s, refl, pair_encodes name (pair u32 u32) (size_prefixed_encoding s.name) (unsigned_encoding s.alignment ++ unsigned_encoding s.flags) s.name (s.alignment, s.flags) (name_encodes s.name plain.name.0 plain.name.1) numbers)

-- ---- decoding

pub segment_decodes : {m : Mode} (bytes last n : List ℕ) (alignment flags : ℕ) → Decodes (pair name (pair u32 u32)) m bytes (n, (alignment, flags)) last → Decodes segment m bytes (record { name = n; alignment = alignment; flags = flags }) last
segment_decodes bytes last n alignment flags h = mapped_decodes segment_of h

pub segment_none : {m : Mode} (bytes : List ℕ) → Rejects (pair name (pair u32 u32)) m bytes → Rejects segment m bytes
segment_none bytes n = mapped_rejects segment_of n

pub ruleset segment_steps = (segment_decodes, segment_none)

-- ---- the one minimal encoding of decoded segments

pub segment_appended : (n : List ℕ) (alignment flags : ℕ) (old first second new : List ℕ) → AppendsMinimal both_grammars name n old first → AppendsMinimal both_grammars u32 alignment first second → AppendsMinimal both_grammars u32 flags second new
    → AppendsMinimal both_grammars segment (record { name = n; alignment = alignment; flags = flags }) old new
segment_appended n alignment flags old first second new a b c =
    mapped_appended segment_of (pair name (pair u32 u32)) (n, (alignment, flags)) old new (λ z k. ap parts_of k) (pair_appended name (pair u32 u32) a (pair_appended u32 u32 b c))

pub segment_name_encoded : (n : List ℕ) (alignment flags : ℕ) → HasEncoding both_grammars segment (record { name = n; alignment = alignment; flags = flags }) → HasEncoding both_grammars name n
segment_name_encoded n alignment flags h = left_encoded name (pair u32 u32) n (alignment, flags) (mapped_encoded segment_of (pair name (pair u32 u32)) (n, (alignment, flags)) (λ z k. ap parts_of k) h)
