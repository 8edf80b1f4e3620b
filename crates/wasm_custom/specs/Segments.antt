-- This file defines the segment information of a linking section, its encoding and its format. Tool
-- conventions, Linking, Linking Metadata Section, `WASM_SEGMENT_INFO`.
use Rattle.std.specs.Prelude.{ℕ, ◌^◌, ◌<◌, List, ◌++◌}
use Rattle.wasm_base.specs.Words.{Format, u32, name, mapped, pair, IsEncodableName, unsigned_encoding, size_prefixed_encoding}
use Rattle.wasm_custom.specs.Lists.{IsListOf}
use Rattle.wasm_custom.specs.declared.segments.SegmentInfo as read

-- A data segment: its name, the exponent of its alignment, and its flags.
pub record SegmentInfo : Type 0 where
  pub name : List ℕ
  pub alignment : ℕ
  pub flags : ℕ

-- The encoding of a segment: its name, the exponent of its alignment, and its flags.
abbrev pub segment_encoding : SegmentInfo → List ℕ
segment_encoding s = size_prefixed_encoding s.name ++ (unsigned_encoding s.alignment ++ unsigned_encoding s.flags)

-- The segment is well-formed: its name is UTF-8 of at most 2^32 - 1 bytes, and its numbers are in
-- range.
pub record IsSegment (s : SegmentInfo) : Type 0 where
  pub name : IsEncodableName s.name
  pub alignment : s.alignment < 2 ^ 32
  pub flags : s.flags < 2 ^ 32

-- The segment of this name, this exponent of its alignment, and these flags.
abbrev pub segment_of : List ℕ × (ℕ × ℕ) → SegmentInfo
segment_of parts = record { name = parts.0; alignment = parts.1.0; flags = parts.1.1 }

-- A segment: a name, the exponent of its alignment, and flags.
abbrev pub segment : Format SegmentInfo
segment = mapped segment_of (pair name (pair u32 u32))

-- The pieces are the encodings of these segments.
abbrev pub AreSegments : List (List ℕ) → List SegmentInfo → Type 0
AreSegments = IsListOf segment_encoding IsSegment

-- The view of a decoded segment.
abbrev pub segment_view : read.SegmentInfo → SegmentInfo
segment_view s = record { name = s.name.now; alignment = s.alignment; flags = s.flags }
