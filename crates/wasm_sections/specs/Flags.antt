-- This file defines the flags of limits: one byte with four named bits. Core specification, Binary
-- Format, Types, Limits.
use Rattle.std.specs.Prelude.{ℕ, ◌+◌, Bool}
use Rattle.wasm_base.specs.Words.{Format, coded}
use Rattle.wasm_immediates.specs.Words.{where_set}
use Rattle.wasm_sections.specs.declared.memory.Flags.{Flags as ReadFlags}

-- The flags of limits: a maximum is encoded, the table or memory is shared, its indices have 64
-- bits, a page size is encoded. The core specification lacks the second and the fourth, which are
-- those of the proposals for threads and for custom page sizes.
pub record Flags : Type 0 where
  pub has_maximum : Bool
  pub shared : Bool
  pub is_64 : Bool
  pub has_page_size : Bool

-- The byte of the flags.
abbrev pub flags_code : Flags → ℕ
flags_code f = where_set f.has_maximum 0x01 + where_set f.shared 0x02 + where_set f.is_64 0x04 + where_set f.has_page_size 0x08

-- The flags of limits: one byte.
abbrev pub flags : Format Flags
flags = coded flags_code

-- The view of decoded flags.
abbrev pub flags_view : ReadFlags → Flags
flags_view f = record { has_maximum = f.has_maximum; shared = f.shared; is_64 = f.is_64; has_page_size = f.has_page_size }
