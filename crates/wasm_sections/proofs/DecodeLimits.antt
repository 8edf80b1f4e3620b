-- This file proves how readers decode limits, memory types and table types.
use Rattle.wasm_base.proofs.Words.{Mode, ◌≡◌, ℕ, ◌<◌, ◌≤◌, ◌/◌, ◌%◌, List, true, false, Option, option_map, refl, sym, subst, arith, ◌^◌, Bool, IfSome, Format, u32, u64, byte, impossible, mapped}
use Rattle.wasm_base.proofs.Words.{optional, pair, when, Decodes, Rejects, ref_type, u64_unambiguous, optional_unambiguous, AllValues, then_decodes, then_rejects_first, then_rejects_second}
use Rattle.wasm_base.proofs.Words.{mapped_decodes, mapped_rejects, tagged_decodes, tagged_none, tagged_rejects, impossible_rejects, code_decodes, code_none, code_unknown}
use Rattle.wasm_base.specs.declared.types.RefType.{RefType}
use Rattle.std.specs.Prelude.{◌==◌}
use Rattle.wasm_immediates.proofs.Words.{bit_value, option_same}
use Rattle.wasm_sections.specs.Flags.{Flags}
use Rattle.wasm_sections.specs.{flags, flags_code, memory_of, after_memory_flags, memory_type, Limits, limits_of, after_limits_flags, limits, table_of, table_type}
use Rattle.wasm_sections.proofs.FlagLaws.{flags_unambiguous, weight_is, bit_low}

-- ---- flags

bits_of : (b : ℕ) → b < 16 → b ≡ flags_code (record { has_maximum = b % 2 == 1; shared = b / 2 % 2 == 1; is_64 = b / 4 % 2 == 1; has_page_size = b / 8 % 2 == 1 })
bits_of b l =
    let p = bit_value (b % 2 == 1) (b % 2) (omega arith) refl in
    let q = bit_value (b / 2 % 2 == 1) (b / 2 % 2) (omega arith) refl in
    let r = bit_value (b / 4 % 2 == 1) (b / 4 % 2) (omega arith) refl in
    let t = bit_value (b / 8 % 2 == 1) (b / 8 % 2) (omega arith) refl in
    omega (arith, l, p, q, r, t, weight_is (b / 2 % 2 == 1) 0x02, weight_is (b / 4 % 2 == 1) 0x04, weight_is (b / 8 % 2 == 1) 0x08)

pub flags_read : {m : Mode} (bytes rest : List ℕ) (b : ℕ) → Decodes byte m bytes b rest → b < 16 → Decodes flags m bytes (record { has_maximum = b % 2 == 1; shared = b / 2 % 2 == 1; is_64 = b / 4 % 2 == 1; has_page_size = b / 8 % 2 == 1 }) rest
flags_read bytes rest b h l = code_decodes flags_code bytes rest b _ h (bits_of b l)

pub flags_none : {m : Mode} (bytes : List ℕ) → Rejects byte m bytes → Rejects flags m bytes
flags_none = code_none flags_code

flags_small : (f : Flags) → flags_code f < 16
flags_small f = omega (arith, bit_low f.has_maximum, bit_low f.shared, bit_low f.is_64, bit_low f.has_page_size, weight_is f.shared 0x02, weight_is f.is_64 0x04, weight_is f.has_page_size 0x08)

pub flags_unknown : {m : Mode} (bytes rest : List ℕ) (b : ℕ) → Decodes byte m bytes b rest → 16 ≤ b → Rejects flags m bytes
flags_unknown bytes rest b h l = code_unknown flags_code bytes rest b h (λ f e. omega (arith, l, e, flags_small f))

pub ruleset flag_steps = (flags_read)

-- ---- memory types

pub memory_decodes : {m : Mode} (bytes start middle next last : List ℕ) (f : Flags) (minimum : ℕ) (maximum page : Option ℕ) → Decodes flags m bytes f start → Decodes u64 m start minimum middle → Decodes (optional f.has_maximum u64) m middle (option_map (λ n. n) maximum) next
    → Decodes (optional f.has_page_size u32) m next (option_map (λ n. n) page) last → Decodes memory_type m bytes (record { minimum = minimum; maximum = maximum; memory64 = f.is_64; shared = f.shared; page_size_log2 = page }) last
memory_decodes {m = m} bytes start middle next last f minimum maximum page e h g k =
    tagged_decodes {G = after_memory_flags} e
    (mapped_decodes (memory_of f) (then_decodes h (then_decodes (subst (λ z. Decodes (optional f.has_maximum u64) m middle z next) (option_same maximum) g) (subst (λ z. Decodes (optional f.has_page_size u32) m next z last) (option_same page) k))))

pub memory_none : {m : Mode} (bytes : List ℕ) → Rejects flags m bytes → Rejects memory_type m bytes
memory_none bytes n = tagged_none flags after_memory_flags bytes n

memory_rejects : {m : Mode} (bytes start : List ℕ) (f : Flags) → Decodes flags m bytes f start → Rejects (pair u64 (pair (optional f.has_maximum u64) (optional f.has_page_size u32))) m start → Rejects memory_type m bytes
memory_rejects bytes start f h n = tagged_rejects {G = after_memory_flags} flags_unambiguous h (mapped_rejects (memory_of f) n)

pub memory_no_minimum : {m : Mode} (bytes start : List ℕ) (f : Flags) → Decodes flags m bytes f start → Rejects u64 m start → Rejects memory_type m bytes
memory_no_minimum bytes start f h n = memory_rejects bytes start f h (then_rejects_first n)

pub memory_no_maximum : {m : Mode} (bytes start middle : List ℕ) (f : Flags) (minimum : ℕ) → Decodes flags m bytes f start → Decodes u64 m start minimum middle → Rejects (optional f.has_maximum u64) m middle → Rejects memory_type m bytes
memory_no_maximum bytes start middle f minimum h g n = memory_rejects bytes start f h (then_rejects_second u64_unambiguous g (then_rejects_first n))

pub memory_no_page : {m : Mode} (bytes start middle next : List ℕ) (f : Flags) (minimum : ℕ) (maximum : Option ℕ) → Decodes flags m bytes f start → Decodes u64 m start minimum middle → Decodes (optional f.has_maximum u64) m middle (option_map (λ n. n) maximum) next
    → Rejects (optional f.has_page_size u32) m next → Rejects memory_type m bytes
memory_no_page bytes start middle next f minimum maximum h g k n = memory_rejects bytes start f h (then_rejects_second u64_unambiguous g (then_rejects_second (optional_unambiguous f.has_maximum u64_unambiguous) k n))

pub ruleset memory_steps = (memory_no_page)

-- ---- limits of tables

abbrev limits_rest : Flags → Format Limits
limits_rest f = mapped (limits_of f) (pair u64 (optional f.has_maximum u64))

no_page : (f : Flags) → f.has_page_size ≡ false → after_limits_flags f ≡ limits_rest f
no_page f e = subst (λ t. when t impossible (limits_rest f) ≡ limits_rest f) (sym e) refl

pub limits_read : {m : Mode} (bytes start middle last : List ℕ) (f : Flags) (minimum : ℕ) (maximum : Option ℕ) → Decodes flags m bytes f start → f.has_page_size ≡ false → Decodes u64 m start minimum middle → Decodes (optional f.has_maximum u64) m middle (option_map (λ n. n) maximum) last
    → Decodes limits m bytes (record { table64 = f.is_64; shared = f.shared; minimum = minimum; maximum = maximum }) last
limits_read {m = m} bytes start middle last f minimum maximum h e g k =
    tagged_decodes {G = after_limits_flags} h
    (subst (λ F. Decodes {X = Limits} F m start (record { table64 = f.is_64; shared = f.shared; minimum = minimum; maximum = maximum }) last) (sym (no_page f e))
    (mapped_decodes (limits_of f) (then_decodes g (subst (λ z. Decodes (optional f.has_maximum u64) m middle z last) (option_same maximum) k))))

pub limits_none : {m : Mode} (bytes : List ℕ) → Rejects flags m bytes → Rejects limits m bytes
limits_none bytes n = tagged_none flags after_limits_flags bytes n

pub limits_page : {m : Mode} (bytes start : List ℕ) (f : Flags) → Decodes flags m bytes f start → f.has_page_size ≡ true → Rejects limits m bytes
limits_page {m = m} bytes start f h e = tagged_rejects {G = after_limits_flags} flags_unambiguous h (subst (λ t. Rejects (when t impossible (limits_rest f)) m start) (sym e) (impossible_rejects start))

limits_rejects : {m : Mode} (bytes start : List ℕ) (f : Flags) → Decodes flags m bytes f start → f.has_page_size ≡ false → Rejects (pair u64 (optional f.has_maximum u64)) m start → Rejects limits m bytes
limits_rejects {m = m} bytes start f h e n = tagged_rejects {G = after_limits_flags} flags_unambiguous h (subst (λ F. Rejects {X = Limits} F m start) (sym (no_page f e)) (mapped_rejects (limits_of f) n))

pub limits_no_minimum : {m : Mode} (bytes start : List ℕ) (f : Flags) → Decodes flags m bytes f start → f.has_page_size ≡ false → Rejects u64 m start → Rejects limits m bytes
limits_no_minimum bytes start f h e n = limits_rejects bytes start f h e (then_rejects_first n)

pub limits_no_maximum : {m : Mode} (bytes start middle : List ℕ) (f : Flags) (minimum : ℕ) → Decodes flags m bytes f start → f.has_page_size ≡ false → Decodes u64 m start minimum middle → Rejects (optional f.has_maximum u64) m middle → Rejects limits m bytes
limits_no_maximum bytes start middle f minimum h e g n = limits_rejects bytes start f h e (then_rejects_second u64_unambiguous g n)

pub ruleset limits_steps = (limits_page)

-- ---- table types

pub table_decodes : {m : Mode} (bytes rest : List ℕ) (r : RefType) (l : Limits) → Decodes (pair ref_type limits) m bytes (r, l) rest → Decodes table_type m bytes (record { element_type = r; table64 = l.table64; minimum = l.minimum; maximum = l.maximum; shared = l.shared }) rest
table_decodes bytes rest r l h = mapped_decodes table_of h

pub table_none : {m : Mode} (bytes : List ℕ) → Rejects (pair ref_type limits) m bytes → Rejects table_type m bytes
table_none bytes n = mapped_rejects table_of n

pub ruleset table_steps = (table_decodes)

-- ---- decoded numbers are in range

pub optional_is : {X : Type 0} (P : X → Type 0) (F : Format X) → AllValues P F → (flag : Bool) → AllValues (λ o. IfSome o P) (optional flag F)
optional_is P F all true mode s o h = subst (λ o. IfSome o P) h.1 (all mode s h.0 h.2)
optional_is P F all false mode s o h = subst (λ o. IfSome o P) (sym h.1) tt

pub u64_is : AllValues (λ n. n < 2 ^ 64) u64
u64_is mode s n h = h.range

pub u32_is : AllValues (λ n. n < 2 ^ 32) u32
u32_is mode s n h = h.range
