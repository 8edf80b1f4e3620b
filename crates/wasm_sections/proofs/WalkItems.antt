-- This file proves that walks over the items of sections give an effect the minimal encodings of
-- these items.
use Rattle.wasm_base.proofs.Words.{◌≡◌, ◌≢◌, ℕ, zero, suc, ◌^◌, ◌<◌, List, [], ◌∷◌, ◌++◌, Bool, true, false, refl, sym, ap, subst, ◌∙◌, append_assoc, arith, inl, inr, IsUtf8}
use Rattle.wasm_base.proofs.Words.{Grammar, builders, admitted, padded_of, minimal, name, byte, u32, u64, coded, numbered, fixed, mapped, when, pair, prefixed, optional, vec, size_prefixed, any_bytes, is_given, Format, AllValues, Decodes}
use Rattle.wasm_base.proofs.Words.{HasEncodableSize, size_prefixed_encoding, unsigned_encoding, optional_encoding, ref_type, u32_encodes, u64_encodes, name_encodes, pair_encodes, optional_encodes, tagged_encodes, fixed_decodes}
use Rattle.wasm_base.specs.Numbers.{minimal_of}
use Rattle.wasm_base.specs.Minimal.{EncodesMinimally}
use Rattle.wasm_base.specs.Walks.{TakesBytes, Walks, EncodesIn}
use Rattle.wasm_base.specs.Types.{ref_encoding_in, val_encoding_in}
use Rattle.wasm_base.specs.Types.{FUNCREF}
use Rattle.wasm_base.proofs.GrammarLaws.{AreMinimalInBoth, minimal_in, canonical_by, u32_canonical, u32_both, u64_both, byte_both, name_both, coded_both, mapped_both, pair_both, tagged_both, when_both, optional_both, impossible_both, vec_both}
use Rattle.wasm_base.proofs.PartLaws.{bytes_encodes}
use Rattle.wasm_base.proofs.WalkLaws.{walked_as, mapped_walks, pair_walks, tagged_walks, take_nothing, take_then}
use Rattle.wasm_base.proofs.TightTypes.{ref_encodes_in, val_encodes_in}
use Rattle.wasm_code.proofs.Words.{expression}
use Rattle.wasm_insn.proofs.Words.{Plain}
use Rattle.wasm_immediates.specs.ImmediateFormats.{HasIndex}
use Rattle.wasm_sections.specs.{flags_code, memory_type, memory_encoding, memory_of, tag_code, tag_of, tag_type, tag_encoding, kind_code, export, export_of, export_encoding, item_of, ExportItem}
use Rattle.wasm_sections.specs.{global_code, global_flags, global_encoding_in, IsGlobal, global_type, global_from, global_item, table_flags, table_encoding_in, IsTable, Limits, limits_of, limits, table_type, before_init, without_init, with_init, table_item}
use Rattle.wasm_sections.specs.{entity_encoding_in, IsEntity, entity, single, named, alike, import_format, active, passive, in_first, in_memory, active_front, data_in, data_item}
use Rattle.wasm_sections.specs.{ElementFlag, flag_code, has_kind, SegmentMode, in_table, in_no_table, segment_mode, functions, list_of, elements_as, segment_of, element}
use Rattle.wasm_sections.specs.Elements.{declared, passive as inactive}
use Rattle.wasm_sections.specs.declared.export.Export.{Export}
use Rattle.wasm_sections.specs.declared.global.GlobalType.{GlobalType}
use Rattle.wasm_sections.specs.declared.import.EntityType.{EntityType}
use Rattle.wasm_sections.specs.declared.import.EntityType.TheVariants.{Function, Table, Memory, Global, Tag, FunctionExact}
use Rattle.wasm_sections.specs.declared.table.TableType.{TableType}
use Rattle.wasm_sections.proofs.DataLaws.{bytes_read, first_decodes, passive_decodes, other_decodes}
use Rattle.wasm_sections.proofs.GlobalLaws.{global_is}
use Rattle.wasm_sections.proofs.ImportLaws.{entity_is, single_decodes, named_decodes, alike_decodes}
use Rattle.wasm_sections.proofs.MemoryLaws.{memory_encodes, memory_is}
use Rattle.wasm_sections.proofs.Prefixes.{prefixed_decodes}
use Rattle.wasm_sections.proofs.TableLaws.{table_is, table_decodes, table_with}
use Rattle.wasm_sections.proofs.TagLaws.{tag_encodes, tag_is}

-- ---- items whose encoding is minimal in both grammars

memory_both : AreMinimalInBoth memory_type
memory_both = tagged_both (coded_both flags_code) (λ f. mapped_both (memory_of f) (pair_both u64_both (pair_both (optional_both f.has_maximum u64_both) (optional_both f.has_page_size u32_both))))

pub memory_canonical : EncodesMinimally memory_type (λ m. m) memory_encoding
memory_canonical = canonical_by (λ m. m) memory_encoding _ memory_is memory_encodes memory_both

tag_both : AreMinimalInBoth tag_type
tag_both = mapped_both tag_of (pair_both (coded_both tag_code) u32_both)

pub tag_canonical : EncodesMinimally tag_type (λ t. t) tag_encoding
tag_canonical = canonical_by (λ t. t) tag_encoding _ tag_is tag_encodes tag_both

-- The decoded export: its name is UTF-8 of at most 2^32 - 1 bytes, and its index is below 2^32.
record IsNamedExport (e : ExportItem) : Type 0 where
  pub name : IsUtf8 e.name
  pub size : HasEncodableSize e.name
  pub index : e.index < 2 ^ 32

export_named : AllValues IsNamedExport export
export_named mode s e h =
    let size = h.2.first.0 in
    subst IsNamedExport h.1 (record { name = h.2.first.1; size = subst HasEncodableSize size.encodes (omega (arith, size.size.range)); index = h.2.second.second.range })

named_encodes : (e : Export) → IsNamedExport (item_of e) → export minimal (export_encoding e) (item_of e)
named_encodes e is =
    let rest = pair_encodes (coded kind_code) u32 (kind_code e.kind ∷ []) (unsigned_encoding e.index) e.kind e.index refl (u32_encodes e.index is.index) in
    ((e.name.now, (e.kind, e.index)), refl, pair_encodes name (pair (coded kind_code) u32) (size_prefixed_encoding e.name.now) (kind_code e.kind ∷ [] ++ unsigned_encoding e.index) e.name.now (e.kind, e.index) (name_encodes e.name.now is.name is.size) rest)

pub export_canonical : EncodesMinimally export item_of export_encoding
export_canonical = canonical_by item_of export_encoding IsNamedExport export_named named_encodes (mapped_both export_of (pair_both name_both (pair_both (coded_both kind_code) u32_both)))

-- ---- formats behind a tag

-- A number, as a decoded value and as bytes.
u32_in : (w : Grammar) (n : ℕ) → n < 2 ^ 32 → u32 (minimal_of w) (unsigned_encoding n) n
u32_in w n small = minimal_in w n (unsigned_encoding n) u32_both (u32_encodes n small)

-- No bytes.
abbrev fixed_walks : {E X : Type 0} {seen : E → List ℕ → Type 0} {w : Grammar} (v : X) (bytes : List ℕ) (old : E) → Walks seen w (fixed [] v) bytes bytes old old
fixed_walks {seen = seen} v bytes old = record { value = v; decoded = fixed_decodes bytes v; encoding = []; encodes = (refl, refl); taken = take_nothing seen old }

-- Fixed bytes, then a value.
abbrev prefixed_walks : {E X : Type 0} {seen : E → List ℕ → Type 0} {w : Grammar} (front : List ℕ) {F : Format X} {bytes after rest : List ℕ} {old between new : E} → bytes ≡ front ++ after → TakesBytes seen front old between → Walks seen w F after rest between new → Walks seen w (prefixed front F) bytes rest old new
prefixed_walks {seen = seen} front {F} {old = old} {between = between} {new = new} split e g = record {
  value = g.value;
  decoded = prefixed_decodes front F split g.decoded;
  encoding = front ++ g.encoding;
  encodes = ((tt, g.value), refl, record { front = front; back = g.encoding; joined = refl; first = (refl, refl); second = g.encodes });
  taken = take_then seen front g.encoding old between new e g.taken;
}

-- ---- globals

global_encodes_in : (w : Grammar) (g : GlobalType) → IsGlobal g → global_type (minimal_of w) (global_encoding_in w g) g
global_encodes_in w g p = (
  (g.val_type, global_flags g),
  refl,
  record { front = val_encoding_in w g.val_type; back = global_code (global_flags g) ∷ []; joined = refl; first = val_encodes_in w g.val_type p; second = refl },
)

pub global_type_in : (w : Grammar) → EncodesIn w global_type (λ g. g) (global_encoding_in w)
global_type_in w = record { minimal_in = λ s g h. global_encodes_in w g (global_is (padded_of w) s g h) }

pub global_walks : {E : Type 0} {seen : E → List ℕ → Type 0} {w : Grammar} {bytes rest : List ℕ} {old new : E} → Walks seen w (pair global_type expression) bytes rest old new → Walks seen w global_item bytes rest old new
global_walks h = mapped_walks global_from h

-- ---- tables

limits_both : AreMinimalInBoth limits
limits_both = tagged_both (coded_both flags_code) (λ f. when_both f.has_page_size impossible_both (mapped_both (limits_of f) (pair_both u64_both (optional_both f.has_maximum u64_both))))

abbrev limits_in : TableType → Limits
limits_in t = record { table64 = t.table64; shared = t.shared; minimum = t.minimum; maximum = t.maximum }

limits_encodes : (t : TableType) → IsTable t → limits minimal (flags_code (table_flags t) ∷ (unsigned_encoding t.minimum ++ optional_encoding unsigned_encoding t.maximum)) (limits_in t)
limits_encodes t p =
    let maximum = optional_encodes u64 (λ n. n < 2 ^ 64) unsigned_encoding u64_encodes t.maximum p.maximum in
    let numbers = pair_encodes u64 (optional (is_given t.maximum) u64) (unsigned_encoding t.minimum) (optional_encoding unsigned_encoding t.maximum) t.minimum t.maximum (u64_encodes t.minimum p.minimum) maximum in (
      (table_flags t, limits_in t),
      refl,
      record { front = flags_code (table_flags t) ∷ []; back = unsigned_encoding t.minimum ++ optional_encoding unsigned_encoding t.maximum; joined = refl; first = refl; second = ((t.minimum, t.maximum), refl, numbers) },
    )

table_encodes_in : (w : Grammar) (t : TableType) → IsTable t → table_type (minimal_of w) (table_encoding_in w t) t
table_encodes_in w t p =
    let back = flags_code (table_flags t) ∷ (unsigned_encoding t.minimum ++ optional_encoding unsigned_encoding t.maximum) in (
      (t.element_type, limits_in t),
      refl,
      record { front = ref_encoding_in w t.element_type; back = back; joined = refl; first = ref_encodes_in w t.element_type p.element_type; second = minimal_in w (limits_in t) back limits_both (limits_encodes t p) },
    )

pub table_type_in : (w : Grammar) → EncodesIn w table_type (λ t. t) (table_encoding_in w)
table_type_in w = record { minimal_in = λ s t h. table_encodes_in w t (table_is (padded_of w) s t h) }

pub table_walks : {E : Type 0} {seen : E → List ℕ → Type 0} {w : Grammar} {bytes rest : List ℕ} {old new : E} → Walks seen w table_type bytes rest old new → Walks seen w table_item bytes rest old new
table_walks {bytes = bytes} {rest = rest} h = record { value = without_init h.value; decoded = table_decodes bytes rest h.value h.decoded; encoding = h.encoding; encodes = inl (h.value, refl, h.encodes); taken = h.taken }

pub table_init_walks : {E : Type 0} {seen : E → List ℕ → Type 0} {w : Grammar} {bytes middle after rest : List ℕ} {old between new : E} {b c : ℕ} → Decodes byte (padded_of w) bytes b middle → b ≡ 0x40 → Decodes byte (padded_of w) middle c after → c ≡ 0x00 → TakesBytes seen before_init old between → Walks seen w (pair table_type expression) after rest between new → Walks seen w table_item bytes rest old new
table_init_walks {seen = seen} {bytes = bytes} {middle = middle} {after = after} {rest = rest} {old = old} {between = between} {new = new} {b = b} {c = c} h p k q e g = record {
  value = with_init g.value;
  decoded = table_with bytes middle after rest b c g.value.0 g.value.1 h p k q g.decoded;
  encoding = before_init ++ g.encoding;
  encodes = inr (g.value, refl, ((tt, g.value), refl, record { front = before_init; back = g.encoding; joined = refl; first = (refl, refl); second = g.encodes }));
  taken = take_then seen before_init g.encoding old between new e g.taken;
}

-- ---- data segments

pub segment_bytes_walk : {E : Type 0} (seen : E → List ℕ → Type 0) (w : Grammar) (content bytes rest : List ℕ) (old new : E) → Decodes (size_prefixed any_bytes) (padded_of w) bytes content rest → TakesBytes seen (size_prefixed_encoding content) old new → Walks seen w (vec byte) bytes rest old new
segment_bytes_walk seen w content bytes rest old new h e =
    let size = h.encodes in
    let encodable : HasEncodableSize content = subst HasEncodableSize size.encodes (omega (arith, size.size.range)) in
    walked_as seen w (vec byte) content bytes rest (size_prefixed_encoding content) old new (bytes_read bytes rest content h) (minimal_in w content (size_prefixed_encoding content) (vec_both byte_both) (bytes_encodes content encodable)) e

-- The minimal encodings of the builders' grammar are minimal in each.
item_in : (w : Grammar) (s : List ℕ) (x : _) → data_in builders (minimal_of w) s x → data_item (minimal_of w) s x
item_in builders s x h = h
item_in admitted s x h = h

module _ {E : Type 0} {seen : E → List ℕ → Type 0} {w : Grammar} {n : ℕ} {bytes middle rest : List ℕ} {old between new : E} (h : Decodes u32 (padded_of w) bytes n middle) where
  pub first_walks : n ≡ 0 → TakesBytes seen (unsigned_encoding 0) old between → Walks seen w (pair expression (vec byte)) middle rest between new → Walks seen w data_item bytes rest old new
  first_walks e a g = record {
    value = active 0 g.value.0 g.value.1;
    decoded = first_decodes bytes middle rest n g.value.0 g.value.1 h e g.decoded;
    encoding = unsigned_encoding 0 ++ g.encoding;
    encodes = item_in w (unsigned_encoding 0 ++ g.encoding) (in_first g.value) ((0, in_first g.value), refl, record { front = unsigned_encoding 0; back = g.encoding; joined = refl; first = u32_in w 0 (omega arith); second = (g.value, refl, g.encodes) });
    taken = take_then seen (unsigned_encoding 0) g.encoding old between new a g.taken;
  }

  pub passive_walks : n ≡ 1 → TakesBytes seen (unsigned_encoding 1) old between → Walks seen w (vec byte) middle rest between new → Walks seen w data_item bytes rest old new
  passive_walks e a g = record {
    value = passive g.value;
    decoded = passive_decodes bytes middle rest n g.value h e g.decoded;
    encoding = unsigned_encoding 1 ++ g.encoding;
    encodes = item_in w (unsigned_encoding 1 ++ g.encoding) (passive g.value) ((1, passive g.value), refl, record { front = unsigned_encoding 1; back = g.encoding; joined = refl; first = u32_in w 1 (omega arith); second = (g.value, refl, g.encodes) });
    taken = take_then seen (unsigned_encoding 1) g.encoding old between new a g.taken;
  }

-- The encoding of an active segment of this memory.
active_encodes_in : (w : Grammar) (memory : ℕ) → memory < 2 ^ 32 → (encoding : List ℕ) (p : List Plain × List ℕ) → pair expression (vec byte) (minimal_of w) encoding p → data_in builders (minimal_of w) (active_front memory ++ encoding) (in_memory (memory, p))
active_encodes_in w zero small encoding p g = ((0, in_first p), refl, record { front = unsigned_encoding 0; back = encoding; joined = refl; first = u32_in w 0 (omega arith); second = (p, refl, g) })
active_encodes_in w (suc n) small encoding p g = (
  (2, in_memory (suc n, p)),
  refl,
  record {
    front = unsigned_encoding 2;
    back = unsigned_encoding (suc n) ++ encoding;
    joined = append_assoc (unsigned_encoding 2) (unsigned_encoding (suc n)) encoding;
    first = u32_in w 2 (omega arith);
    second = ((suc n, p), refl, record { front = unsigned_encoding (suc n); back = encoding; joined = refl; first = (u32_in w (suc n) small, omega arith); second = g });
  },
)

-- An active segment of a memory with an explicit index.
pub memory_walks : {E : Type 0} {seen : E → List ℕ → Type 0} {w : Grammar} {n memory : ℕ} {bytes middle after rest : List ℕ} {old between new : E} → Decodes u32 (padded_of w) bytes n middle → n ≡ 2 → Decodes u32 (padded_of w) middle memory after → HasIndex w memory → TakesBytes seen (active_front memory) old between → Walks seen w (pair expression (vec byte)) after rest between new → Walks seen w data_item bytes rest old new
memory_walks {seen = seen} {w = w} {n = n} {memory = memory} {bytes = bytes} {middle = middle} {after = after} {rest = rest} {old = old} {between = between} {new = new} h e k p a g = record {
  value = in_memory (memory, g.value);
  decoded = other_decodes w bytes middle after n memory h e k p rest g.value.0 g.value.1 g.decoded;
  encoding = active_front memory ++ g.encoding;
  encodes = item_in w (active_front memory ++ g.encoding) (in_memory (memory, g.value)) (active_encodes_in w memory k.encodes.range g.encoding g.value g.encodes);
  taken = take_then seen (active_front memory) g.encoding old between new a g.taken;
}

pub front_of_zero : {E : Type 0} (seen : E → List ℕ → Type 0) (memory : ℕ) (old new : E) → memory ≡ 0 → TakesBytes seen (unsigned_encoding 0) old new → TakesBytes seen (active_front memory) old new
front_of_zero seen memory old new z e = subst (λ n. TakesBytes seen (active_front n) old new) (sym z) e

pub front_of_other : {E : Type 0} (seen : E → List ℕ → Type 0) (memory : ℕ) (old new : E) → memory ≢ 0 → TakesBytes seen (unsigned_encoding 2 ++ unsigned_encoding memory) old new → TakesBytes seen (active_front memory) old new
front_of_other seen zero old new other e = absurd (other refl)
front_of_other seen (suc n) old new other e = e

-- ---- element segments

abbrev flag_walks : {E : Type 0} {seen : E → List ℕ → Type 0} {w : Grammar} (f : ElementFlag) {bytes rest : List ℕ} {old new : E} → Decodes (numbered flag_code) (padded_of w) bytes f rest → TakesBytes seen (unsigned_encoding (flag_code f)) old new → Walks seen w (numbered flag_code) bytes rest old new
flag_walks {seen = seen} {w = w} f {bytes = bytes} {rest = rest} {old = old} {new = new} h e = walked_as seen w (numbered flag_code) f bytes rest (unsigned_encoding (flag_code f)) old new h (u32_canonical.minimal_in w h.front (flag_code f) h.encodes) e

pub code_taken : {E : Type 0} {seen : E → List ℕ → Type 0} {n m : ℕ} {old new : E} → n ≡ m → TakesBytes seen (unsigned_encoding n) old new → TakesBytes seen (unsigned_encoding m) old new
code_taken {seen = seen} {old = old} {new = new} e t = subst (λ n. TakesBytes seen (unsigned_encoding n) old new) e t

abbrev segment_mode_at : Bool → Bool → Format (SegmentMode (List Plain))
segment_mode_at a b = when a (when b (fixed [] declared) (fixed [] inactive)) (when b (mapped in_table (pair u32 expression)) (mapped in_no_table expression))

module _ {E : Type 0} {seen : E → List ℕ → Type 0} {w : Grammar} (f : ElementFlag) {bytes rest : List ℕ} {old new : E} where
  placed_walks : {a b : Bool} → f.not_active ≡ a → f.second ≡ b → Walks seen w (segment_mode_at a b) bytes rest old new → Walks seen w (segment_mode f) bytes rest old new
  placed_walks {a = a} p q h = subst (λ z. Walks seen w (segment_mode_at z f.second) bytes rest old new) (sym p) (subst (λ z. Walks seen w (segment_mode_at a z) bytes rest old new) (sym q) h)

  pub in_table_walks : f.not_active ≡ false → f.second ≡ true → Walks seen w (pair u32 expression) bytes rest old new → Walks seen w (segment_mode f) bytes rest old new
  in_table_walks p q h = placed_walks p q (mapped_walks in_table h)

  pub no_table_walks : f.not_active ≡ false → f.second ≡ false → Walks seen w expression bytes rest old new → Walks seen w (segment_mode f) bytes rest old new
  no_table_walks p q h = placed_walks p q (mapped_walks in_no_table h)

pub declared_walks : {E : Type 0} {seen : E → List ℕ → Type 0} {w : Grammar} (f : ElementFlag) (bytes : List ℕ) (old : E) → f.not_active ≡ true → f.second ≡ true → Walks seen w (segment_mode f) bytes bytes old old
declared_walks f bytes old p q = placed_walks f p q (fixed_walks declared bytes old)

pub inactive_walks : {E : Type 0} {seen : E → List ℕ → Type 0} {w : Grammar} (f : ElementFlag) (bytes : List ℕ) (old : E) → f.not_active ≡ true → f.second ≡ false → Walks seen w (segment_mode f) bytes bytes old old
inactive_walks f bytes old p q = placed_walks f p q (fixed_walks inactive bytes old)

module _ {E : Type 0} {seen : E → List ℕ → Type 0} {w : Grammar} (explicit : Bool) {bytes rest : List ℕ} {old new : E} where
  elements_walk : (given of_expressions : Bool) → explicit ≡ given → Walks seen w (elements_as given of_expressions) bytes rest old new → Walks seen w (elements_as explicit of_expressions) bytes rest old new
  elements_walk given of_expressions e h = subst (λ z. Walks seen w (elements_as z of_expressions) bytes rest old new) (sym e) h

  pub functions_walk : {b : ℕ} {after : List ℕ} {between : E} → explicit ≡ true → Decodes byte (padded_of w) bytes b after → b ≡ 0x00 → TakesBytes seen (0x00 ∷ []) old between → Walks seen w (vec u32) after rest between new → Walks seen w (elements_as explicit false) bytes rest old new
  functions_walk {after = after} p h e a g =
      let split : bytes ≡ 0x00 ∷ after = h.split ∙ ap (λ z. z ++ after) h.encodes ∙ ap (λ z. z ∷ after) e in
      elements_walk true false p (mapped_walks functions (prefixed_walks (0x00 ∷ []) split a g))

  pub only_functions_walk : explicit ≡ false → Walks seen w (vec u32) bytes rest old new → Walks seen w (elements_as explicit false) bytes rest old new
  only_functions_walk p g = elements_walk false false p (mapped_walks functions (prefixed_walks [] refl (take_nothing seen old) g))

  pub expressions_walk : {after : List ℕ} {between : E} → explicit ≡ true → Walks seen w ref_type bytes after old between → Walks seen w (vec expression) after rest between new → Walks seen w (elements_as explicit true) bytes rest old new
  expressions_walk p h g = elements_walk true true p (mapped_walks list_of (pair_walks ref_type (vec expression) h g))

  pub only_expressions_walk : explicit ≡ false → Walks seen w (vec expression) bytes rest old new → Walks seen w (elements_as explicit true) bytes rest old new
  only_expressions_walk p g = elements_walk false true p (mapped_walks list_of (pair_walks (fixed [] FUNCREF) (vec expression) (fixed_walks FUNCREF bytes old) g))

-- The flag, the mode, and the elements that the flag selects.
pub element_walks : {E : Type 0} {seen : E → List ℕ → Type 0} {w : Grammar} (f : ElementFlag) (explicit : Bool) {bytes start middle rest : List ℕ} {old first second new : E} → Decodes (numbered flag_code) (padded_of w) bytes f start → TakesBytes seen (unsigned_encoding (flag_code f)) old first → Walks seen w (segment_mode f) start middle first second
    → explicit ≡ has_kind f → Walks seen w (elements_as explicit f.expressions) middle rest second new → Walks seen w element bytes rest old new
element_walks {seen = seen} {w = w} f explicit {middle = middle} {rest = rest} {second = second} {new = new} h e g p k =
    let elements = subst (λ z. Walks seen w (elements_as z f.expressions) middle rest second new) p k in
    tagged_walks {G = λ f. mapped segment_of (pair (segment_mode f) (elements_as (has_kind f) f.expressions))} (flag_walks f h e) (mapped_walks segment_of (pair_walks (segment_mode f) (elements_as (has_kind f) f.expressions) g elements))

-- ---- imports

entity_encodes_in : (w : Grammar) (ty : EntityType) → IsEntity ty → entity (minimal_of w) (entity_encoding_in w ty) ty
entity_encodes_in w (Function index) p = tagged_encodes (minimal_of w) 0x00 (unsigned_encoding index) (Function index) (index, refl, u32_in w index p)
entity_encodes_in w (Table ty) p = tagged_encodes (minimal_of w) 0x01 (table_encoding_in w ty) (Table ty) (ty, refl, table_encodes_in w ty p)
entity_encodes_in w (Memory ty) p = tagged_encodes (minimal_of w) 0x02 (memory_encoding ty) (Memory ty) (ty, refl, minimal_in w ty (memory_encoding ty) memory_both (memory_encodes ty p))
entity_encodes_in w (Global ty) p = tagged_encodes (minimal_of w) 0x03 (global_encoding_in w ty) (Global ty) (ty, refl, global_encodes_in w ty p)
entity_encodes_in w (Tag ty) p = tagged_encodes (minimal_of w) 0x04 (tag_encoding ty) (Tag ty) (ty, refl, minimal_in w ty (tag_encoding ty) tag_both (tag_encodes ty p))
entity_encodes_in w (FunctionExact index) p = tagged_encodes (minimal_of w) 0x20 (unsigned_encoding index) (FunctionExact index) (index, refl, u32_in w index p)

pub entity_in : (w : Grammar) → EncodesIn w entity (λ ty. ty) (entity_encoding_in w)
entity_in w = record { minimal_in = λ s ty h. entity_encodes_in w ty (entity_is (padded_of w) s ty h) }

-- The bytes of a group: 00, the byte of its kind, and its content.
group_taken : {E : Type 0} {seen : E → List ℕ → Type 0} {w : Grammar} {bytes after : List ℕ} {old middle : E} → (h : Walks seen w name bytes after old middle) (kind b : ℕ) (content : List ℕ) (between new : E) → kind ≡ b → TakesBytes seen (0x00 ∷ kind ∷ []) middle between → TakesBytes seen content between new → TakesBytes seen (h.encoding ++ 0x00 ∷ b ∷ content) old new
group_taken {seen = seen} {old = old} {middle = middle} h kind b content between new e a g =
    let front : TakesBytes seen (0x00 ∷ b ∷ []) middle between = subst (λ z. TakesBytes seen (0x00 ∷ z ∷ []) middle between) e a in
    take_then seen h.encoding (0x00 ∷ b ∷ content) old middle new h.taken (take_then seen (0x00 ∷ b ∷ []) content middle between new front g)

module _ {E : Type 0} {seen : E → List ℕ → Type 0} {w : Grammar} {bytes after rest : List ℕ} {old middle new : E} (h : Walks seen w name bytes after old middle) where
  pub single_walks : {next : List ℕ} {between : E} → Walks seen w name after next middle between → Walks seen w entity next rest between new → Walks seen w import_format bytes rest old new
  single_walks {next = next} {between = between} g k = record {
    value = record { module_name = h.value; imported = single g.value k.value };
    decoded = single_decodes bytes after next rest h.value g.value k.value h.decoded g.decoded k.decoded;
    encoding = h.encoding ++ (g.encoding ++ k.encoding);
    encodes = (
      (h.value, single g.value k.value),
      refl,
      record {
        front = h.encoding;
        back = g.encoding ++ k.encoding;
        joined = refl;
        first = h.encodes;
        second = inl ((g.value, single g.value k.value), refl, record { front = g.encoding; back = k.encoding; joined = refl; first = g.encodes; second = (k.value, refl, k.encodes) });
      },
    );
    taken = take_then seen h.encoding (g.encoding ++ k.encoding) old middle new h.taken (take_then seen g.encoding k.encoding middle between new g.taken k.taken);
  }

  pub named_walks : (kind : ℕ) {group : List ℕ} {between : E} → after ≡ 0x00 ∷ kind ∷ group → kind ≡ 0x7F → TakesBytes seen (0x00 ∷ kind ∷ []) middle between → Walks seen w (vec (pair name entity)) group rest between new → Walks seen w import_format bytes rest old new
  named_walks kind {group = group} {between = between} e p a g = record {
    value = record { module_name = h.value; imported = named g.value };
    decoded = named_decodes bytes after group rest h.value kind g.value h.decoded e p g.decoded;
    encoding = h.encoding ++ 0x00 ∷ 0x7F ∷ g.encoding;
    encodes = (
      (h.value, named g.value),
      refl,
      record {
        front = h.encoding;
        back = 0x00 ∷ 0x7F ∷ g.encoding;
        joined = refl;
        first = h.encodes;
        second = inr ((tt, named g.value), refl, record { front = 0x00 ∷ []; back = 0x7F ∷ g.encoding; joined = refl; first = (refl, refl); second = tagged_encodes (minimal_of w) 0x7F g.encoding (named g.value) (g.value, refl, g.encodes) });
      },
    );
    taken = group_taken h kind 0x7F g.encoding between new p a g.taken;
  }

  pub alike_walks : (kind : ℕ) {group next : List ℕ} {between last : E} → after ≡ 0x00 ∷ kind ∷ group → kind ≡ 0x7E → TakesBytes seen (0x00 ∷ kind ∷ []) middle between → Walks seen w entity group next between last → Walks seen w (vec name) next rest last new → Walks seen w import_format bytes rest old new
  alike_walks kind {group = group} {next = next} {between = between} {last = last} e p a g k = record {
    value = record { module_name = h.value; imported = alike g.value k.value };
    decoded = alike_decodes bytes after group next rest h.value kind g.value k.value h.decoded e p g.decoded k.decoded;
    encoding = h.encoding ++ 0x00 ∷ 0x7E ∷ (g.encoding ++ k.encoding);
    encodes = (
      (h.value, alike g.value k.value),
      refl,
      record {
        front = h.encoding;
        back = 0x00 ∷ 0x7E ∷ (g.encoding ++ k.encoding);
        joined = refl;
        first = h.encodes;
        second = inr (
          (tt, alike g.value k.value),
          refl,
          record {
            front = 0x00 ∷ [];
            back = 0x7E ∷ (g.encoding ++ k.encoding);
            joined = refl;
            first = (refl, refl);
            second = tagged_encodes (minimal_of w) 0x7E (g.encoding ++ k.encoding) (alike g.value k.value) ((g.value, k.value), refl, record { front = g.encoding; back = k.encoding; joined = refl; first = g.encodes; second = k.encodes });
          },
        );
      },
    );
    taken = group_taken h kind 0x7E (g.encoding ++ k.encoding) between new p a (take_then seen g.encoding k.encoding between last new g.taken k.taken);
  }
