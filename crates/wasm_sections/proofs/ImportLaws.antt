-- This file proves that imports are unambiguous, and how they are decoded and minimized.
use Rattle.wasm_base.proofs.Words.{◌≡◌, ◌≢◌, ℕ, ◌<◌, ◌≤◌, List, [], ◌∷◌, ◌++◌, refl, sym, ap, subst, ◌∙◌, arith, lit<, inl, inr, length-append, suc, ◌-◌, length, take, drop, slice_index_or, IsUtf8}
use Rattle.wasm_base.proofs.Words.{IsUtf8-nil, ItemLaws, name, byte, vec, impossible, mapped, pair, prefixed, Format, u32, choice, members, IsEncodableName, Mode, minimal, unsigned_encoding, padded}
use Rattle.wasm_base.proofs.Words.{Unambiguous, BeginsWith, Decodes, Rejects, size_prefixed_encoding, HasEncodableSize, vec_encoding, IsEncodableVec, name_unambiguous, DeterminesTag, AllValues}
use Rattle.wasm_base.proofs.Words.{BeginNeverAlike, begin_apart, mapped_unambiguous, pair_unambiguous, vec_unambiguous, byte_unambiguous, either_unambiguous, prefixed_unambiguous, tagged_unambiguous}
use Rattle.wasm_base.proofs.Words.{tagged_at, choice_of, choice_begins, begins_mapped, values_mapped, values_tagged, none_in_common, values_one_of, u32_unambiguous, u32_small, tagged_encodes}
use Rattle.wasm_base.proofs.Words.{u32_encodes, name_encodes, vec_encodes, pair_encodes, front_name_encodes, take_all, All-nil, All-cons, All-head, All-tail, then_decodes, then_rejects_first}
use Rattle.wasm_base.proofs.Words.{then_rejects_second, mapped_decodes, mapped_rejects, tagged_decodes, tagged_none, tagged_rejects, no_choice, one_of_rejects, one_of_left, one_of_right, SectionLaws}
use Rattle.wasm_base.proofs.Words.{counted_laws, All, AppendsMinimal, built_appended, builders_alone, padded_of, HasEncoding, vec_is}
use Rattle.wasm_sections.specs.{entity_encoding, IsEntity, entity_tags, entity, Imported, single, named, alike, ImportItem, named_encoding, imported_encoding, import_encoding, IsNamed, IsImported}
use Rattle.wasm_sections.specs.{IsImport, alike_of, group_tags, group, named_entity, after_module, import_of, import_format, import_items, IsEncodableImported, IsEncodableImport, global_type}
use Rattle.wasm_sections.specs.{memory_type, table_type, tag_type}
use Rattle.wasm_sections.specs.declared.global.GlobalType.{GlobalType}
use Rattle.wasm_sections.specs.declared.memory.MemoryType.{MemoryType}
use Rattle.wasm_sections.specs.declared.table.TableType.{TableType}
use Rattle.wasm_sections.specs.declared.tag.TagType.{TagType}
use Rattle.wasm_sections.specs.declared.import.EntityType.{EntityType}
use Rattle.wasm_sections.specs.declared.import.EntityType.TheVariants.{Function, Table, Memory, Global, Tag, FunctionExact}
use Rattle.wasm_sections.proofs.GlobalLaws.{global_unambiguous, global_encodes, global_is}
use Rattle.wasm_sections.proofs.MemoryLaws.{memory_unambiguous, memory_encodes, memory_is}
use Rattle.wasm_sections.proofs.TableLaws.{table_unambiguous, table_encodes, table_is}
use Rattle.wasm_sections.proofs.TagLaws.{tag_unambiguous, tag_encodes, tag_is}
use Rattle.wasm_sections.proofs.Prefixes.{prefixed_decodes, prefixed_rejects}

-- ---- entities

abbrev entity_code : EntityType → ℕ
entity_code (Function index) = 0x00
entity_code (Table ty) = 0x01
entity_code (Memory ty) = 0x02
entity_code (Global ty) = 0x03
entity_code (Tag ty) = 0x04
entity_code (FunctionExact index) = 0x20

pub entity_unambiguous : Unambiguous entity
entity_unambiguous =
    choice_of byte entity_code entity_tags byte_unambiguous
    (mapped_unambiguous Function (λ x y e. cc) u32_unambiguous, (mapped_unambiguous Table (λ x y e. cc) table_unambiguous, (mapped_unambiguous Memory (λ x y e. cc) memory_unambiguous, (mapped_unambiguous Global (λ x y e. cc) global_unambiguous, (mapped_unambiguous Tag (λ x y e. cc) tag_unambiguous, (mapped_unambiguous FunctionExact (λ x y e. cc) u32_unambiguous, tt))))))
    (λ mode s x h. ap entity_code h.1, (λ mode s x h. ap entity_code h.1, (λ mode s x h. ap entity_code h.1, (λ mode s x h. ap entity_code h.1, (λ mode s x h. ap entity_code h.1, (λ mode s x h. ap entity_code h.1, tt))))))

pub entity_encodes : (ty : EntityType) → IsEntity ty → entity minimal (entity_encoding ty) ty
entity_encodes (Function index) plain = tagged_encodes minimal 0x00 (unsigned_encoding index) (Function index) (index, refl, u32_encodes index plain)
entity_encodes (Table ty) plain = tagged_encodes minimal 0x01 _ (Table ty) (ty, refl, table_encodes ty plain)
entity_encodes (Memory ty) plain = tagged_encodes minimal 0x02 _ (Memory ty) (ty, refl, memory_encodes ty plain)
entity_encodes (Global ty) plain = tagged_encodes minimal 0x03 _ (Global ty) (ty, refl, global_encodes ty plain)
entity_encodes (Tag ty) plain = tagged_encodes minimal 0x04 _ (Tag ty) (ty, refl, tag_encodes ty plain)
entity_encodes (FunctionExact index) plain = tagged_encodes minimal 0x20 (unsigned_encoding index) (FunctionExact index) (index, refl, u32_encodes index plain)

abbrev pub IsEntityByte : ℕ → Type 0
IsEntityByte b = b < 0x21

pub entity_begins : BeginsWith IsEntityByte entity
entity_begins = choice_begins IsEntityByte entity_tags (λ b. impossible) (lit< tt, (lit< tt, (lit< tt, (lit< tt, (lit< tt, (lit< tt, tt)))))) (λ b mode s x h. absurd h)

-- ---- groups

-- The byte of a group.
abbrev group_code : Imported → ℕ
group_code (single n ty) = 0x00
group_code (named items) = 0x7F
group_code (alike ty names) = 0x7E

abbrev alike_parts : Imported → EntityType × List (List ℕ)
alike_parts (single n ty) = (ty, [])
alike_parts (named items) = (Function 0, [])
alike_parts (alike ty names) = (ty, names)

pub group_unambiguous : Unambiguous group
group_unambiguous =
    choice_of byte group_code group_tags byte_unambiguous
    (mapped_unambiguous named (λ x y e. cc) (vec_unambiguous (pair_unambiguous name_unambiguous entity_unambiguous)), (mapped_unambiguous alike_of (λ x y e. ap alike_parts e) (pair_unambiguous entity_unambiguous (vec_unambiguous name_unambiguous)), tt))
    (λ mode s x h. ap group_code h.1, (λ mode s x h. ap group_code h.1, tt))

abbrev pub IsGroupByte : ℕ → Type 0
IsGroupByte b = 0x7E ≤ b

pub group_begins : BeginsWith IsGroupByte group
group_begins = choice_begins IsGroupByte group_tags (λ b. impossible) (omega arith, (omega arith, tt)) (λ b mode s x h. absurd h)

abbrev IsGroup : Imported → Type 0
IsGroup x = group_code x ≢ 0

group_values : AllValues IsGroup group
group_values = values_tagged IsGroup group_tags (values_mapped IsGroup named _ (λ x e. omega (arith, e)), (values_mapped IsGroup alike_of _ (λ x e. omega (arith, e)), tt))

-- ---- imports

abbrev item_name : Imported → List ℕ
item_name (single n ty) = n
item_name (named items) = []
item_name (alike ty names) = []

name_determines : DeterminesTag (λ item. mapped (single item) entity) item_name
name_determines mode item s x h = ap item_name h.1

pub named_entity_unambiguous : Unambiguous named_entity
named_entity_unambiguous = tagged_unambiguous item_name name_determines name_unambiguous (λ item. mapped_unambiguous (single item) (λ x y e. cc) entity_unambiguous)

abbrev IsSingle : Imported → Type 0
IsSingle x = group_code x ≡ 0

named_entity_values : AllValues IsSingle named_entity
named_entity_values mode s x h = subst IsSingle (h.2.second.1 ∙ h.1) refl

after_zero_values : AllValues IsGroup (prefixed (0x00 ∷ []) group)
after_zero_values mode s x h = subst IsGroup h.1 (group_values mode h.2.back h.0.1 h.2.second)

pub empty_name : (mode : Mode) → name mode (0x00 ∷ []) []
empty_name mode = (record { front = 0x00 ∷ []; content = []; joined = refl; size = u32_small mode 0 (omega arith); encodes = refl }, IsUtf8-nil)

-- After the byte 00, no byte begins both an entity and a group.
never_alike : BeginNeverAlike named_entity (prefixed (0x00 ∷ []) group)
never_alike mode s t r u x y h g e =
    let back = g.2.back in
    let split : 0x00 ∷ (back ++ u) ≡ s ++ r = sym (e ∙ ap (λ z. z ++ u) (g.2.joined ∙ ap (λ z. z ++ back) g.2.first.0)) in
    let found = tagged_at {F = name} {G = λ item. mapped (single item) entity} name_unambiguous mode (0x00 ∷ []) [] (empty_name mode) (back ++ u) s r x split h in
    begin_apart IsEntityByte IsGroupByte (λ b p q. omega (arith, p, q)) (begins_mapped IsEntityByte (single []) entity_begins) group_begins mode found.0 back r u x g.0.1 found.2 g.2.second (sym found.1)

pub after_module_unambiguous : Unambiguous after_module
after_module_unambiguous =
    either_unambiguous never_alike (none_in_common IsSingle IsGroup (λ x p q. q p) named_entity_values after_zero_values) named_entity_unambiguous (prefixed_unambiguous (0x00 ∷ []) group_unambiguous)

pub import_unambiguous : Unambiguous import_format
import_unambiguous = mapped_unambiguous import_of (λ x y e. ap (λ i. (i.module_name, i.imported)) e) (pair_unambiguous name_unambiguous after_module_unambiguous)

-- ---- encodings

named_encodes : (i : List ℕ × EntityType) → IsNamed i → pair name entity minimal (named_encoding i) i
named_encodes i plain = pair_encodes name entity (size_prefixed_encoding i.0) (entity_encoding i.1) i.0 i.1 (name_encodes i.0 plain.0.0 plain.0.1) (entity_encodes i.1 plain.1)

group_encodes : (back : List ℕ) (x : Imported) → group minimal back x → after_module minimal (0x00 ∷ back) x
group_encodes back x h = inr ((tt, x), refl, record { front = 0x00 ∷ []; back = back; joined = refl; first = (refl, refl); second = h })

single_encodes : (n : List ℕ) (ty : EntityType) → name minimal (size_prefixed_encoding n) n → IsEntity ty → after_module minimal (imported_encoding (single n ty)) (single n ty)
single_encodes n ty encodes plain = inl ((n, single n ty), refl, record { front = size_prefixed_encoding n; back = entity_encoding ty; joined = refl; first = encodes; second = (ty, refl, entity_encodes ty plain) })

items_encodes : (items : List (List ℕ × EntityType)) → IsEncodableVec IsNamed items → after_module minimal (imported_encoding (named items)) (named items)
items_encodes items plain =
    let content = vec_encoding named_encoding items in
    group_encodes (0x7F ∷ content) (named items) (tagged_encodes minimal 0x7F content (named items) (items, refl, vec_encodes (pair name entity) IsNamed named_encoding named_encodes items plain))

names_encodes : (ty : EntityType) (names : List (List ℕ)) → IsEntity ty → IsEncodableVec IsEncodableName names → after_module minimal (imported_encoding (alike ty names)) (alike ty names)
names_encodes ty names plain encodable =
    let listed = vec_encoding size_prefixed_encoding names in
    let encodes = vec_encodes name IsEncodableName size_prefixed_encoding (λ n h. name_encodes n h.0 h.1) names encodable in
    group_encodes (0x7E ∷ (entity_encoding ty ++ listed)) (alike ty names)
    (tagged_encodes minimal 0x7E (entity_encoding ty ++ listed) (alike ty names) ((ty, names), refl, pair_encodes entity (vec name) (entity_encoding ty) listed ty names (entity_encodes ty plain) encodes))

imported_encodes : (x : Imported) → IsImported x → HasEncodableSize (imported_encoding x) → after_module minimal (imported_encoding x) x
imported_encodes (single n ty) plain encodable = single_encodes n ty (front_name_encodes n (entity_encoding ty) plain.0 encodable) plain.1
imported_encodes (named items) plain encodable = items_encodes items plain
imported_encodes (alike ty names) plain encodable = names_encodes ty names plain.0 plain.1

import_encodes : (i : ImportItem) → IsImport i → HasEncodableSize (import_encoding i) → import_format minimal (import_encoding i) i
import_encodes i plain encodable =
    let back = imported_encoding i.imported in
    let whole = length-append (size_prefixed_encoding i.module_name) back in (
      (i.module_name, i.imported),
      refl,
      pair_encodes name after_module (size_prefixed_encoding i.module_name) back i.module_name i.imported
          (front_name_encodes i.module_name back plain.0 encodable)
          (imported_encodes i.imported plain.1 (omega (arith, encodable, whole))),
    )

pub import_laws : ItemLaws import_items
import_laws = record { unique = import_unambiguous; encodes = import_encodes }

pub imports_section : SectionLaws import_items (vec import_format)
imports_section = counted_laws import_laws (λ given plain. plain) (λ given plain. plain)

-- ---- decoding imports

-- ---- entities

abbrev after_kind : ℕ → Format EntityType
after_kind b = choice entity_tags (λ c. impossible) b

entity_at : {m : Mode} (c : ℕ) {bytes rest last : List ℕ} {b : ℕ} {x : EntityType} → Decodes byte m bytes b rest → b ≡ c → Decodes (after_kind c) m rest x last → Decodes entity m bytes x last
entity_at {m = m} c {rest = rest} {last = last} {x = x} h e g = tagged_decodes {G = after_kind} h (subst (λ z. Decodes (after_kind z) m rest x last) (sym e) g)

entity_not : {m : Mode} (c : ℕ) {bytes rest : List ℕ} {b : ℕ} → Decodes byte m bytes b rest → b ≡ c → Rejects (after_kind c) m rest → Rejects entity m bytes
entity_not {m = m} c {rest = rest} h e n = tagged_rejects {G = after_kind} byte_unambiguous h (subst (λ z. Rejects (after_kind z) m rest) (sym e) n)

pub entity_none : {m : Mode} (bytes : List ℕ) → Rejects byte m bytes → Rejects entity m bytes
entity_none bytes n = tagged_none byte after_kind bytes n

pub entity_unknown : {m : Mode} (bytes rest : List ℕ) (b : ℕ) → Decodes byte m bytes b rest → b ≢ 0x00 → b ≢ 0x01 → b ≢ 0x02 → b ≢ 0x03 → b ≢ 0x04 → b ≢ 0x20 → Rejects entity m bytes
entity_unknown bytes rest b h p q r s t u = tagged_rejects {G = after_kind} byte_unambiguous h (no_choice entity_tags b rest (p, (q, (r, (s, (t, (u, tt)))))))

pub entity_function : {m : Mode} (bytes rest last : List ℕ) (b n : ℕ) → Decodes byte m bytes b rest → b ≡ 0x00 → Decodes u32 m rest n last → Decodes entity m bytes (Function n) last
entity_function bytes rest last b n h e g = entity_at 0x00 h e (mapped_decodes Function g)

pub entity_no_function : {m : Mode} (bytes rest : List ℕ) (b : ℕ) → Decodes byte m bytes b rest → b ≡ 0x00 → Rejects u32 m rest → Rejects entity m bytes
entity_no_function bytes rest b h e n = entity_not 0x00 h e (mapped_rejects Function n)

pub entity_table : {m : Mode} (bytes rest last : List ℕ) (b : ℕ) (t : TableType) → Decodes byte m bytes b rest → b ≡ 0x01 → Decodes table_type m rest t last → Decodes entity m bytes (Table t) last
entity_table bytes rest last b t h e g = entity_at 0x01 h e (mapped_decodes Table g)

pub entity_no_table : {m : Mode} (bytes rest : List ℕ) (b : ℕ) → Decodes byte m bytes b rest → b ≡ 0x01 → Rejects table_type m rest → Rejects entity m bytes
entity_no_table bytes rest b h e n = entity_not 0x01 h e (mapped_rejects Table n)

pub entity_memory : {m : Mode} (bytes rest last : List ℕ) (b : ℕ) (t : MemoryType) → Decodes byte m bytes b rest → b ≡ 0x02 → Decodes memory_type m rest t last → Decodes entity m bytes (Memory t) last
entity_memory bytes rest last b t h e g = entity_at 0x02 h e (mapped_decodes Memory g)

pub entity_no_memory : {m : Mode} (bytes rest : List ℕ) (b : ℕ) → Decodes byte m bytes b rest → b ≡ 0x02 → Rejects memory_type m rest → Rejects entity m bytes
entity_no_memory bytes rest b h e n = entity_not 0x02 h e (mapped_rejects Memory n)

pub entity_global : {m : Mode} (bytes rest last : List ℕ) (b : ℕ) (t : GlobalType) → Decodes byte m bytes b rest → b ≡ 0x03 → Decodes global_type m rest t last → Decodes entity m bytes (Global t) last
entity_global bytes rest last b t h e g = entity_at 0x03 h e (mapped_decodes Global g)

pub entity_no_global : {m : Mode} (bytes rest : List ℕ) (b : ℕ) → Decodes byte m bytes b rest → b ≡ 0x03 → Rejects global_type m rest → Rejects entity m bytes
entity_no_global bytes rest b h e n = entity_not 0x03 h e (mapped_rejects Global n)

pub entity_tag : {m : Mode} (bytes rest last : List ℕ) (b : ℕ) (t : TagType) → Decodes byte m bytes b rest → b ≡ 0x04 → Decodes tag_type m rest t last → Decodes entity m bytes (Tag t) last
entity_tag bytes rest last b t h e g = entity_at 0x04 h e (mapped_decodes Tag g)

pub entity_no_tag : {m : Mode} (bytes rest : List ℕ) (b : ℕ) → Decodes byte m bytes b rest → b ≡ 0x04 → Rejects tag_type m rest → Rejects entity m bytes
entity_no_tag bytes rest b h e n = entity_not 0x04 h e (mapped_rejects Tag n)

pub entity_exact : {m : Mode} (bytes rest last : List ℕ) (b n : ℕ) → Decodes byte m bytes b rest → b ≡ 0x20 → Decodes u32 m rest n last → Decodes entity m bytes (FunctionExact n) last
entity_exact bytes rest last b n h e g = entity_at 0x20 h e (mapped_decodes FunctionExact g)

pub entity_no_exact : {m : Mode} (bytes rest : List ℕ) (b : ℕ) → Decodes byte m bytes b rest → b ≡ 0x20 → Rejects u32 m rest → Rejects entity m bytes
entity_no_exact bytes rest b h e n = entity_not 0x20 h e (mapped_rejects FunctionExact n)

pub ruleset entity_steps = (entity_unknown, entity_memory, entity_exact)

-- ---- the front of a group

abbrev behind_zero : Format Imported
behind_zero = prefixed (0x00 ∷ []) group

-- The first two bytes and the suffix, as a slice pattern splits the bytes.
pub group_found : (bytes : List ℕ) → 2 ≤ length bytes → slice_index_or bytes 0 0 ≡ 0 → bytes ≡ 0x00 ∷ slice_index_or bytes 1 0 ∷ take (length bytes - 2) (drop 2 bytes)
group_found [] l e = absurd (omega (arith, l))
group_found (b ∷ []) l e = absurd (omega (arith, l))
group_found (b ∷ c ∷ rest) l e = ap (λ z. z ∷ c ∷ rest) e ∙ ap (λ z. 0x00 ∷ c ∷ z) (sym (take_all (suc (suc (length rest)) - 2) rest (omega arith)))

-- A group begins with its byte.
of_group : {m : Mode} {bytes last : List ℕ} {x : Imported} → Decodes group m bytes x last → (b : ℕ) × (rest : List ℕ) × (bytes ≡ b ∷ rest) × IsGroupByte b
of_group {m = m} {last = last} {x = x} h = let b = group_begins m h.front x h.encodes in (b.0, b.1 ++ last, h.split ∙ ap (λ z. z ++ last) b.2, b.3)

no_group : {m : Mode} (bytes : List ℕ) → ((k : ℕ) (rest : List ℕ) → bytes ≡ 0x00 ∷ k ∷ rest → 0x7E ≤ k → ⊥) → Rejects behind_zero m bytes
no_group {m = m} bytes none = record {
  none = λ x last h.
      let s = h.encodes.2 in
      let g : Decodes group m (s.back ++ last) x last = record { front = s.back; split = refl; encodes = subst (λ z. group m s.back z) h.encodes.1 s.second } in
      let b = of_group g in
      none b.0 b.1 (h.split ∙ ap (λ z. z ++ last) (s.joined ∙ ap (λ z. z ++ s.back) s.first.0) ∙ ap (λ z. 0x00 ∷ z) b.2) b.3;
}

pub group_short : {m : Mode} (bytes : List ℕ) → length bytes < 2 → Rejects behind_zero m bytes
group_short bytes l = no_group bytes (λ k rest e p. omega (arith, l, ap length e))

pub group_not_empty : {m : Mode} (bytes : List ℕ) → 2 ≤ length bytes → slice_index_or bytes 0 0 ≢ 0 → Rejects behind_zero m bytes
group_not_empty bytes l other = no_group bytes (λ k rest e p. other (ap (λ z. slice_index_or z 0 0) e))

pub group_low : {m : Mode} (bytes : List ℕ) → 2 ≤ length bytes → slice_index_or bytes 1 0 < 0x7E → Rejects behind_zero m bytes
group_low bytes l low = no_group bytes (λ k rest e p. omega (arith, low, p, ap (λ z. slice_index_or z 1 0) e))

pub ruleset group_steps = (group_found, group_short, group_not_empty, group_low)

-- ---- single imports

named_from : {m : Mode} {bytes last encoding : List ℕ} {ty : EntityType} → Decodes (pair name entity) m bytes (encoding, ty) last → Decodes named_entity m bytes (single encoding ty) last
named_from {encoding = encoding} {ty = ty} h =
    let s = h.encodes in
    record { front = h.front; split = h.split; encodes = ((encoding, single encoding ty), refl, record { front = s.front; back = s.back; joined = s.joined; first = s.first; second = (ty, refl, s.second) }) }

named_rejects : {m : Mode} {bytes : List ℕ} → Rejects (pair name entity) m bytes → Rejects named_entity m bytes
named_rejects n = record {
  none = λ x last h.
      let s = h.encodes.2 in
      n.none (h.encodes.0.0, s.second.0) last (record { front = h.front; split = h.split; encodes = record { front = s.front; back = s.back; joined = s.joined; first = s.first; second = s.second.2 } });
}

pub import_no_module : {m : Mode} (bytes : List ℕ) → Rejects name m bytes → Rejects import_format m bytes
import_no_module bytes n = mapped_rejects import_of (then_rejects_first n)

pub single_decodes : {m : Mode} (bytes rest next last from encoding : List ℕ) (ty : EntityType) → Decodes name m bytes from rest → Decodes name m rest encoding next → Decodes entity m next ty last → Decodes import_format m bytes (record { module_name = from; imported = single encoding ty }) last
single_decodes bytes rest next last from encoding ty h g k = mapped_decodes import_of (then_decodes h (one_of_left behind_zero (named_from (then_decodes g k))))

single_none : {m : Mode} {bytes rest from : List ℕ} → Decodes name m bytes from rest → Rejects behind_zero m rest → Rejects (pair name entity) m rest → Rejects import_format m bytes
single_none h other n = mapped_rejects import_of (then_rejects_second name_unambiguous h (one_of_rejects (named_rejects n) other))

pub single_no_name : {m : Mode} (bytes rest from : List ℕ) → Decodes name m bytes from rest → Rejects behind_zero m rest → Rejects name m rest → Rejects import_format m bytes
single_no_name bytes rest from h other n = single_none h other (then_rejects_first n)

pub single_no_type : {m : Mode} (bytes rest next from encoding : List ℕ) → Decodes name m bytes from rest → Rejects behind_zero m rest → Decodes name m rest encoding next → Rejects entity m next → Rejects import_format m bytes
single_no_type bytes rest next from encoding h other g n = single_none h other (then_rejects_second name_unambiguous g n)

-- ---- groups

-- After an empty name, the byte of a group begins no entity.
not_named : {m : Mode} {bytes after : List ℕ} {k : ℕ} → bytes ≡ 0x00 ∷ k ∷ after → 0x7E ≤ k → Rejects named_entity m bytes
not_named {m = m} {after = after} {k = k} e l = record {
  none = λ x last h.
      let found = tagged_at {F = name} {G = λ item. mapped (single item) entity} name_unambiguous m (0x00 ∷ []) [] (empty_name m) (k ∷ after) h.front last x (sym e ∙ h.split) h.encodes in
      let b = entity_begins m found.0 found.2.0 found.2.2 in
      let same : k ≡ b.0 = first (found.1 ∙ ap (λ z. z ++ last) b.2) in
      omega (arith, l, same, b.3);
}
  where
    first : {c : ℕ} {s t : List ℕ} → k ∷ s ≡ c ∷ t → k ≡ c
    first e = cc e

abbrev after_zero : ℕ → Format Imported
after_zero b = choice group_tags (λ c. impossible) b

at_byte : {m : Mode} (k : ℕ) (after : List ℕ) → Decodes byte m (k ∷ after) k after
at_byte k after = record { front = k ∷ []; split = refl; encodes = refl }

group_decodes : {m : Mode} (c : ℕ) {bytes rest after last from : List ℕ} {k : ℕ} {x : Imported} → Decodes name m bytes from rest → rest ≡ 0x00 ∷ k ∷ after → k ≡ c → Decodes (after_zero c) m after x last → Decodes import_format m bytes (record { module_name = from; imported = x }) last
group_decodes {m = m} c {after = after} {last = last} {k = k} {x = x} h e f g =
    let inside : Decodes group m (k ∷ after) x last = tagged_decodes {G = after_zero} (at_byte k after) (subst (λ z. Decodes (after_zero z) m after x last) (sym f) g) in
    mapped_decodes import_of (then_decodes h (one_of_right named_entity (prefixed_decodes (0x00 ∷ []) group e inside)))

group_rejects : {m : Mode} {bytes rest after from : List ℕ} {k : ℕ} → Decodes name m bytes from rest → rest ≡ 0x00 ∷ k ∷ after → 0x7E ≤ k → Rejects (after_zero k) m after → Rejects import_format m bytes
group_rejects {m = m} {after = after} {k = k} h e l n =
    let inside : Rejects group m (k ∷ after) = tagged_rejects {G = after_zero} byte_unambiguous (at_byte k after) n in
    mapped_rejects import_of (then_rejects_second name_unambiguous h (one_of_rejects (not_named e l) (prefixed_rejects (0x00 ∷ []) group e inside)))

pub named_decodes : {m : Mode} (bytes rest after last from : List ℕ) (k : ℕ) (items : List (List ℕ × EntityType)) → Decodes name m bytes from rest → rest ≡ 0x00 ∷ k ∷ after → k ≡ 0x7F → Decodes (vec (pair name entity)) m after items last
    → Decodes import_format m bytes (record { module_name = from; imported = named items }) last
named_decodes bytes rest after last from k items h e f g = group_decodes 0x7F h e f (mapped_decodes named g)

pub named_none : {m : Mode} (bytes rest after from : List ℕ) (k : ℕ) → Decodes name m bytes from rest → rest ≡ 0x00 ∷ k ∷ after → k ≡ 0x7F → Rejects (vec (pair name entity)) m after → Rejects import_format m bytes
named_none {m = m} bytes rest after from k h e f n = group_rejects h e (omega (arith, f)) (subst (λ z. Rejects (after_zero z) m after) (sym f) (mapped_rejects named n))

pub alike_decodes : {m : Mode} (bytes rest after next last from : List ℕ) (k : ℕ) (ty : EntityType) (names : List (List ℕ)) → Decodes name m bytes from rest → rest ≡ 0x00 ∷ k ∷ after → k ≡ 0x7E → Decodes entity m after ty next → Decodes (vec name) m next names last
    → Decodes import_format m bytes (record { module_name = from; imported = alike ty names }) last
alike_decodes bytes rest after next last from k ty names h e f g j = group_decodes 0x7E h e f (mapped_decodes alike_of (then_decodes g j))

alike_none : {m : Mode} {bytes rest after from : List ℕ} {k : ℕ} → Decodes name m bytes from rest → rest ≡ 0x00 ∷ k ∷ after → k ≡ 0x7E → Rejects (pair entity (vec name)) m after → Rejects import_format m bytes
alike_none {m = m} {after = after} h e f n = group_rejects h e (omega (arith, f)) (subst (λ z. Rejects (after_zero z) m after) (sym f) (mapped_rejects alike_of n))

pub alike_no_type : {m : Mode} (bytes rest after from : List ℕ) (k : ℕ) → Decodes name m bytes from rest → rest ≡ 0x00 ∷ k ∷ after → k ≡ 0x7E → Rejects entity m after → Rejects import_format m bytes
alike_no_type bytes rest after from k h e f n = alike_none h e f (then_rejects_first n)

pub alike_no_names : {m : Mode} (bytes rest after next from : List ℕ) (k : ℕ) (ty : EntityType) → Decodes name m bytes from rest → rest ≡ 0x00 ∷ k ∷ after → k ≡ 0x7E → Decodes entity m after ty next → Rejects (vec name) m next → Rejects import_format m bytes
alike_no_names bytes rest after next from k ty h e f g n = alike_none h e f (then_rejects_second entity_unambiguous g n)

pub group_unknown : {m : Mode} (bytes rest after from : List ℕ) (k : ℕ) → Decodes name m bytes from rest → rest ≡ 0x00 ∷ k ∷ after → 0x7E ≤ k → k ≢ 0x7F → k ≢ 0x7E → Rejects import_format m bytes
group_unknown bytes rest after from k h e l p q = group_rejects h e l (no_choice group_tags k after (p, (q, tt)))

pub ruleset import_steps = (alike_decodes, alike_no_type, alike_no_names, group_unknown)

-- ---- the one minimal encoding of decoded imports

pub entity_is : AllValues IsEntity entity
entity_is =
    values_tagged IsEntity entity_tags (
      λ mode s x h. subst IsEntity h.1 h.2.range,
      (λ mode s x h. subst IsEntity h.1 (table_is mode s h.0 h.2), (λ mode s x h. subst IsEntity h.1 (memory_is mode s h.0 h.2), (λ mode s x h. subst IsEntity h.1 (global_is mode s h.0 h.2), (λ mode s x h. subst IsEntity h.1 (tag_is mode s h.0 h.2), (λ mode s x h. subst IsEntity h.1 h.2.range, tt))))),
    )

-- A name that is UTF-8, and an entity whose numbers are in range.
abbrev IsDecoded : List ℕ × EntityType → Type 0
IsDecoded i = IsUtf8 i.0 × IsEntity i.1

-- Item names are UTF-8, and numbers are in range.
abbrev IsSaid : Imported → Type 0
IsSaid (single n ty) = IsUtf8 n × IsEntity ty
IsSaid (named items) = All IsDecoded items
IsSaid (alike ty names) = IsEntity ty × All IsUtf8 names

all_members : {X : Type 0} (Q : X → Type 0) (F : Format X) → AllValues Q F → (mode : Mode) (s : List ℕ) (xs : List X) → members F mode s xs → All Q xs
all_members Q F all mode s [] h = All-nil Q
all_members Q F all mode s (x ∷ xs) h = All-cons Q x xs (all mode h.0 x h.3) (all_members Q F all mode h.1 xs h.4)

named_is : AllValues IsDecoded (pair name entity)
named_is mode s i h = (h.first.1, entity_is mode h.back i.1 h.second)

single_is : AllValues IsSaid named_entity
single_is mode s x h = subst IsSaid (h.2.second.1 ∙ h.1) (h.2.first.1, entity_is mode h.2.back h.2.second.0 h.2.second.2)

group_is : AllValues IsSaid group
group_is =
    values_tagged IsSaid group_tags (
      λ mode s x h. subst IsSaid h.1 (all_members IsDecoded (pair name entity) named_is mode h.2.back h.0 h.2.second),
      (λ mode s x h. subst IsSaid h.1 (entity_is mode h.2.front h.0.0 h.2.first, all_members IsUtf8 name (λ mode s n k. k.1) mode h.2.second.back h.0.1 h.2.second.second), tt),
    )

imported_is : AllValues IsSaid after_module
imported_is = values_one_of IsSaid single_is (λ mode s x h. subst IsSaid h.1 (group_is mode h.2.back h.0.1 h.2.second))

all_both : {X : Type 0} (P Q R : X → Type 0) → ((x : X) → P x → Q x → R x) → (xs : List X) → All P xs → All Q xs → All R xs
all_both P Q R f [] p q = All-nil R
all_both P Q R f (x ∷ xs) p q = All-cons R x xs (f x (All-head P x xs p) (All-head Q x xs q)) (all_both P Q R f xs (All-tail P x xs p) (All-tail Q x xs q))

said_encodes : (x : Imported) → IsEncodableImported x → IsSaid x → after_module minimal (imported_encoding x) x
said_encodes (single n ty) encodable is = single_encodes n ty (name_encodes n is.0 encodable) is.1
said_encodes (named items) encodable is = items_encodes items (record { count = encodable.count; members = all_both (λ i. HasEncodableSize i.0) IsDecoded IsNamed (λ i f r. ((r.0, f), r.1)) items encodable.members is })
said_encodes (alike ty names) encodable is = names_encodes ty names is.0 (record { count = encodable.count; members = all_both HasEncodableSize IsUtf8 IsEncodableName (λ n f r. (r, f)) names encodable.members is.1 })

-- All names are UTF-8, and numbers are in range.
abbrev IsWhole : ImportItem → Type 0
IsWhole i = IsUtf8 i.module_name × IsSaid i.imported

import_is : AllValues IsWhole import_format
import_is mode s i h = subst IsWhole h.1 (h.2.first.1, imported_is mode h.2.back h.0.1 h.2.second)

import_short : (i : ImportItem) → IsEncodableImport i → (s : List ℕ) → import_format padded s i → import_format minimal (import_encoding i) i
import_short i encodable s h =
    let is = import_is padded s i h in
    ((i.module_name, i.imported), refl, pair_encodes name after_module (size_prefixed_encoding i.module_name) (imported_encoding i.imported) i.module_name i.imported (name_encodes i.module_name is.0 encodable.0) (said_encodes i.imported encodable.1 is.1))

pub import_appended : (i : ImportItem) (old new : List ℕ) → IsEncodableImport i → new ≡ old ++ import_encoding i → AppendsMinimal builders_alone import_format i old new
import_appended i old new encodable e = built_appended import_format i (import_encoding i) old new (import_short i encodable) e

-- ---- names and counts of values that have an encoding

name_fitting : AllValues HasEncodableSize name
name_fitting mode s n h = omega (arith, ap length h.0.encodes, h.0.size.range)

group_fitting : AllValues IsEncodableImported group
group_fitting =
    values_tagged IsEncodableImported group_tags (
      λ mode s x h. subst IsEncodableImported h.1 (vec_is (λ i. HasEncodableSize i.0) (pair name entity) (λ mode s i k. name_fitting mode k.front i.0 k.first) mode s h.0 h.2),
      (λ mode s x h. subst IsEncodableImported h.1 (vec_is HasEncodableSize name name_fitting mode h.2.back h.0.1 h.2.second), tt),
    )

imported_fitting : AllValues IsEncodableImported after_module
imported_fitting =
    values_one_of IsEncodableImported (λ mode s x h. subst IsEncodableImported (h.2.second.1 ∙ h.1) (name_fitting mode h.2.front h.0.0 h.2.first)) (λ mode s x h. subst IsEncodableImported h.1 (group_fitting mode h.2.back h.0.1 h.2.second))

import_fitting : AllValues IsEncodableImport import_format
import_fitting mode s i h = subst IsEncodableImport h.1 (name_fitting mode h.2.front h.0.0 h.2.first, imported_fitting mode h.2.back h.0.1 h.2.second)

pub import_encodable : (i : ImportItem) → HasEncoding builders_alone import_format i → IsEncodableImport i
import_encodable i h = import_fitting (padded_of h.grammar) h.bytes i h.decoded
