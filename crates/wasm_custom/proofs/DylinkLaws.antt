-- This file proves that sections of dynamic libraries are unambiguous, and how they are decoded and
-- minimized.
use Rattle.wasm_base.proofs.Words.{◌≡◌, ◌≢◌, ◌+◌, ℕ, List, [], ◌∷◌, ◌++◌, length, length-append, false, ap, ap₂, refl, ◌∙◌, Format, u32, byte, name, just, vec, pair, mapped, fixed}
use Rattle.wasm_base.proofs.Words.{prefixed, size_prefixed, members, any_bytes, any_bytes_whole, minimal, padded, Mode, Grammar, builders, admitted, is_admitted, padded_of, true, IsIncludedIn, BeginsWith, IsOther, Unambiguous, Decodes, Rejects, RejectsWhole, AppendsMinimal, both_grammars, HasEncoding, HasEncodableSize}
use Rattle.wasm_base.proofs.Words.{IsEncodableName, IsEncodableVec, unsigned_encoding, size_prefixed_encoding, vec_encoding, AllDetermine, ItemLaws, SectionLaws, pair_encodes, u32_encodes}
use Rattle.wasm_base.proofs.Words.{name_encodes, vec_encodes, size_prefixed_encodes, tagged_encodes, tagged_begins, mapped_unambiguous, pair_unambiguous, name_unambiguous, u32_unambiguous}
use Rattle.wasm_base.proofs.Words.{byte_unambiguous, vec_unambiguous, size_prefixed_unambiguous, whole_from_unique, fixed_unambiguous, choice_of, ascii, mapped_decodes, mapped_rejects}
use Rattle.wasm_base.proofs.FormatLaws.{AllUnambiguous}
use Rattle.wasm_base.proofs.Words.{no_choice, mapped_appended, pair_appended, prefixed_appended, prefixed_encoded, mapped_encoded, left_encoded, right_encoded}
use Rattle.wasm_custom.specs.{CustomLayoutLaws, needs_encoding, AreNeeds, needs_of, needs, DylinkExport, export_flags_encoding, IsDylinkExport, export_flags_of, export_flags}
use Rattle.wasm_custom.specs.{DylinkImport, import_flags_encoding, IsDylinkImport, import_flags_of, import_flags, DylinkItem, dylink_encoding, IsDylink, dylink_tags, built_dylink, other_dylink, full_dylink, dylink_item, dylink_items}
use Rattle.wasm_custom.specs.{dylink_name, dylink_payload}
use Rattle.wasm_custom.specs.Dylink.{Memory, Needed, ExportFlags, ImportFlags, RuntimePath, OtherDylink}
use Rattle.wasm_custom.specs.declared.dylink_symbols.DylinkMemory.{DylinkMemory}
use Rattle.wasm_custom.proofs.CustomLaws.{content_encodable}
use Rattle.wasm_custom.proofs.DecodeNamed.{named_none, items_fill, no_items}
use Rattle.wasm_custom.proofs.EntriesLaws.{entries_laws, items_appended, items_encoded}
use Rattle.wasm_custom.proofs.WiderLaws.{choice_or, tagged_included, wider_unambiguous, wider_begins, tag_none, tag_rejects, both_is, both_is_not, other_is, other_is_not, AllLack, IsAfterTag, in_each, in_others, known_appended, known_encoded, content_appended, content_of}

-- ---- memory and table

abbrev needs_format : Format ((ℕ × ℕ) × (ℕ × ℕ))
needs_format = pair (pair u32 u32) (pair u32 u32)

abbrev needs_parts : DylinkMemory → (ℕ × ℕ) × (ℕ × ℕ)
needs_parts m = ((m.memory_size, m.memory_alignment), (m.table_size, m.table_alignment))

pub needs_unambiguous : Unambiguous needs
needs_unambiguous = mapped_unambiguous needs_of (λ x y e. ap needs_parts e) (pair_unambiguous (pair_unambiguous u32_unambiguous u32_unambiguous) (pair_unambiguous u32_unambiguous u32_unambiguous))

needs_encodes : (m : DylinkMemory) → AreNeeds m → needs minimal (needs_encoding m) m
needs_encodes m plain =
    let memory = pair_encodes u32 u32 (unsigned_encoding m.memory_size) (unsigned_encoding m.memory_alignment) m.memory_size m.memory_alignment (u32_encodes m.memory_size plain.memory_size) (u32_encodes m.memory_alignment plain.memory_alignment) in
    let table = pair_encodes u32 u32 (unsigned_encoding m.table_size) (unsigned_encoding m.table_alignment) m.table_size m.table_alignment (u32_encodes m.table_size plain.table_size) (u32_encodes m.table_alignment plain.table_alignment) in
    (needs_parts m, refl, pair_encodes (pair u32 u32) (pair u32 u32) (unsigned_encoding m.memory_size ++ unsigned_encoding m.memory_alignment) (unsigned_encoding m.table_size ++ unsigned_encoding m.table_alignment) (m.memory_size, m.memory_alignment) (m.table_size, m.table_alignment) memory table)

pub needs_size : (m : DylinkMemory) → length (needs_encoding m) ≡ (length (unsigned_encoding m.memory_size) + length (unsigned_encoding m.memory_alignment)) + (length (unsigned_encoding m.table_size) + length (unsigned_encoding m.table_alignment))
needs_size m =
    length-append (unsigned_encoding m.memory_size ++ unsigned_encoding m.memory_alignment) (unsigned_encoding m.table_size ++ unsigned_encoding m.table_alignment)
    ∙ ap₂ (λ a b. a + b) (length-append (unsigned_encoding m.memory_size) (unsigned_encoding m.memory_alignment)) (length-append (unsigned_encoding m.table_size) (unsigned_encoding m.table_alignment))

pub needs_decodes : {m : Mode} (bytes last : List ℕ) (a b c d : ℕ) → Decodes needs_format m bytes ((a, b), (c, d)) last → Decodes needs m bytes (record { memory_size = a; memory_alignment = b; table_size = c; table_alignment = d }) last
needs_decodes bytes last a b c d h = mapped_decodes needs_of h

pub needs_none : {m : Mode} (bytes : List ℕ) → Rejects needs_format m bytes → Rejects needs m bytes
needs_none bytes n = mapped_rejects needs_of n

pub ruleset needs_steps = (needs_decodes, needs_none)

pub needs_appended : (a b c d : ℕ) (old first second third new : List ℕ) → AppendsMinimal both_grammars u32 a old first → AppendsMinimal both_grammars u32 b first second → AppendsMinimal both_grammars u32 c second third → AppendsMinimal both_grammars u32 d third new
    → AppendsMinimal both_grammars needs (record { memory_size = a; memory_alignment = b; table_size = c; table_alignment = d }) old new
needs_appended a b c d old first second third new p q r s =
    mapped_appended needs_of needs_format ((a, b), (c, d)) old new (λ z k. ap needs_parts k) (pair_appended (pair u32 u32) (pair u32 u32) (pair_appended u32 u32 p q) (pair_appended u32 u32 r s))

-- ---- exports

abbrev export_parts : DylinkExport → List ℕ × ℕ
export_parts e = (e.name, e.flags)

pub export_flags_unambiguous : Unambiguous export_flags
export_flags_unambiguous = mapped_unambiguous export_flags_of (λ x y e. ap export_parts e) (pair_unambiguous name_unambiguous u32_unambiguous)

export_flags_encodes : (e : DylinkExport) → IsDylinkExport e → export_flags minimal (export_flags_encoding e) e
export_flags_encodes e plain = (export_parts e, refl, pair_encodes name u32 (size_prefixed_encoding e.name) (unsigned_encoding e.flags) e.name e.flags (name_encodes e.name plain.name.0 plain.name.1) (u32_encodes e.flags plain.flags))

pub export_flags_decodes : {m : Mode} (bytes last n : List ℕ) (flags : ℕ) → Decodes (pair name u32) m bytes (n, flags) last → Decodes export_flags m bytes (record { name = n; flags = flags }) last
export_flags_decodes bytes last n flags h = mapped_decodes export_flags_of h

pub export_flags_none : {m : Mode} (bytes : List ℕ) → Rejects (pair name u32) m bytes → Rejects export_flags m bytes
export_flags_none bytes n = mapped_rejects export_flags_of n

pub ruleset export_flags_steps = (export_flags_decodes, export_flags_none)

pub export_flags_appended : (n : List ℕ) (flags : ℕ) (old middle new : List ℕ) → AppendsMinimal both_grammars name n old middle → AppendsMinimal both_grammars u32 flags middle new → AppendsMinimal both_grammars export_flags (record { name = n; flags = flags }) old new
export_flags_appended n flags old middle new a b = mapped_appended export_flags_of (pair name u32) (n, flags) old new (λ z k. ap export_parts k) (pair_appended name u32 a b)

pub export_name_encoded : (n : List ℕ) (flags : ℕ) → HasEncoding both_grammars export_flags (record { name = n; flags = flags }) → HasEncoding both_grammars name n
export_name_encoded n flags h = left_encoded name u32 n flags (mapped_encoded export_flags_of (pair name u32) (n, flags) (λ z k. ap export_parts k) h)

-- ---- imports

abbrev import_format : Format (List ℕ × (List ℕ × ℕ))
import_format = pair name (pair name u32)

abbrev import_parts : DylinkImport → List ℕ × (List ℕ × ℕ)
import_parts i = (i.module_name, (i.name, i.flags))

pub import_flags_unambiguous : Unambiguous import_flags
import_flags_unambiguous = mapped_unambiguous import_flags_of (λ x y e. ap import_parts e) (pair_unambiguous name_unambiguous (pair_unambiguous name_unambiguous u32_unambiguous))

import_flags_encodes : (i : DylinkImport) → IsDylinkImport i → import_flags minimal (import_flags_encoding i) i
import_flags_encodes i plain =
    let back = pair_encodes name u32 (size_prefixed_encoding i.name) (unsigned_encoding i.flags) i.name i.flags (name_encodes i.name plain.name.0 plain.name.1) (u32_encodes i.flags plain.flags) in
    (import_parts i, refl, pair_encodes name (pair name u32) (size_prefixed_encoding i.module_name) (size_prefixed_encoding i.name ++ unsigned_encoding i.flags) i.module_name (i.name, i.flags) (name_encodes i.module_name plain.module_name.0 plain.module_name.1) back)

pub import_flags_decodes : {m : Mode} (bytes last from n : List ℕ) (flags : ℕ) → Decodes import_format m bytes (from, (n, flags)) last → Decodes import_flags m bytes (record { module_name = from; name = n; flags = flags }) last
import_flags_decodes bytes last from n flags h = mapped_decodes import_flags_of h

pub import_flags_none : {m : Mode} (bytes : List ℕ) → Rejects import_format m bytes → Rejects import_flags m bytes
import_flags_none bytes n = mapped_rejects import_flags_of n

pub ruleset import_flags_steps = (import_flags_decodes, import_flags_none)

pub import_flags_appended : (from n : List ℕ) (flags : ℕ) (old first second new : List ℕ) → AppendsMinimal both_grammars name from old first → AppendsMinimal both_grammars name n first second → AppendsMinimal both_grammars u32 flags second new
    → AppendsMinimal both_grammars import_flags (record { module_name = from; name = n; flags = flags }) old new
import_flags_appended from n flags old first second new a b c = mapped_appended import_flags_of import_format (from, (n, flags)) old new (λ z k. ap import_parts k) (pair_appended name (pair name u32) a (pair_appended name u32 b c))

import_encoded : (from n : List ℕ) (flags : ℕ) → HasEncoding both_grammars import_flags (record { module_name = from; name = n; flags = flags }) → HasEncoding both_grammars import_format (from, (n, flags))
import_encoded from n flags h = mapped_encoded import_flags_of import_format (from, (n, flags)) (λ z k. ap import_parts k) h

pub import_module_encoded : (from n : List ℕ) (flags : ℕ) → HasEncoding both_grammars import_flags (record { module_name = from; name = n; flags = flags }) → HasEncoding both_grammars name from
import_module_encoded from n flags h = left_encoded name (pair name u32) from (n, flags) (import_encoded from n flags h)

pub import_name_encoded : (from n : List ℕ) (flags : ℕ) → HasEncoding both_grammars import_flags (record { module_name = from; name = n; flags = flags }) → HasEncoding both_grammars name n
import_name_encoded from n flags h = left_encoded name u32 n flags (right_encoded name (pair name u32) from (n, flags) (import_encoded from n flags h))

-- ---- subsections

abbrev dylink_id : DylinkItem → ℕ
dylink_id (Memory m) = 1
dylink_id (Needed names) = 2
dylink_id (ExportFlags exports) = 3
dylink_id (ImportFlags imports) = 4
dylink_id (RuntimePath paths) = 5
dylink_id (OtherDylink id content) = id

full_ids : AllDetermine dylink_id dylink_tags
full_ids = (λ mode s x h. ap dylink_id h.1, (λ mode s x h. ap dylink_id h.1, (λ mode s x h. ap dylink_id h.1, (λ mode s x h. ap dylink_id h.1, (λ mode s x h. ap dylink_id h.1, tt)))))

contents_unambiguous : AllUnambiguous dylink_tags
contents_unambiguous = (
  mapped_unambiguous Memory (λ x y e. cc) (size_prefixed_unambiguous (whole_from_unique needs_unambiguous)),
  (
    mapped_unambiguous Needed (λ x y e. cc) (size_prefixed_unambiguous (whole_from_unique (vec_unambiguous name_unambiguous))),
    (
      mapped_unambiguous ExportFlags (λ x y e. cc) (size_prefixed_unambiguous (whole_from_unique (vec_unambiguous export_flags_unambiguous))),
      (
        mapped_unambiguous ImportFlags (λ x y e. cc) (size_prefixed_unambiguous (whole_from_unique (vec_unambiguous import_flags_unambiguous))),
        (mapped_unambiguous RuntimePath (λ x y e. cc) (size_prefixed_unambiguous (whole_from_unique (vec_unambiguous name_unambiguous))), tt),
      ),
    ),
  ),
)

built_unambiguous : Unambiguous built_dylink
built_unambiguous = choice_of byte dylink_id dylink_tags byte_unambiguous contents_unambiguous full_ids

full_unambiguous : Unambiguous full_dylink
full_unambiguous = choice_or dylink_id dylink_tags other_dylink contents_unambiguous full_ids (λ b. mapped_unambiguous (OtherDylink b) (λ x y e. cc) (size_prefixed_unambiguous any_bytes_whole)) (λ b mode s x h. ap dylink_id h.1)

built_is_full : IsIncludedIn (built_dylink padded) (full_dylink padded)
built_is_full = tagged_included dylink_tags dylink_tags other_dylink padded (λ s x h. h, (λ s x h. h, (λ s x h. h, (λ s x h. h, (λ s x h. h, tt)))))

pub dylink_unambiguous : Unambiguous dylink_item
dylink_unambiguous = wider_unambiguous built_dylink full_dylink built_unambiguous full_unambiguous built_is_full

pub dylink_begins : BeginsWith (λ b. Unit {0}) dylink_item
dylink_begins = wider_begins (λ b. Unit {0}) tagged_begins tagged_begins

-- The vector of a subsection encodes its members.
vector_encodes : {X : Type 0} (C : List X → DylinkItem) (id : ℕ) (F : Format X) (Is : X → Type 0) (encoding : X → List ℕ) → ((x : X) → Is x → F minimal (encoding x) x) → (xs : List X) → IsEncodableVec Is xs → HasEncodableSize (id ∷ size_prefixed_encoding (vec_encoding encoding xs)) → mapped C (size_prefixed (vec F)) minimal (size_prefixed_encoding (vec_encoding encoding xs)) (C xs)
vector_encodes C id F Is encoding each xs plain encodable =
    let content = vec_encoding encoding xs in
    (xs, refl, size_prefixed_encodes (vec F) content xs (content_encodable id content encodable) (vec_encodes F Is encoding each xs plain))

dylink_encodes : (x : DylinkItem) → IsDylink x → HasEncodableSize (dylink_encoding x) → dylink_item minimal (dylink_encoding x) x
dylink_encodes (OtherDylink id content) plain encodable = absurd plain
dylink_encodes (Memory m) plain encodable =
    let content = needs_encoding m in
    tagged_encodes minimal 1 (size_prefixed_encoding content) (Memory m) (m, refl, size_prefixed_encodes needs content m (content_encodable 1 content encodable) (needs_encodes m plain))
dylink_encodes (Needed names) plain encodable =
    tagged_encodes minimal 2 (size_prefixed_encoding (vec_encoding size_prefixed_encoding names)) (Needed names) (vector_encodes Needed 2 name IsEncodableName size_prefixed_encoding (λ n is. name_encodes n is.0 is.1) names plain encodable)
dylink_encodes (ExportFlags exports) plain encodable =
    tagged_encodes minimal 3 (size_prefixed_encoding (vec_encoding export_flags_encoding exports)) (ExportFlags exports) (vector_encodes ExportFlags 3 export_flags IsDylinkExport export_flags_encoding export_flags_encodes exports plain encodable)
dylink_encodes (ImportFlags imports) plain encodable =
    tagged_encodes minimal 4 (size_prefixed_encoding (vec_encoding import_flags_encoding imports)) (ImportFlags imports) (vector_encodes ImportFlags 4 import_flags IsDylinkImport import_flags_encoding import_flags_encodes imports plain encodable)
dylink_encodes (RuntimePath paths) plain encodable =
    tagged_encodes minimal 5 (size_prefixed_encoding (vec_encoding size_prefixed_encoding paths)) (RuntimePath paths) (vector_encodes RuntimePath 5 name IsEncodableName size_prefixed_encoding (λ n is. name_encodes n is.0 is.1) paths plain encodable)

pub dylink_laws : ItemLaws dylink_items
dylink_laws = record { unique = dylink_unambiguous; encodes = dylink_encodes }

pub dylink_layout : CustomLayoutLaws dylink_item dylink_name [] (fixed [] (tt {0})) false
dylink_layout = record {
  name_utf8 = ascii {bytes = dylink_name} refl;
  front_unique = fixed_unambiguous [] (tt {0});
  front_encodes = (refl, refl);
  begins = λ e. dylink_begins;
}

pub dylink_section : SectionLaws dylink_items dylink_payload
dylink_section = entries_laws dylink_laws dylink_layout (λ given plain. plain) (λ given plain. plain)

-- ---- decoding

pub dylink_none : (w : Grammar) (bytes : List ℕ) → Rejects byte (padded_of w) bytes → Rejects dylink_item (padded_of w) bytes
dylink_none w bytes n = tag_none dylink_tags dylink_tags other_dylink w bytes n

pub memory_decodes : (w : Grammar) (bytes rest last : List ℕ) (b : ℕ) (x : DylinkMemory) → Decodes byte (padded_of w) bytes b rest → b ≡ 1 → Decodes (size_prefixed needs) (padded_of w) rest x last → Decodes dylink_item (padded_of w) bytes (Memory x) last
memory_decodes w bytes rest last b x h e g = both_is dylink_tags dylink_tags other_dylink 1 (mapped Memory (size_prefixed needs)) refl refl w h e (mapped_decodes Memory g)

pub memory_none : (w : Grammar) (bytes rest : List ℕ) (b : ℕ) → Decodes byte (padded_of w) bytes b rest → b ≡ 1 → Rejects (size_prefixed needs) (padded_of w) rest → Rejects dylink_item (padded_of w) bytes
memory_none w bytes rest b h e n = both_is_not dylink_tags dylink_tags other_dylink 1 (mapped Memory (size_prefixed needs)) refl refl w h e (mapped_rejects Memory n)

pub needed_decodes : (w : Grammar) (bytes rest last : List ℕ) (b : ℕ) (xs : List (List ℕ)) → Decodes byte (padded_of w) bytes b rest → b ≡ 2 → Decodes (size_prefixed (vec name)) (padded_of w) rest xs last → Decodes dylink_item (padded_of w) bytes (Needed xs) last
needed_decodes w bytes rest last b xs h e g = both_is dylink_tags dylink_tags other_dylink 2 (mapped Needed (size_prefixed (vec name))) refl refl w h e (mapped_decodes Needed g)

pub needed_none : (w : Grammar) (bytes rest : List ℕ) (b : ℕ) → Decodes byte (padded_of w) bytes b rest → b ≡ 2 → Rejects (size_prefixed (vec name)) (padded_of w) rest → Rejects dylink_item (padded_of w) bytes
needed_none w bytes rest b h e n = both_is_not dylink_tags dylink_tags other_dylink 2 (mapped Needed (size_prefixed (vec name))) refl refl w h e (mapped_rejects Needed n)

pub exports_decodes : (w : Grammar) (bytes rest last : List ℕ) (b : ℕ) (xs : List DylinkExport) → Decodes byte (padded_of w) bytes b rest → b ≡ 3 → Decodes (size_prefixed (vec export_flags)) (padded_of w) rest xs last → Decodes dylink_item (padded_of w) bytes (ExportFlags xs) last
exports_decodes w bytes rest last b xs h e g = both_is dylink_tags dylink_tags other_dylink 3 (mapped ExportFlags (size_prefixed (vec export_flags))) refl refl w h e (mapped_decodes ExportFlags g)

pub exports_none : (w : Grammar) (bytes rest : List ℕ) (b : ℕ) → Decodes byte (padded_of w) bytes b rest → b ≡ 3 → Rejects (size_prefixed (vec export_flags)) (padded_of w) rest → Rejects dylink_item (padded_of w) bytes
exports_none w bytes rest b h e n = both_is_not dylink_tags dylink_tags other_dylink 3 (mapped ExportFlags (size_prefixed (vec export_flags))) refl refl w h e (mapped_rejects ExportFlags n)

pub imports_decodes : (w : Grammar) (bytes rest last : List ℕ) (b : ℕ) (xs : List DylinkImport) → Decodes byte (padded_of w) bytes b rest → b ≡ 4 → Decodes (size_prefixed (vec import_flags)) (padded_of w) rest xs last → Decodes dylink_item (padded_of w) bytes (ImportFlags xs) last
imports_decodes w bytes rest last b xs h e g = both_is dylink_tags dylink_tags other_dylink 4 (mapped ImportFlags (size_prefixed (vec import_flags))) refl refl w h e (mapped_decodes ImportFlags g)

pub imports_none : (w : Grammar) (bytes rest : List ℕ) (b : ℕ) → Decodes byte (padded_of w) bytes b rest → b ≡ 4 → Rejects (size_prefixed (vec import_flags)) (padded_of w) rest → Rejects dylink_item (padded_of w) bytes
imports_none w bytes rest b h e n = both_is_not dylink_tags dylink_tags other_dylink 4 (mapped ImportFlags (size_prefixed (vec import_flags))) refl refl w h e (mapped_rejects ImportFlags n)

pub paths_decodes : (w : Grammar) (bytes rest last : List ℕ) (b : ℕ) (xs : List (List ℕ)) → Decodes byte (padded_of w) bytes b rest → b ≡ 5 → Decodes (size_prefixed (vec name)) (padded_of w) rest xs last → Decodes dylink_item (padded_of w) bytes (RuntimePath xs) last
paths_decodes w bytes rest last b xs h e g = both_is dylink_tags dylink_tags other_dylink 5 (mapped RuntimePath (size_prefixed (vec name))) refl refl w h e (mapped_decodes RuntimePath g)

pub paths_none : (w : Grammar) (bytes rest : List ℕ) (b : ℕ) → Decodes byte (padded_of w) bytes b rest → b ≡ 5 → Rejects (size_prefixed (vec name)) (padded_of w) rest → Rejects dylink_item (padded_of w) bytes
paths_none w bytes rest b h e n = both_is_not dylink_tags dylink_tags other_dylink 5 (mapped RuntimePath (size_prefixed (vec name))) refl refl w h e (mapped_rejects RuntimePath n)

-- A subsection of any other id, which the standard's grammar alone has.
pub others_decodes : (w : Grammar) (bytes rest last : List ℕ) (b : ℕ) (content : List ℕ) → Decodes byte (padded_of w) bytes b rest → IsOther dylink_tags b → is_admitted w ≡ true → Decodes (size_prefixed any_bytes) (padded_of w) rest content last → Decodes dylink_item (padded_of w) bytes (OtherDylink b content) last
others_decodes w bytes rest last b content h o f g = other_is dylink_tags dylink_tags other_dylink o w f h (mapped_decodes (OtherDylink b) g)

pub others_none : (w : Grammar) (bytes rest : List ℕ) (b : ℕ) → Decodes byte (padded_of w) bytes b rest → IsOther dylink_tags b → is_admitted w ≡ true → Rejects (size_prefixed any_bytes) (padded_of w) rest → Rejects dylink_item (padded_of w) bytes
others_none w bytes rest b h o f n = other_is_not dylink_tags dylink_tags other_dylink o w f h (mapped_rejects (OtherDylink b) n)

-- The builders' grammar has no subsection of the id.
pub dylink_unknown : (w : Grammar) (bytes rest : List ℕ) (b : ℕ) → Decodes byte (padded_of w) bytes b rest → is_admitted w ≡ false → b ≢ 1 → b ≢ 2 → b ≢ 3 → b ≢ 4 → b ≢ 5 → Rejects dylink_item (padded_of w) bytes
dylink_unknown builders bytes rest b h f p q r s t = tag_rejects dylink_tags dylink_tags other_dylink builders h (no_choice dylink_tags b rest (p, (q, (r, (s, (t, tt))))))
dylink_unknown admitted bytes rest b h f p q r s t = absurd (cc f)

pub ruleset dylink_steps = (dylink_unknown)

pub section_fills : {m : Mode} (bytes rest : List ℕ) (xs : List DylinkItem) → Decodes (just dylink_name name) m bytes tt rest → members dylink_item m rest xs → dylink_payload m bytes xs
section_fills bytes rest xs h g = items_fill dylink_name false dylink_item bytes rest xs h g

pub section_none : {m : Mode} (bytes : List ℕ) → Rejects (just dylink_name name) m bytes → RejectsWhole dylink_payload m bytes
section_none bytes n = named_none dylink_name _ bytes n

pub section_rejects : {m : Mode} (bytes rest : List ℕ) → Decodes (just dylink_name name) m bytes tt rest → RejectsWhole (members dylink_item) m rest → RejectsWhole dylink_payload m bytes
section_rejects bytes rest h n = no_items dylink_name false dylink_item bytes rest h n

pub ruleset section_steps = (section_fills, section_none, section_rejects)

-- ---- the one minimal encoding of decoded subsections

pub memory_appended : (x : DylinkMemory) (old front new : List ℕ) → front ≡ old ++ 1 ∷ [] → AppendsMinimal both_grammars (size_prefixed needs) x front new → AppendsMinimal both_grammars (prefixed (1 ∷ []) (size_prefixed needs)) x old new
memory_appended x old front new e a = prefixed_appended (1 ∷ []) (size_prefixed needs) x old front new e a

pub memory_content : (x : DylinkMemory) → HasEncoding both_grammars (prefixed (1 ∷ []) (size_prefixed needs)) x → HasEncoding both_grammars (size_prefixed needs) x
memory_content x h = prefixed_encoded (1 ∷ []) (size_prefixed needs) x h

-- In each grammar that has an encoding of the subsection, `F` is the format after its id.
abbrev IsKnown : DylinkItem → Format DylinkItem → Type 1
IsKnown x F = IsAfterTag dylink_tags dylink_tags other_dylink dylink_id full_ids full_ids (λ b mode s x h. ap dylink_id h.1) x F

module _ (x : DylinkItem) (F : Format DylinkItem) (known : IsKnown x F) where
  known_short : {old new : List ℕ} → AppendsMinimal both_grammars (prefixed (dylink_id x ∷ []) F) x old new → AppendsMinimal both_grammars dylink_item x old new
  known_short a = known_appended dylink_tags dylink_tags other_dylink dylink_id full_ids full_ids (λ b mode s x h. ap dylink_id h.1) x F known a

  known_content : HasEncoding both_grammars dylink_item x → HasEncoding both_grammars (prefixed (dylink_id x ∷ []) F) x
  known_content h = known_encoded dylink_tags dylink_tags other_dylink dylink_id full_ids full_ids (λ b mode s x h. ap dylink_id h.1) x F known h

other_known : (id : ℕ) (content : List ℕ) → IsKnown (OtherDylink id content) (other_dylink id)
other_known id content =
    let lack : AllLack (OtherDylink id content) dylink_tags = (λ mode s h. absurd (cc (h.1)), (λ mode s h. absurd (cc (h.1)), (λ mode s h. absurd (cc (h.1)), (λ mode s h. absurd (cc (h.1)), (λ mode s h. absurd (cc (h.1)), tt))))) in
    in_others dylink_tags dylink_tags other_dylink dylink_id full_ids full_ids (λ b mode s x h. ap dylink_id h.1) (OtherDylink id content) lack lack

-- The bytes that a call appends for a subsection are its minimal encoding, and a subsection that
-- has an encoding has one with its content.
pub others_short : (id : ℕ) (content old new : List ℕ) → AppendsMinimal both_grammars (prefixed (id ∷ []) (size_prefixed any_bytes)) content old new → AppendsMinimal both_grammars dylink_item (OtherDylink id content) old new
others_short id content old new a = known_short (OtherDylink id content) (other_dylink id) (other_known id content) (content_appended (OtherDylink id) (λ x z k. cc k) (id ∷ []) (size_prefixed any_bytes) content a)

pub others_encoded : (id : ℕ) (content : List ℕ) → HasEncoding both_grammars dylink_item (OtherDylink id content) → HasEncoding both_grammars (prefixed (id ∷ []) (size_prefixed any_bytes)) content
others_encoded id content h = content_of (OtherDylink id) (λ x z k. cc k) (id ∷ []) (size_prefixed any_bytes) content (known_content (OtherDylink id content) (other_dylink id) (other_known id content) h)

pub memory_short : (x : DylinkMemory) (old new : List ℕ) → AppendsMinimal both_grammars (prefixed (1 ∷ []) (size_prefixed needs)) x old new → AppendsMinimal both_grammars dylink_item (Memory x) old new
memory_short x old new a = known_short (Memory x) (mapped Memory (size_prefixed needs)) (in_each dylink_tags dylink_tags other_dylink dylink_id full_ids full_ids (λ b mode s x h. ap dylink_id h.1) (Memory x) (mapped Memory (size_prefixed needs)) refl refl) (content_appended Memory (λ x z k. cc k) (1 ∷ []) (size_prefixed needs) x a)

pub memory_encoded : (x : DylinkMemory) → HasEncoding both_grammars dylink_item (Memory x) → HasEncoding both_grammars (prefixed (1 ∷ []) (size_prefixed needs)) x
memory_encoded x h = content_of Memory (λ x z k. cc k) (1 ∷ []) (size_prefixed needs) x (known_content (Memory x) (mapped Memory (size_prefixed needs)) (in_each dylink_tags dylink_tags other_dylink dylink_id full_ids full_ids (λ b mode s x h. ap dylink_id h.1) (Memory x) (mapped Memory (size_prefixed needs)) refl refl) h)

pub needed_short : (xs : List (List ℕ)) (old new : List ℕ) → AppendsMinimal both_grammars (prefixed (2 ∷ []) (size_prefixed (vec name))) xs old new → AppendsMinimal both_grammars dylink_item (Needed xs) old new
needed_short xs old new a = known_short (Needed xs) (mapped Needed (size_prefixed (vec name))) (in_each dylink_tags dylink_tags other_dylink dylink_id full_ids full_ids (λ b mode s x h. ap dylink_id h.1) (Needed xs) (mapped Needed (size_prefixed (vec name))) refl refl) (content_appended Needed (λ x z k. cc k) (2 ∷ []) (size_prefixed (vec name)) xs a)

pub needed_encoded : (xs : List (List ℕ)) → HasEncoding both_grammars dylink_item (Needed xs) → HasEncoding both_grammars (prefixed (2 ∷ []) (size_prefixed (vec name))) xs
needed_encoded xs h = content_of Needed (λ x z k. cc k) (2 ∷ []) (size_prefixed (vec name)) xs (known_content (Needed xs) (mapped Needed (size_prefixed (vec name))) (in_each dylink_tags dylink_tags other_dylink dylink_id full_ids full_ids (λ b mode s x h. ap dylink_id h.1) (Needed xs) (mapped Needed (size_prefixed (vec name))) refl refl) h)

pub exports_short : (xs : List DylinkExport) (old new : List ℕ) → AppendsMinimal both_grammars (prefixed (3 ∷ []) (size_prefixed (vec export_flags))) xs old new → AppendsMinimal both_grammars dylink_item (ExportFlags xs) old new
exports_short xs old new a = known_short (ExportFlags xs) (mapped ExportFlags (size_prefixed (vec export_flags))) (in_each dylink_tags dylink_tags other_dylink dylink_id full_ids full_ids (λ b mode s x h. ap dylink_id h.1) (ExportFlags xs) (mapped ExportFlags (size_prefixed (vec export_flags))) refl refl) (content_appended ExportFlags (λ x z k. cc k) (3 ∷ []) (size_prefixed (vec export_flags)) xs a)

pub exports_encoded : (xs : List DylinkExport) → HasEncoding both_grammars dylink_item (ExportFlags xs) → HasEncoding both_grammars (prefixed (3 ∷ []) (size_prefixed (vec export_flags))) xs
exports_encoded xs h = content_of ExportFlags (λ x z k. cc k) (3 ∷ []) (size_prefixed (vec export_flags)) xs (known_content (ExportFlags xs) (mapped ExportFlags (size_prefixed (vec export_flags))) (in_each dylink_tags dylink_tags other_dylink dylink_id full_ids full_ids (λ b mode s x h. ap dylink_id h.1) (ExportFlags xs) (mapped ExportFlags (size_prefixed (vec export_flags))) refl refl) h)

pub imports_short : (xs : List DylinkImport) (old new : List ℕ) → AppendsMinimal both_grammars (prefixed (4 ∷ []) (size_prefixed (vec import_flags))) xs old new → AppendsMinimal both_grammars dylink_item (ImportFlags xs) old new
imports_short xs old new a = known_short (ImportFlags xs) (mapped ImportFlags (size_prefixed (vec import_flags))) (in_each dylink_tags dylink_tags other_dylink dylink_id full_ids full_ids (λ b mode s x h. ap dylink_id h.1) (ImportFlags xs) (mapped ImportFlags (size_prefixed (vec import_flags))) refl refl) (content_appended ImportFlags (λ x z k. cc k) (4 ∷ []) (size_prefixed (vec import_flags)) xs a)

pub imports_encoded : (xs : List DylinkImport) → HasEncoding both_grammars dylink_item (ImportFlags xs) → HasEncoding both_grammars (prefixed (4 ∷ []) (size_prefixed (vec import_flags))) xs
imports_encoded xs h = content_of ImportFlags (λ x z k. cc k) (4 ∷ []) (size_prefixed (vec import_flags)) xs (known_content (ImportFlags xs) (mapped ImportFlags (size_prefixed (vec import_flags))) (in_each dylink_tags dylink_tags other_dylink dylink_id full_ids full_ids (λ b mode s x h. ap dylink_id h.1) (ImportFlags xs) (mapped ImportFlags (size_prefixed (vec import_flags))) refl refl) h)

pub paths_short : (xs : List (List ℕ)) (old new : List ℕ) → AppendsMinimal both_grammars (prefixed (5 ∷ []) (size_prefixed (vec name))) xs old new → AppendsMinimal both_grammars dylink_item (RuntimePath xs) old new
paths_short xs old new a = known_short (RuntimePath xs) (mapped RuntimePath (size_prefixed (vec name))) (in_each dylink_tags dylink_tags other_dylink dylink_id full_ids full_ids (λ b mode s x h. ap dylink_id h.1) (RuntimePath xs) (mapped RuntimePath (size_prefixed (vec name))) refl refl) (content_appended RuntimePath (λ x z k. cc k) (5 ∷ []) (size_prefixed (vec name)) xs a)

pub paths_encoded : (xs : List (List ℕ)) → HasEncoding both_grammars dylink_item (RuntimePath xs) → HasEncoding both_grammars (prefixed (5 ∷ []) (size_prefixed (vec name))) xs
paths_encoded xs h = content_of RuntimePath (λ x z k. cc k) (5 ∷ []) (size_prefixed (vec name)) xs (known_content (RuntimePath xs) (mapped RuntimePath (size_prefixed (vec name))) (in_each dylink_tags dylink_tags other_dylink dylink_id full_ids full_ids (λ b mode s x h. ap dylink_id h.1) (RuntimePath xs) (mapped RuntimePath (size_prefixed (vec name))) refl refl) h)

pub ruleset short_steps = (others_short, others_encoded, memory_short, needed_short, exports_short, imports_short, paths_short, memory_encoded, needed_encoded, exports_encoded, imports_encoded, paths_encoded)

pub section_appended : (xs : List DylinkItem) (old middle new : List ℕ) → middle ≡ old ++ size_prefixed_encoding dylink_name → AppendsMinimal both_grammars (members dylink_item) xs middle new → AppendsMinimal both_grammars dylink_payload xs old new
section_appended xs old middle new e a = items_appended dylink_name false dylink_item xs e a

pub section_encoded : (xs : List DylinkItem) → HasEncoding both_grammars dylink_payload xs → HasEncoding both_grammars (members dylink_item) xs
section_encoded xs h = items_encoded dylink_name false dylink_item xs h
