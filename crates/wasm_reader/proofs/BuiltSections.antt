-- This file proves of kinds of sections that builders encode each content of the standard's grammar,
-- but for long code sections.
use Rattle.wasm_base.proofs.Words.{◌≡◌, ℕ, ◌+◌, ◌^◌, ◌<◌, ◌≤◌, List, [], ◌∷◌, ◌++◌, length, Bool, true, false, refl, sym, ap, subst, ◌∙◌, arith, length-append}
use Rattle.wasm_base.specs.Formats.{Format, byte, u32, mapped, tagged, pair, members, vec, size_prefixed, impossible}
use Rattle.wasm_base.specs.Numbers.{Grammar, builders, admitted, minimal, padded, standard_minimal, standard, unsigned_encoding, padded_of}
use Rattle.wasm_base.specs.Minimal.{Grammars, Includes, builders_alone, both_grammars}
use Rattle.wasm_base.proofs.Words.{u32_encodes}
use Rattle.wasm_code.specs.Bodies.{Body, body}
use Rattle.wasm_immediates.specs.ImmediateFormats.{HasIndex}
use Rattle.wasm_sections.specs.DataSegments.{in_first, in_memory, data_tags, data_in, data_item}
use Rattle.wasm_sections.specs.Elements.{ElementFlag, flag_code, has_kind, segment_mode, in_table, in_no_table, list_of, functions, elements_as, segment_of, element}
use Rattle.wasm_sections.specs.Globals.{global_of, global_type, global_from, global_item}
use Rattle.wasm_sections.specs.Imports.{entity_tags, entity, group_tags, group, single, named, alike_of, import_of, import_format}
use Rattle.wasm_sections.specs.Memories.{memory_of, memory_type}
use Rattle.wasm_sections.specs.Tables.{limits_of, limits, table_of, table_type, without_init, with_init, before_init, table_item}
use Rattle.wasm_sections.specs.Tags.{tag_of, tag_type}
use Rattle.wasm_types.specs.RecTypes.{storage_tags, field_of, field_type, func_of, shape_tags, after_shape, given_index, no_index, with_index, after_descriptor, after_describes, composite_of, after_composite, sub_of}
use Rattle.wasm_types.specs.RecTypes.{alone_of, supertypes_and, HasFinalPrefix, sub_tags, after_alone, prefixed_sub, sub_type, group_tags as rec_tags, type_item}
use Rattle.wasm_reader.specs.{Contents, content, grammars_of, kind_in, Extends, HasContentIn, HasShortBodies}
use Rattle.wasm_reader.specs.declared.kinds.SectionKind.{SectionKind}
use Rattle.wasm_reader.specs.declared.kinds.SectionKind.TheVariants as kinds
use Rattle.wasm_reader.proofs.BuiltForms.{AreBuilt, u32_same, u32_built, u64_built, s33_built, byte_built, name_built, fixed_built, coded_built, numbered_built, such_built, when_built, mapped_built, pair_built, tagged_built}
use Rattle.wasm_reader.proofs.BuiltForms.{prefixed_built, choice_built, selected_built, choices_built, one_of_built, optional_built, vec_built, impossible_built, ref_built, val_built, expression_built, body_built}
use Rattle.wasm_reader.proofs.KindLaws.{content_whole}

-- ---- segments, tables and globals

mode_built : (f : ElementFlag) → AreBuilt (segment_mode f)
mode_built f = when_built f.not_active (when_built f.second (fixed_built [] _) (fixed_built [] _)) (when_built f.second (mapped_built in_table (pair_built u32_built expression_built)) (mapped_built in_no_table expression_built))

elements_built : (explicit of_expressions : Bool) → AreBuilt (elements_as explicit of_expressions)
elements_built explicit of_expressions = when_built of_expressions (mapped_built list_of (pair_built (when_built explicit ref_built (fixed_built [] _)) (vec_built expression_built))) (mapped_built functions (prefixed_built _ (vec_built u32_built)))

element_built : AreBuilt element
element_built = tagged_built (numbered_built flag_code) (λ f. mapped_built segment_of (pair_built (mode_built f) (elements_built (has_kind f) f.expressions)))

data_built : AreBuilt data_item
data_built = record { form = λ s x h. within.form s x h }
  where
    within : AreBuilt (data_in builders)
    within = selected_built (data_tags builders) u32_built (
      mapped_built in_first (pair_built expression_built (vec_built byte_built)),
      (mapped_built _ (vec_built byte_built), (mapped_built in_memory (pair_built (such_built (HasIndex builders) u32_built) (pair_built expression_built (vec_built byte_built))), tt)),
    )

memory_built : AreBuilt memory_type
memory_built = tagged_built (coded_built _) (λ f. mapped_built (memory_of f) (pair_built u64_built (pair_built (optional_built f.has_maximum u64_built) (optional_built f.has_page_size u32_built))))

limits_built : AreBuilt limits
limits_built = tagged_built (coded_built _) (λ f. when_built f.has_page_size impossible_built (mapped_built (limits_of f) (pair_built u64_built (optional_built f.has_maximum u64_built))))

table_type_built : AreBuilt table_type
table_type_built = mapped_built table_of (pair_built ref_built limits_built)

table_built : AreBuilt table_item
table_built = one_of_built (mapped_built without_init table_type_built) (mapped_built with_init (prefixed_built before_init (pair_built table_type_built expression_built)))

global_type_built : AreBuilt global_type
global_type_built = mapped_built global_of (pair_built val_built (coded_built _))

global_built : AreBuilt global_item
global_built = mapped_built global_from (pair_built global_type_built expression_built)

-- ---- imports

tag_built : AreBuilt tag_type
tag_built = mapped_built tag_of (pair_built (coded_built _) u32_built)

entity_built : AreBuilt entity
entity_built = choices_built entity_tags (
  mapped_built _ u32_built,
  (mapped_built _ table_type_built, (mapped_built _ memory_built, (mapped_built _ global_type_built, (mapped_built _ tag_built, (mapped_built _ u32_built, tt))))),
)

group_built : AreBuilt group
group_built = choices_built group_tags (mapped_built named (vec_built (pair_built name_built entity_built)), (mapped_built alike_of (pair_built entity_built (vec_built name_built)), tt))

import_built : AreBuilt import_format
import_built = mapped_built import_of (pair_built name_built (one_of_built (tagged_built name_built (λ item. mapped_built (single item) entity_built)) (prefixed_built _ group_built)))

-- ---- types

field_built : AreBuilt field_type
field_built = mapped_built field_of (pair_built (one_of_built (choices_built storage_tags (fixed_built [] _, (fixed_built [] _, tt))) (mapped_built _ val_built)) (coded_built _))

shape_built : (b : ℕ) → AreBuilt (after_shape b)
shape_built b = choice_built shape_tags (λ c. impossible) (
  mapped_built func_of (pair_built (vec_built val_built) (vec_built val_built)),
  (mapped_built _ field_built, (mapped_built _ (vec_built field_built), (mapped_built _ s33_built, tt))),
) (λ c. impossible_built) b

indexed_built : {X : Type 0} (tag : ℕ) (F : ℕ → Format X) → ((b : ℕ) → AreBuilt (F b)) → (b : ℕ) → AreBuilt (with_index tag F b)
indexed_built tag F k b = choice_built ((tag, mapped given_index (pair u32 (tagged byte F))) ∷ []) (λ c. mapped no_index (F c)) (mapped_built given_index (pair_built u32_built (tagged_built byte_built k)), tt) (λ c. mapped_built no_index (k c)) b

describes_built : (b : ℕ) → AreBuilt (after_describes b)
describes_built = indexed_built 0x4C after_descriptor (indexed_built 0x4D after_shape shape_built)

composite_after_built : (b : ℕ) → AreBuilt (after_composite b)
composite_after_built b = choice_built ((0x65, mapped (composite_of true) (tagged byte after_describes)) ∷ []) (λ c. mapped (composite_of false) (after_describes c)) (mapped_built (composite_of true) (tagged_built byte_built describes_built), tt) (λ c. mapped_built (composite_of false) (describes_built c)) b

supertypes_built : AreBuilt supertypes_and
supertypes_built = pair_built (vec_built u32_built) (tagged_built byte_built composite_after_built)

sub_built : AreBuilt sub_type
sub_built = record { form = λ s x h. within.form s x h }
  where
    within : AreBuilt (prefixed_sub builders)
    within = tagged_built byte_built (choice_built (sub_tags builders) after_alone (mapped_built (sub_of false) supertypes_built, (mapped_built (sub_of true) (such_built (HasFinalPrefix builders) supertypes_built), tt)) (λ b. mapped_built alone_of (composite_after_built b)))

type_built : AreBuilt type_item
type_built = one_of_built (choices_built rec_tags (mapped_built _ (vec_built sub_built), tt)) (mapped_built _ sub_built)

-- ---- code

-- Bodies whose encodings have fewer than 2^31 bytes in all.
bodies_built : (s : List ℕ) (xs : List Body) → length s < 2 ^ 31 → members (size_prefixed body) standard_minimal s xs → (t : List ℕ) × members (size_prefixed body) minimal t xs
bodies_built s [] l h = (s, h)
bodies_built s (x ∷ xs) l h =
    let size : length s ≡ length h.0 + length h.1 = ap length h.2 ∙ length-append h.0 h.1 in
    let inner : length h.0 ≡ length h.3.front + length h.3.content = ap length h.3.joined ∙ length-append h.3.front h.3.content in
    let a = body_built.form h.3.content x h.3.encodes in
    let b = bodies_built h.1 xs (omega (arith, l, size)) h.4 in
    let entry = unsigned_encoding (length a.0) ++ a.0 in
    (entry ++ b.0, (entry, b.0, refl, record { front = unsigned_encoding (length a.0); content = a.0; joined = refl; size = u32_encodes (length a.0) (omega (arith, l, size, inner, a.2)); encodes = a.1 }, b.1))

code_built : (s : List ℕ) (xs : List Body) → length s < 2 ^ 31 → vec (size_prefixed body) standard_minimal s xs → (t : List ℕ) × vec (size_prefixed body) minimal t xs
code_built s xs l h =
    let size : length s ≡ length h.front + length h.back = ap length h.joined ∙ length-append h.front h.back in
    let b = bodies_built h.back xs (omega (arith, l, size)) h.second in
    (h.front ++ b.0, record { front = h.front; back = b.0; joined = refl; first = u32_same h.front (length xs) h.first; second = b.1 })

-- ---- each kind

no_longer : (kind : SectionKind) (s t : List ℕ) → length t ≤ length s → HasShortBodies admitted kind s → HasShortBodies admitted kind t
no_longer kinds.Bodies s t l short = omega (arith, l, short)
no_longer kind s t l short = tt

not_alone : both_grammars ≡ builders_alone → ⊥
not_alone e = cc e

-- The bytes of a section of a kind that is written in the builders' grammar alone.
content_built : (kind : SectionKind) (s : List ℕ) (x : Contents) → grammars_of kind ≡ builders_alone → HasShortBodies admitted kind s → content kind standard_minimal s x → (t : List ℕ) × content kind minimal t x
content_built kinds.Bodies s x e short h = let a = code_built s h.0 short h.2 in (a.0, (h.0, h.1, a.1))
content_built kinds.Segments s x e short h = let a = (mapped_built _ (vec_built data_built)).form s x h in (a.0, a.1)
content_built kinds.Elements s x e short h = let a = (mapped_built _ (vec_built element_built)).form s x h in (a.0, a.1)
content_built kinds.Globals s x e short h = let a = (mapped_built _ (vec_built global_built)).form s x h in (a.0, a.1)
content_built kinds.Imports s x e short h = let a = (mapped_built _ (vec_built import_built)).form s x h in (a.0, a.1)
content_built kinds.Tables s x e short h = let a = (mapped_built _ (vec_built table_built)).form s x h in (a.0, a.1)
content_built kinds.Types s x e short h = let a = (mapped_built _ (vec_built type_built)).form s x h in (a.0, a.1)
-- begin: written by tools/kinds
content_built kinds.DataCount s x e short h = absurd (not_alone e)
content_built kinds.Exports s x e short h = absurd (not_alone e)
content_built kinds.Functions s x e short h = absurd (not_alone e)
content_built kinds.Memories s x e short h = absurd (not_alone e)
content_built kinds.Start s x e short h = absurd (not_alone e)
content_built kinds.Tags s x e short h = absurd (not_alone e)
content_built kinds.Names s x e short h = absurd (not_alone e)
content_built kinds.Linking s x e short h = absurd (not_alone e)
content_built kinds.Producers s x e short h = absurd (not_alone e)
content_built kinds.Hints s x e short h = absurd (not_alone e)
content_built kinds.Core s x e short h = absurd (not_alone e)
content_built kinds.CoreModules s x e short h = absurd (not_alone e)
content_built kinds.CoreInstances s x e short h = absurd (not_alone e)
content_built kinds.CoreStack s x e short h = absurd (not_alone e)
content_built kinds.Custom s x e short h = absurd (not_alone e)
content_built kinds.Raw s x e short h = absurd (not_alone e)
content_built kinds.TargetFeatures s x e short h = absurd (not_alone e)
content_built kinds.SourceMappingUrl s x e short h = absurd (not_alone e)
content_built kinds.ExternalDebugInfo s x e short h = absurd (not_alone e)
content_built kinds.BuildId s x e short h = absurd (not_alone e)
content_built kinds.Dylink s x e short h = absurd (not_alone e)
content_built kinds.Relocations s x e short h = absurd (not_alone e)
content_built kinds.InstructionFrequencies s x e short h = absurd (not_alone e)
content_built kinds.CompilationOrders s x e short h = absurd (not_alone e)
content_built kinds.CallTargets s x e short h = absurd (not_alone e)

-- end: written by tools/kinds

-- ---- contents that builders encode

-- The bytes decode to the content in a grammar that its kind's encoders write, and that the grammar
-- `w` extends.
pub record IsWritable (w : Grammar) (x : Contents) : Type 0 where
  pub grammar : Grammar
  pub included : Includes (grammars_of (kind_in x)) grammar
  pub extended : Extends w grammar
  pub bytes : List ℕ
  pub decoded : content (kind_in x) (padded_of grammar) bytes x

in_builders : (k : Grammars) → Includes k builders
in_builders builders_alone = tt
in_builders both_grammars = tt

pub extends_builders : (w : Grammar) → Extends w builders
extends_builders builders = tt
extends_builders admitted = tt

from_standard : (w : Grammar) (x : Contents) (s : List ℕ) (k : Grammars) → grammars_of (kind_in x) ≡ k → Extends w admitted → HasShortBodies admitted (kind_in x) s → content (kind_in x) standard s x → IsWritable w x
from_standard w x s both_grammars e i short h = record { grammar = admitted; included = subst (λ k. Includes k admitted) (sym e) tt; extended = i; bytes = s; decoded = h }
from_standard w x s builders_alone e i short h =
    let whole = content_whole (kind_in x) in
    let least = whole.encodings.shorter admitted s x h in
    let a = content_built (kind_in x) least.0 x e (no_longer (kind_in x) s least.0 least.2 short) least.1 in
    record { grammar = builders; included = in_builders (grammars_of (kind_in x)); extended = extends_builders w; bytes = a.0; decoded = whole.encodings.included minimal padded tt a.0 x a.1 }

pub is_writable : (w : Grammar) (x : Contents) → HasContentIn w x → IsWritable w x
is_writable w x h = go h.grammar h.extended h.short h.decoded
  where
    go : (v : Grammar) → Extends w v → HasShortBodies v (kind_in x) h.bytes → content (kind_in x) (padded_of v) h.bytes x → IsWritable w x
    go builders i short d = record { grammar = builders; included = in_builders (grammars_of (kind_in x)); extended = i; bytes = h.bytes; decoded = d }
    go admitted i short d = from_standard w x h.bytes (grammars_of (kind_in x)) refl i short d
