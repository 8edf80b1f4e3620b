-- This file proves that linking sections are unambiguous, and how they are decoded and minimized.
use Rattle.wasm_base.proofs.Words.{ℕ, [], ◌∷◌, length, false, true, refl, sym, ap, arith, length-append, map, map-id, ◌≡◌, ◌≢◌, ◌<◌, List, subst, ◌++◌, take, drop, ItemLaws, u32, byte}
use Rattle.wasm_base.proofs.Words.{name, any_bytes, any_bytes_whole, IsOther, just, vec, Format, size_prefixed, members, mapped, prefixed, minimal, unsigned_encoding, Mode, padded, standard, standard_minimal, Grammar, builders, admitted}
use Rattle.wasm_base.proofs.Words.{is_admitted, padded_of, Unambiguous, Decodes, Rejects, size_prefixed_encoding, HasEncodableSize, vec_encoding, just_unambiguous, name_unambiguous, ascii}
use Rattle.wasm_base.proofs.Words.{mapped_unambiguous, vec_unambiguous, size_prefixed_unambiguous, whole_from_unique, byte_unambiguous, choice_of, u32_unambiguous, flag_encodes, tagged_begins}
use Rattle.wasm_base.proofs.Words.{tagged_encodes, name_encodes, vec_encodes, size_prefixed_encodes, RejectsWhole, AllDetermine, BeginsWith, IsIncludedIn, mapped_decodes, mapped_rejects, no_choice}
use Rattle.wasm_base.proofs.Words.{AppendsMinimal, both_grammars, HasEncoding, tagged_encoded, content_encoded, behind_encodable, prefixed_encoded, prefixed_appended, u32_appended, tagged_appended}
use Rattle.wasm_base.proofs.Words.{size_prefixed_appended, SectionLaws}
use Rattle.wasm_base.proofs.Words.{Grammars}
use Rattle.wasm_base.specs.Numbers.{minimal_of}
use Rattle.wasm_custom.specs.{CustomLayoutLaws, listing, entries, LinkItem, Target, link_encoding, IsLink, IsObjectLink, link_tags, built_link, full_link_tags, other_link, full_link, link, linking_name, version}
use Rattle.wasm_custom.specs.{link_items, linking_payload, object_items, object_payload, named_payload, symbol_encoding, IsSymbol, IsObjectSymbol, built_symbol, full_symbol, symbol, Symbol}
use Rattle.wasm_custom.specs.{SegmentInfo, segment_encoding, IsSegment, segment, init_encoding, IsInit, init_function, Comdat, comdat_encoding, IsComdat, comdat}
use Rattle.wasm_custom.specs.Linking.{Segments, InitFunctions, Comdats, Symbols, OtherLink}
use Rattle.wasm_custom.specs.declared.init_functions.InitFunction.{InitFunction}
use Rattle.wasm_custom.proofs.CustomLaws.{named_encoded, content_encodable, just_appended, named_appended}
use Rattle.wasm_custom.proofs.WiderLaws.{choice_or, other_is, other_is_not, mapped_included, members_included, behind_included, vec_included, size_prefixed_included, tagged_included, decodes_included, rejects_included}
use Rattle.wasm_custom.proofs.WiderLaws.{wider_unambiguous, wider_begins, both_is, both_is_not, full_is, full_is_not, tag_is, tag_is_not, tag_none, tag_rejects, after_tag, IsAfterTag, in_each, in_standard, in_others, tag_appended, tag_encoded, known_appended, known_encoded, content_appended, content_of}
use Rattle.wasm_custom.proofs.SymbolLaws.{built_symbol_unambiguous, full_symbol_unambiguous, built_is_full, symbol_encodes, full_symbol_encodes}
use Rattle.wasm_custom.proofs.SegmentLaws.{segment_unambiguous, segment_encodes}
use Rattle.wasm_custom.proofs.InitLaws.{init_unambiguous, init_encodes}
use Rattle.wasm_custom.proofs.ComdatLaws.{comdat_unambiguous, comdat_encodes}
use Rattle.wasm_custom.proofs.DecodeNamed.{just_this, just_none, just_other, behind_fills, behind_none, behind_rejects, named_fills, named_none, named_rejects}
use Rattle.wasm_custom.proofs.EntriesLaws.{entries_laws}

abbrev link_id : LinkItem → ℕ
link_id (Segments segments) = 5
link_id (InitFunctions functions) = 6
link_id (Comdats comdats) = 7
link_id (Symbols symbols) = 8
link_id (Target n) = 9
link_id (OtherLink id content) = id

-- The id is determined by a subsection of the builders' grammar.
built_ids : AllDetermine link_id link_tags
built_ids = (λ mode s x h. ap link_id h.1, (λ mode s x h. ap link_id h.1, tt))

-- The id is determined by a subsection whose content is decoded.
full_ids : AllDetermine link_id full_link_tags
full_ids = (λ mode s x h. ap link_id h.1, (λ mode s x h. ap link_id h.1, (λ mode s x h. ap link_id h.1, (λ mode s x h. ap link_id h.1, (λ mode s x h. ap link_id h.1, tt)))))

built_unambiguous : Unambiguous built_link
built_unambiguous =
    choice_of byte link_id link_tags byte_unambiguous
    (mapped_unambiguous Symbols (λ x y e. cc) (size_prefixed_unambiguous (whole_from_unique (vec_unambiguous built_symbol_unambiguous))), (mapped_unambiguous Target (λ x y e. cc) (size_prefixed_unambiguous (whole_from_unique name_unambiguous)), tt))
    built_ids

pub full_link_unambiguous : Unambiguous full_link
full_link_unambiguous =
    choice_or link_id full_link_tags other_link (
      mapped_unambiguous Segments (λ x y e. cc) (size_prefixed_unambiguous (whole_from_unique (vec_unambiguous segment_unambiguous))),
      (
        mapped_unambiguous InitFunctions (λ x y e. cc) (size_prefixed_unambiguous (whole_from_unique (vec_unambiguous init_unambiguous))),
        (
          mapped_unambiguous Comdats (λ x y e. cc) (size_prefixed_unambiguous (whole_from_unique (vec_unambiguous comdat_unambiguous))),
          (
            mapped_unambiguous Symbols (λ x y e. cc) (size_prefixed_unambiguous (whole_from_unique (vec_unambiguous full_symbol_unambiguous))),
            (mapped_unambiguous Target (λ x y e. cc) (size_prefixed_unambiguous (whole_from_unique name_unambiguous)), tt),
          ),
        ),
      ),
    )
    full_ids
    (λ b. mapped_unambiguous (OtherLink b) (λ x y e. cc) (size_prefixed_unambiguous any_bytes_whole))
    (λ b mode s x h. ap link_id h.1)

-- A table of symbols of one format is a table of a format that includes it.
pub tables_included : (F G : Format Symbol) (m : Mode) → IsIncludedIn (F m) (G m) → IsIncludedIn (size_prefixed (vec F) m) (size_prefixed (vec G) m)
tables_included F G m h = size_prefixed_included (vec F) (vec G) m (vec_included F G m h)

built_is_full_link : (m : Mode) → IsIncludedIn (built_link m) (full_link m)
built_is_full_link m = tagged_included link_tags full_link_tags other_link m (mapped_included Symbols (size_prefixed (vec built_symbol)) (size_prefixed (vec full_symbol)) m (tables_included built_symbol full_symbol m (built_is_full m)), (λ s x h. h, tt))

pub link_unambiguous : Unambiguous link
link_unambiguous = wider_unambiguous built_link full_link built_unambiguous full_link_unambiguous (built_is_full_link padded)

pub link_begins : BeginsWith (λ b. Unit {0}) link
link_begins = wider_begins (λ b. Unit {0}) tagged_begins tagged_begins

link_encodes : (x : LinkItem) → IsLink x → HasEncodableSize (link_encoding x) → built_link minimal (link_encoding x) x
link_encodes (Segments segments) plain encodable = absurd plain
link_encodes (InitFunctions functions) plain encodable = absurd plain
link_encodes (Comdats comdats) plain encodable = absurd plain
link_encodes (Symbols symbols) plain encodable =
    let content = vec_encoding symbol_encoding symbols in
    tagged_encodes minimal 8 (size_prefixed_encoding content) (Symbols symbols)
    (symbols, refl, size_prefixed_encodes (vec built_symbol) content symbols (content_encodable 8 content encodable) (vec_encodes built_symbol IsSymbol symbol_encoding symbol_encodes symbols plain))
link_encodes (OtherLink id content) plain encodable = absurd plain
link_encodes (Target n) plain encodable =
    let inside = content_encodable 9 (size_prefixed_encoding n) encodable in
    tagged_encodes minimal 9 (size_prefixed_encoding (size_prefixed_encoding n)) (Target n) (n, refl, size_prefixed_encodes name (size_prefixed_encoding n) n inside (name_encodes n plain (omega (arith, inside, length-append (unsigned_encoding (length n)) n))))

pub link_laws : ItemLaws link_items
link_laws = record { unique = link_unambiguous; encodes = link_encodes }

pub link_layout : CustomLayoutLaws link linking_name (version ∷ []) (just version u32) false
link_layout = record {
  name_utf8 = ascii {bytes = linking_name} refl;
  front_unique = just_unambiguous version u32_unambiguous;
  front_encodes = flag_encodes version (omega arith);
  begins = λ e. link_begins;
}

pub linking_section : SectionLaws link_items linking_payload
linking_section = entries_laws link_laws link_layout (λ given plain. plain) (λ given plain. plain)

-- ---- the linking section of an object file

object_encodes : (x : LinkItem) → IsObjectLink x → HasEncodableSize (link_encoding x) → full_link minimal (link_encoding x) x
object_encodes (Segments segments) plain encodable =
    let content = vec_encoding segment_encoding segments in
    tagged_encodes minimal 5 (size_prefixed_encoding content) (Segments segments)
    (segments, refl, size_prefixed_encodes (vec segment) content segments (content_encodable 5 content encodable) (vec_encodes segment IsSegment segment_encoding segment_encodes segments plain))
object_encodes (InitFunctions functions) plain encodable =
    let content = vec_encoding init_encoding functions in
    tagged_encodes minimal 6 (size_prefixed_encoding content) (InitFunctions functions)
    (functions, refl, size_prefixed_encodes (vec init_function) content functions (content_encodable 6 content encodable) (vec_encodes init_function IsInit init_encoding init_encodes functions plain))
object_encodes (Comdats comdats) plain encodable =
    let content = vec_encoding comdat_encoding comdats in
    tagged_encodes minimal 7 (size_prefixed_encoding content) (Comdats comdats)
    (comdats, refl, size_prefixed_encodes (vec comdat) content comdats (content_encodable 7 content encodable) (vec_encodes comdat IsComdat comdat_encoding comdat_encodes comdats plain))
object_encodes (Symbols symbols) plain encodable =
    let content = vec_encoding symbol_encoding symbols in
    tagged_encodes minimal 8 (size_prefixed_encoding content) (Symbols symbols)
    (symbols, refl, size_prefixed_encodes (vec full_symbol) content symbols (content_encodable 8 content encodable) (vec_encodes full_symbol IsObjectSymbol symbol_encoding full_symbol_encodes symbols plain))
object_encodes (OtherLink id content) plain encodable = absurd plain
object_encodes (Target n) plain encodable =
    let inside = content_encodable 9 (size_prefixed_encoding n) encodable in
    tagged_encodes minimal 9 (size_prefixed_encoding (size_prefixed_encoding n)) (Target n) (n, refl, size_prefixed_encodes name (size_prefixed_encoding n) n inside (name_encodes n plain (omega (arith, inside, length-append (unsigned_encoding (length n)) n))))

pub object_laws : ItemLaws object_items
object_laws = record { unique = full_link_unambiguous; encodes = object_encodes }

pub object_layout : CustomLayoutLaws full_link linking_name (version ∷ []) (just version u32) false
object_layout = record {
  name_utf8 = ascii {bytes = linking_name} refl;
  front_unique = just_unambiguous version u32_unambiguous;
  front_encodes = flag_encodes version (omega arith);
  begins = λ e. tagged_begins;
}

pub object_section : SectionLaws object_items object_payload
object_section = entries_laws object_laws object_layout (λ given plain. plain) (λ given plain. plain)

-- A section whose subsections are encodings by another format that includes them.
payload_included : (F G : Format LinkItem) (m : Mode) → IsIncludedIn (F m) (G m) → IsIncludedIn (named_payload linking_name (entries (just version u32) false F) m) (named_payload linking_name (entries (just version u32) false G) m)
payload_included F G m h = behind_included (just linking_name name) (entries (just version u32) false F) (entries (just version u32) false G) m (behind_included (just version u32) (members F) (members G) m (members_included F G m h))

-- In the standard's grammar, a linking section is that of an object file.
pub decoded_is_object : IsIncludedIn (linking_payload standard) (object_payload standard)
decoded_is_object = payload_included link full_link standard (λ s x h. h)

pub object_is_decoded : IsIncludedIn (object_payload standard) (linking_payload standard)
object_is_decoded = payload_included full_link link standard (λ s x h. h)

pub minimal_is_object : IsIncludedIn (linking_payload standard_minimal) (object_payload standard_minimal)
minimal_is_object = payload_included link full_link standard_minimal (λ s x h. h)

pub object_is_minimal : IsIncludedIn (object_payload standard_minimal) (linking_payload standard_minimal)
object_is_minimal = payload_included full_link link standard_minimal (λ s x h. h)

-- In the builders' grammar, it is one too.
pub built_is_object : IsIncludedIn (linking_payload padded) (object_payload padded)
built_is_object = payload_included link full_link padded (built_is_full_link padded)

pub ruleset object_linking = (decoded_is_object, object_is_decoded, minimal_is_object, object_is_minimal, built_is_object)

-- ---- decoding the linking section

-- ---- subsections

pub link_none : (w : Grammar) (bytes : List ℕ) → Rejects byte (padded_of w) bytes → Rejects link (padded_of w) bytes
link_none w bytes n = tag_none link_tags full_link_tags other_link w bytes n

-- The subsections of the standard's grammar alone.
pub segments_decodes : (w : Grammar) (bytes rest last : List ℕ) (b : ℕ) (xs : List SegmentInfo) → Decodes byte (padded_of w) bytes b rest → b ≡ 5 → is_admitted w ≡ true → Decodes (size_prefixed (vec segment)) (padded_of w) rest xs last → Decodes link (padded_of w) bytes (Segments xs) last
segments_decodes w bytes rest last b xs h e f g = full_is link_tags full_link_tags other_link 5 (mapped Segments (size_prefixed (vec segment))) refl w f h e (mapped_decodes Segments g)

pub segments_none : (w : Grammar) (bytes rest : List ℕ) (b : ℕ) → Decodes byte (padded_of w) bytes b rest → b ≡ 5 → is_admitted w ≡ true → Rejects (size_prefixed (vec segment)) (padded_of w) rest → Rejects link (padded_of w) bytes
segments_none w bytes rest b h e f n = full_is_not link_tags full_link_tags other_link 5 (mapped Segments (size_prefixed (vec segment))) refl w f h e (mapped_rejects Segments n)

pub inits_decodes : (w : Grammar) (bytes rest last : List ℕ) (b : ℕ) (xs : List InitFunction) → Decodes byte (padded_of w) bytes b rest → b ≡ 6 → is_admitted w ≡ true → Decodes (size_prefixed (vec init_function)) (padded_of w) rest (map (λ f. f) xs) last → Decodes link (padded_of w) bytes (InitFunctions xs) last
inits_decodes w bytes rest last b xs h e f g = full_is link_tags full_link_tags other_link 6 (mapped InitFunctions (size_prefixed (vec init_function))) refl w f h e (mapped_decodes InitFunctions (subst (λ z. Decodes (size_prefixed (vec init_function)) (padded_of w) rest z last) (map-id xs) g))

pub inits_none : (w : Grammar) (bytes rest : List ℕ) (b : ℕ) → Decodes byte (padded_of w) bytes b rest → b ≡ 6 → is_admitted w ≡ true → Rejects (size_prefixed (vec init_function)) (padded_of w) rest → Rejects link (padded_of w) bytes
inits_none w bytes rest b h e f n = full_is_not link_tags full_link_tags other_link 6 (mapped InitFunctions (size_prefixed (vec init_function))) refl w f h e (mapped_rejects InitFunctions n)

pub comdats_decodes : (w : Grammar) (bytes rest last : List ℕ) (b : ℕ) (xs : List Comdat) → Decodes byte (padded_of w) bytes b rest → b ≡ 7 → is_admitted w ≡ true → Decodes (size_prefixed (vec comdat)) (padded_of w) rest xs last → Decodes link (padded_of w) bytes (Comdats xs) last
comdats_decodes w bytes rest last b xs h e f g = full_is link_tags full_link_tags other_link 7 (mapped Comdats (size_prefixed (vec comdat))) refl w f h e (mapped_decodes Comdats g)

pub comdats_none : (w : Grammar) (bytes rest : List ℕ) (b : ℕ) → Decodes byte (padded_of w) bytes b rest → b ≡ 7 → is_admitted w ≡ true → Rejects (size_prefixed (vec comdat)) (padded_of w) rest → Rejects link (padded_of w) bytes
comdats_none w bytes rest b h e f n = full_is_not link_tags full_link_tags other_link 7 (mapped Comdats (size_prefixed (vec comdat))) refl w f h e (mapped_rejects Comdats n)

-- The subsections of both grammars.
pub symbols_decodes : (w : Grammar) (bytes rest last : List ℕ) (b : ℕ) (xs : List Symbol) → Decodes byte (padded_of w) bytes b rest → b ≡ 8 → Decodes (size_prefixed (vec symbol)) (padded_of w) rest xs last → Decodes link (padded_of w) bytes (Symbols xs) last
symbols_decodes builders bytes rest last b xs h e g = tag_is link_tags full_link_tags other_link builders 8 h e (mapped_decodes Symbols (decodes_included (size_prefixed (vec symbol)) (size_prefixed (vec built_symbol)) padded (tables_included symbol built_symbol padded (λ s x k. k)) g))
symbols_decodes admitted bytes rest last b xs h e g = tag_is link_tags full_link_tags other_link admitted 8 h e (mapped_decodes Symbols (decodes_included (size_prefixed (vec symbol)) (size_prefixed (vec full_symbol)) standard (tables_included symbol full_symbol standard (λ s x k. k)) g))

pub symbols_none : (w : Grammar) (bytes rest : List ℕ) (b : ℕ) → Decodes byte (padded_of w) bytes b rest → b ≡ 8 → Rejects (size_prefixed (vec symbol)) (padded_of w) rest → Rejects link (padded_of w) bytes
symbols_none builders bytes rest b h e n = tag_is_not link_tags full_link_tags other_link builders 8 h e (mapped_rejects Symbols (rejects_included (size_prefixed (vec built_symbol)) (size_prefixed (vec symbol)) padded (tables_included built_symbol symbol padded (λ s x k. k)) n))
symbols_none admitted bytes rest b h e n = tag_is_not link_tags full_link_tags other_link admitted 8 h e (mapped_rejects Symbols (rejects_included (size_prefixed (vec full_symbol)) (size_prefixed (vec symbol)) standard (tables_included full_symbol symbol standard (λ s x k. k)) n))

pub arch_decodes : (w : Grammar) (bytes rest last : List ℕ) (b : ℕ) (n : List ℕ) → Decodes byte (padded_of w) bytes b rest → b ≡ 9 → Decodes (size_prefixed name) (padded_of w) rest n last → Decodes link (padded_of w) bytes (Target n) last
arch_decodes w bytes rest last b n h e g = both_is link_tags full_link_tags other_link 9 (mapped Target (size_prefixed name)) refl refl w h e (mapped_decodes Target g)

pub arch_none : (w : Grammar) (bytes rest : List ℕ) (b : ℕ) → Decodes byte (padded_of w) bytes b rest → b ≡ 9 → Rejects (size_prefixed name) (padded_of w) rest → Rejects link (padded_of w) bytes
arch_none w bytes rest b h e n = both_is_not link_tags full_link_tags other_link 9 (mapped Target (size_prefixed name)) refl refl w h e (mapped_rejects Target n)

-- A subsection of any other id, which the standard's grammar alone has.
pub others_decodes : (w : Grammar) (bytes rest last : List ℕ) (b : ℕ) (content : List ℕ) → Decodes byte (padded_of w) bytes b rest → IsOther full_link_tags b → is_admitted w ≡ true → Decodes (size_prefixed any_bytes) (padded_of w) rest content last → Decodes link (padded_of w) bytes (OtherLink b content) last
others_decodes w bytes rest last b content h o f g = other_is link_tags full_link_tags other_link o w f h (mapped_decodes (OtherLink b) g)

pub others_none : (w : Grammar) (bytes rest : List ℕ) (b : ℕ) → Decodes byte (padded_of w) bytes b rest → IsOther full_link_tags b → is_admitted w ≡ true → Rejects (size_prefixed any_bytes) (padded_of w) rest → Rejects link (padded_of w) bytes
others_none w bytes rest b h o f n = other_is_not link_tags full_link_tags other_link o w f h (mapped_rejects (OtherLink b) n)

-- The builders' grammar has no subsection of the id.
pub link_unknown : (w : Grammar) (bytes rest : List ℕ) (b : ℕ) → Decodes byte (padded_of w) bytes b rest → is_admitted w ≡ false → b ≢ 8 → b ≢ 9 → Rejects link (padded_of w) bytes
link_unknown builders bytes rest b h f p q = tag_rejects link_tags full_link_tags other_link builders h (no_choice link_tags b rest (p, (q, tt)))
link_unknown admitted bytes rest b h f p q = absurd (cc f)

pub link_of_builders : (w : Grammar) (bytes rest : List ℕ) (b : ℕ) → Decodes byte (padded_of w) bytes b rest → is_admitted w ≡ false → b < 8 → Rejects link (padded_of w) bytes
link_of_builders w bytes rest b h f l = link_unknown w bytes rest b h f (omega (arith, l)) (omega (arith, l))

pub ruleset link_steps = (arch_decodes, arch_none, link_unknown, link_of_builders)

-- ---- the version

pub version_there : {m : Mode} (bytes rest : List ℕ) (n : ℕ) → Decodes u32 m bytes n rest → n ≡ 2 → Decodes (just version u32) m bytes tt rest
version_there bytes rest n h e = just_this u32 version bytes rest n h e

pub version_none : {m : Mode} (bytes : List ℕ) → Rejects u32 m bytes → Rejects (just version u32) m bytes
version_none bytes n = just_none u32 version bytes n

pub version_other : {m : Mode} (bytes rest : List ℕ) (n : ℕ) → Decodes u32 m bytes n rest → n ≢ 2 → Rejects (just version u32) m bytes
version_other bytes rest n h p = just_other u32 version bytes u32_unambiguous rest n h p

pub ruleset version_steps = (version_there, version_other)

-- ---- sections

abbrev items : Format (List LinkItem)
items = entries (just version u32) false link

pub links_fill : {m : Mode} (bytes rest last : List ℕ) (links : List LinkItem) → Decodes (just linking_name name) m bytes tt rest → Decodes (just version u32) m rest tt last → members link m last links → linking_payload m bytes links
links_fill bytes rest last links h g l = named_fills linking_name items bytes rest links h (behind_fills (just version u32) (listing false link) rest last links g l)

pub links_none : {m : Mode} (bytes : List ℕ) → Rejects (just linking_name name) m bytes → RejectsWhole linking_payload m bytes
links_none bytes n = named_none linking_name items bytes n

pub links_no_version : {m : Mode} (bytes rest : List ℕ) → Decodes (just linking_name name) m bytes tt rest → Rejects (just version u32) m rest → RejectsWhole linking_payload m bytes
links_no_version bytes rest h n = named_rejects linking_name items bytes rest h (behind_none (just version u32) (listing false link) rest n)

pub no_links : {m : Mode} (bytes rest last : List ℕ) → Decodes (just linking_name name) m bytes tt rest → Decodes (just version u32) m rest tt last → RejectsWhole (members link) m last → RejectsWhole linking_payload m bytes
no_links bytes rest last h g n = named_rejects linking_name items bytes rest h (behind_rejects (just version u32) (listing false link) rest (just_unambiguous version u32_unambiguous) last g n)

pub ruleset section_steps = (links_fill, links_none, links_no_version, no_links)

-- ---- the one minimal encoding of decoded linking sections

-- A vector after the id of its subsection.
pub vector_appended : {k : Grammars} {X : Type 0} (F : Format X) (id : ℕ) (xs : List X) (start : ℕ) (old front middle new : List ℕ) → front ≡ old ++ id ∷ [] → start ≡ length front → AppendsMinimal k (vec F) xs front middle → HasEncodableSize (drop start middle)
    → new ≡ take start middle ++ size_prefixed_encoding (drop start middle) → AppendsMinimal k (prefixed (id ∷ []) (size_prefixed (vec F))) xs old new
vector_appended F id xs start old front middle new e l a encodable is = prefixed_appended (id ∷ []) (size_prefixed (vec F)) xs old front new e (size_prefixed_appended (vec F) xs start front middle new l a encodable is)

pub other_appended : (id : ℕ) (content old front new : List ℕ) → front ≡ old ++ id ∷ [] → AppendsMinimal both_grammars (size_prefixed any_bytes) content front new → AppendsMinimal both_grammars (prefixed (id ∷ []) (size_prefixed any_bytes)) content old new
other_appended id content old front new e a = prefixed_appended (id ∷ []) (size_prefixed any_bytes) content old front new e a

pub target_appended : (n old front new : List ℕ) → front ≡ old ++ 9 ∷ [] → AppendsMinimal both_grammars (size_prefixed name) n front new → AppendsMinimal both_grammars (prefixed (9 ∷ []) (size_prefixed name)) n old new
target_appended n old front new e a = prefixed_appended (9 ∷ []) (size_prefixed name) n old front new e a

-- In each grammar that has an encoding of the subsection, `F` is the format after its id.
abbrev IsKnown : LinkItem → Format LinkItem → Type 1
IsKnown x F = IsAfterTag link_tags full_link_tags other_link link_id built_ids full_ids (λ b mode s x h. ap link_id h.1) x F

module _ (x : LinkItem) (F : Format LinkItem) (known : IsKnown x F) where
  known_short : {old new : List ℕ} → AppendsMinimal both_grammars (prefixed (link_id x ∷ []) F) x old new → AppendsMinimal both_grammars link x old new
  known_short a = known_appended link_tags full_link_tags other_link link_id built_ids full_ids (λ b mode s x h. ap link_id h.1) x F known a

  known_content : HasEncoding both_grammars link x → HasEncoding both_grammars (prefixed (link_id x ∷ []) F) x
  known_content h = known_encoded link_tags full_link_tags other_link link_id built_ids full_ids (λ b mode s x h. ap link_id h.1) x F known h

other_known : (id : ℕ) (content : List ℕ) → IsKnown (OtherLink id content) (other_link id)
other_known id content =
    in_others link_tags full_link_tags other_link link_id built_ids full_ids (λ b mode s x h. ap link_id h.1) (OtherLink id content)
    (λ mode s h. absurd (cc (h.1)), (λ mode s h. absurd (cc (h.1)), tt))
    (λ mode s h. absurd (cc (h.1)), (λ mode s h. absurd (cc (h.1)), (λ mode s h. absurd (cc (h.1)), (λ mode s h. absurd (cc (h.1)), (λ mode s h. absurd (cc (h.1)), tt)))))

-- The bytes that a call appends for a subsection are its minimal encoding, and a subsection that
-- has an encoding has one with its content.
pub others_short : (id : ℕ) (content old new : List ℕ) → AppendsMinimal both_grammars (prefixed (id ∷ []) (size_prefixed any_bytes)) content old new → AppendsMinimal both_grammars link (OtherLink id content) old new
others_short id content old new a = known_short (OtherLink id content) (other_link id) (other_known id content) (content_appended (OtherLink id) (λ x z k. cc k) (id ∷ []) (size_prefixed any_bytes) content a)

pub others_encoded : (id : ℕ) (content : List ℕ) → HasEncoding both_grammars link (OtherLink id content) → HasEncoding both_grammars (prefixed (id ∷ []) (size_prefixed any_bytes)) content
others_encoded id content h = content_of (OtherLink id) (λ x z k. cc k) (id ∷ []) (size_prefixed any_bytes) content (known_content (OtherLink id content) (other_link id) (other_known id content) h)

pub segments_short : (xs : List SegmentInfo) (old new : List ℕ) → AppendsMinimal both_grammars (prefixed (5 ∷ []) (size_prefixed (vec segment))) xs old new → AppendsMinimal both_grammars link (Segments xs) old new
segments_short xs old new a = known_short (Segments xs) (mapped Segments (size_prefixed (vec segment))) (in_standard link_tags full_link_tags other_link link_id built_ids full_ids (λ b mode s x h. ap link_id h.1) (Segments xs) (mapped Segments (size_prefixed (vec segment))) refl refl) (content_appended Segments (λ x z k. cc k) (5 ∷ []) (size_prefixed (vec segment)) xs a)

pub segments_encoded : (xs : List SegmentInfo) → HasEncoding both_grammars link (Segments xs) → HasEncoding both_grammars (prefixed (5 ∷ []) (size_prefixed (vec segment))) xs
segments_encoded xs h = content_of Segments (λ x z k. cc k) (5 ∷ []) (size_prefixed (vec segment)) xs (known_content (Segments xs) (mapped Segments (size_prefixed (vec segment))) (in_standard link_tags full_link_tags other_link link_id built_ids full_ids (λ b mode s x h. ap link_id h.1) (Segments xs) (mapped Segments (size_prefixed (vec segment))) refl refl) h)

pub inits_short : (xs : List InitFunction) (old new : List ℕ) → AppendsMinimal both_grammars (prefixed (6 ∷ []) (size_prefixed (vec init_function))) (map (λ f. f) xs) old new → AppendsMinimal both_grammars link (InitFunctions xs) old new
inits_short xs old new a = known_short (InitFunctions xs) (mapped InitFunctions (size_prefixed (vec init_function))) (in_standard link_tags full_link_tags other_link link_id built_ids full_ids (λ b mode s x h. ap link_id h.1) (InitFunctions xs) (mapped InitFunctions (size_prefixed (vec init_function))) refl refl) (content_appended InitFunctions (λ x z k. cc k) (6 ∷ []) (size_prefixed (vec init_function)) xs (subst (λ z. AppendsMinimal both_grammars (prefixed (6 ∷ []) (size_prefixed (vec init_function))) z old new) (map-id xs) a))

pub inits_encoded : (xs : List InitFunction) → HasEncoding both_grammars link (InitFunctions xs) → HasEncoding both_grammars (prefixed (6 ∷ []) (size_prefixed (vec init_function))) (map (λ f. f) xs)
inits_encoded xs h =
    subst (λ z. HasEncoding both_grammars (prefixed (6 ∷ []) (size_prefixed (vec init_function))) z) (sym (map-id xs))
    (content_of InitFunctions (λ x z k. cc k) (6 ∷ []) (size_prefixed (vec init_function)) xs (known_content (InitFunctions xs) (mapped InitFunctions (size_prefixed (vec init_function))) (in_standard link_tags full_link_tags other_link link_id built_ids full_ids (λ b mode s x h. ap link_id h.1) (InitFunctions xs) (mapped InitFunctions (size_prefixed (vec init_function))) refl refl) h))

pub comdats_short : (xs : List Comdat) (old new : List ℕ) → AppendsMinimal both_grammars (prefixed (7 ∷ []) (size_prefixed (vec comdat))) xs old new → AppendsMinimal both_grammars link (Comdats xs) old new
comdats_short xs old new a = known_short (Comdats xs) (mapped Comdats (size_prefixed (vec comdat))) (in_standard link_tags full_link_tags other_link link_id built_ids full_ids (λ b mode s x h. ap link_id h.1) (Comdats xs) (mapped Comdats (size_prefixed (vec comdat))) refl refl) (content_appended Comdats (λ x z k. cc k) (7 ∷ []) (size_prefixed (vec comdat)) xs a)

pub comdats_encoded : (xs : List Comdat) → HasEncoding both_grammars link (Comdats xs) → HasEncoding both_grammars (prefixed (7 ∷ []) (size_prefixed (vec comdat))) xs
comdats_encoded xs h = content_of Comdats (λ x z k. cc k) (7 ∷ []) (size_prefixed (vec comdat)) xs (known_content (Comdats xs) (mapped Comdats (size_prefixed (vec comdat))) (in_standard link_tags full_link_tags other_link link_id built_ids full_ids (λ b mode s x h. ap link_id h.1) (Comdats xs) (mapped Comdats (size_prefixed (vec comdat))) refl refl) h)

pub arch_short : (n : List ℕ) (old new : List ℕ) → AppendsMinimal both_grammars (prefixed (9 ∷ []) (size_prefixed name)) n old new → AppendsMinimal both_grammars link (Target n) old new
arch_short n old new a = known_short (Target n) (mapped Target (size_prefixed name)) (in_each link_tags full_link_tags other_link link_id built_ids full_ids (λ b mode s x h. ap link_id h.1) (Target n) (mapped Target (size_prefixed name)) refl refl) (content_appended Target (λ x z k. cc k) (9 ∷ []) (size_prefixed name) n a)

pub arch_encoded : (n : List ℕ) → HasEncoding both_grammars link (Target n) → HasEncoding both_grammars (prefixed (9 ∷ []) (size_prefixed name)) n
arch_encoded n h = content_of Target (λ x z k. cc k) (9 ∷ []) (size_prefixed name) n (known_content (Target n) (mapped Target (size_prefixed name)) (in_each link_tags full_link_tags other_link link_id built_ids full_ids (λ b mode s x h. ap link_id h.1) (Target n) (mapped Target (size_prefixed name)) refl refl) h)

-- The symbols of a table in the grammar.
tables_in : (w : Grammar) (s : List ℕ) (xs : List Symbol) → after_tag link_tags full_link_tags other_link w 8 (padded_of w) s (Symbols xs) → mapped Symbols (size_prefixed (vec symbol)) (padded_of w) s (Symbols xs)
tables_in builders s xs h = (h.0, h.1, tables_included built_symbol symbol padded (λ t x k. k) s h.0 h.2)
tables_in admitted s xs h = (h.0, h.1, tables_included full_symbol symbol standard (λ t x k. k) s h.0 h.2)

tables_of : (w : Grammar) (s : List ℕ) (xs : List Symbol) → mapped Symbols (size_prefixed (vec symbol)) (minimal_of w) s (Symbols xs) → after_tag link_tags full_link_tags other_link w 8 (minimal_of w) s (Symbols xs)
tables_of builders s xs h = (h.0, h.1, tables_included symbol built_symbol minimal (λ t x k. k) s h.0 h.2)
tables_of admitted s xs h = (h.0, h.1, tables_included symbol full_symbol standard_minimal (λ t x k. k) s h.0 h.2)

pub symbols_short : (xs : List Symbol) (old new : List ℕ) → AppendsMinimal both_grammars (prefixed (8 ∷ []) (size_prefixed (vec symbol))) xs old new → AppendsMinimal both_grammars link (Symbols xs) old new
symbols_short xs old new a =
    tag_appended link_tags full_link_tags other_link link_id built_ids full_ids (λ b mode s x h. ap link_id h.1) (Symbols xs) (mapped Symbols (size_prefixed (vec symbol))) (λ w s k. tables_in w s xs k) (λ w u s k g. tables_of w s xs g)
    (content_appended Symbols (λ x z k. cc k) (8 ∷ []) (size_prefixed (vec symbol)) xs a)

pub symbols_encoded : (xs : List Symbol) → HasEncoding both_grammars link (Symbols xs) → HasEncoding both_grammars (prefixed (8 ∷ []) (size_prefixed (vec symbol))) xs
symbols_encoded xs h = content_of Symbols (λ x z k. cc k) (8 ∷ []) (size_prefixed (vec symbol)) xs (tag_encoded link_tags full_link_tags other_link link_id built_ids full_ids (λ b mode s x h. ap link_id h.1) (Symbols xs) (mapped Symbols (size_prefixed (vec symbol))) (λ w s k. tables_in w s xs k) h)

pub ruleset short_steps = (segments_short, inits_short, comdats_short, symbols_short, arch_short, others_short, others_encoded, segments_encoded, inits_encoded, comdats_encoded, symbols_encoded, arch_encoded)

pub links_appended : (xs : List LinkItem) (old front middle new : List ℕ) → front ≡ old ++ size_prefixed_encoding linking_name → middle ≡ front ++ unsigned_encoding 2 → AppendsMinimal both_grammars (members link) xs middle new → AppendsMinimal both_grammars linking_payload xs old new
links_appended xs old front middle new e f a =
    let just_version = just_appended u32 version front middle (u32_appended version front middle f) in
    named_appended linking_name (entries (just version u32) false link) xs e (tagged_appended (just version u32) (λ u. listing false link) (λ mode s z h. refl) just_version a)

-- ---- contents of a subsection that has an encoding

module _ {X : Type 0} (F : Format X) (id : ℕ) (xs : List X) where
  pub vector_encoded : {k : Grammars} → HasEncoding k (prefixed (id ∷ []) (size_prefixed (vec F))) xs → HasEncoding k (vec F) xs
  vector_encoded h = content_encoded (vec F) xs (prefixed_encoded (id ∷ []) (size_prefixed (vec F)) xs h)

  pub vector_encodable : {k : Grammars} (start : ℕ) (old new : List ℕ) → Unambiguous F → start ≡ length old → AppendsMinimal k (vec F) xs old new → HasEncoding k (prefixed (id ∷ []) (size_prefixed (vec F))) xs → HasEncodableSize (drop start new)
  vector_encodable start old new one e a h = behind_encodable (vec F) xs start old new (vec_unambiguous one).encodings e a (prefixed_encoded (id ∷ []) (size_prefixed (vec F)) xs h)

pub other_encoded : (id : ℕ) (content : List ℕ) → HasEncoding both_grammars (prefixed (id ∷ []) (size_prefixed any_bytes)) content → HasEncoding both_grammars (size_prefixed any_bytes) content
other_encoded id content h = prefixed_encoded (id ∷ []) (size_prefixed any_bytes) content h

pub target_encoded : (n : List ℕ) → HasEncoding both_grammars (prefixed (9 ∷ []) (size_prefixed name)) n → HasEncoding both_grammars (size_prefixed name) n
target_encoded n h = prefixed_encoded (9 ∷ []) (size_prefixed name) n h

pub links_encoded : (xs : List LinkItem) → HasEncoding both_grammars linking_payload xs → HasEncoding both_grammars (members link) xs
links_encoded xs h = tagged_encoded (just version u32) (λ u. listing false link) tt xs (λ mode s z h. refl) (named_encoded linking_name (entries (just version u32) false link) xs h)
