-- This file proves that relocations are unambiguous, and how they are decoded and minimized.
use Rattle.wasm_base.proofs.Words.{Mode, Format, pos, ◌≡◌, ◌≢◌, ◌==◌, ℕ, ℤ, ◌≤◌, List, [], ◌∷◌, ◌++◌, length, map, true, refl, sym, ap, subst, arith, length-append, map-id, ◌<◌, ◌^◌, if◌then◌else◌}
use Rattle.wasm_base.proofs.Words.{ItemLaws, DecodesBack, AllZip, name, such, coded, byte, u32, s32, s64, pair, vec, size_prefixed, minimal, joined, Unambiguous, UnambiguousWhole, Decodes}
use Rattle.wasm_base.proofs.Words.{Rejects, RejectsWhole, unsigned_encoding, signed_encoding, size_prefixed_encoding, longest, coded_unambiguous, mapped_unambiguous, tagged_unambiguous, DeterminesTag}
use Rattle.wasm_base.proofs.Words.{AllValues, u32_unambiguous, s32_unambiguous, s64_unambiguous, name_unambiguous, such_unambiguous, pair_unambiguous, vec_unambiguous, pair_whole, whole_from_unique}
use Rattle.wasm_base.proofs.Words.{entries_encodes, size_prefixed_unambiguous, u32_encodes, s32_encodes, s64_encodes, pair_encodes, size_prefixed_encodes, front_name_encodes, decodes_uniquely}
use Rattle.wasm_base.proofs.Words.{decodes_same, code_decodes, code_none, code_unknown, tagged_decodes, tagged_none, tagged_rejects, mapped_decodes, mapped_rejects, then_decodes, then_rejects_first}
use Rattle.wasm_base.proofs.Words.{then_rejects_second, such_decodes, such_none, such_rejects, AppendsMinimal, both_grammars, HasEncoding, pair_appended}
use Rattle.wasm_base.proofs.Words.{canonical_appended, padded_of}
use Rattle.wasm_base.specs.Minimal.{EncodesMinimally}
use Rattle.wasm_base.proofs.GrammarLaws.{AreMinimalInBoth, canonical_by, coded_both, mapped_both, pair_both, tagged_both, s32_both, s64_both, u32_both}
use Rattle.wasm_custom.specs.{begins_with, relocations_prefix, named_encoding, IsEncodableNamed, count_encoding, entries_encoding, relocation_code, kind_of_relocation, relocation_encoding}
use Rattle.wasm_custom.specs.{IsRelocation, plain_of, addend32_of, addend64_of, after_kind, relocation, relocation_items, IsRelocationsName, relocations_payload, SaysRelocations}
use Rattle.wasm_custom.specs.declared.relocations.PlainRelocation.{PlainRelocation}
use Rattle.wasm_custom.specs.declared.relocations.PlainRelocation.TheVariants.{FunctionIndexLeb, TableIndexSleb, TableIndexI32, TypeIndexLeb, GlobalIndexLeb, TagIndexLeb, TableIndexRelSleb}
use Rattle.wasm_custom.specs.declared.relocations.PlainRelocation.TheVariants.{GlobalIndexI32, TableIndexSleb64, TableIndexI64, TableNumberLeb, TableIndexRelSleb64, FunctionIndexI32}
use Rattle.wasm_custom.specs.declared.relocations.Addend32Relocation.{Addend32Relocation}
use Rattle.wasm_custom.specs.declared.relocations.Addend32Relocation.TheVariants.{MemoryAddrLeb, MemoryAddrSleb, MemoryAddrI32, FunctionOffsetI32, SectionOffsetI32, MemoryAddrRelSleb}
use Rattle.wasm_custom.specs.declared.relocations.Addend32Relocation.TheVariants.{MemoryAddrTlsSleb, MemoryAddrLocrelI32}
use Rattle.wasm_custom.specs.declared.relocations.Addend64Relocation.{Addend64Relocation}
use Rattle.wasm_custom.specs.declared.relocations.Addend64Relocation.TheVariants.{MemoryAddrLeb64, MemoryAddrSleb64, MemoryAddrI64, MemoryAddrRelSleb64, FunctionOffsetI64, MemoryAddrTlsSleb64}
use Rattle.wasm_custom.specs.declared.relocations.Relocation.{Relocation}
use Rattle.wasm_custom.specs.declared.relocations.Relocation.TheVariants.{Plain, Addend32, Addend64}
use Rattle.wasm_custom.specs.declared.relocations.RelocationKind.{RelocationKind}
use Rattle.wasm_custom.specs.declared.relocations.RelocationKind.TheVariants as kinds
use Rattle.wasm_custom.proofs.CustomLaws.{data_encodable}
use Rattle.wasm_custom.proofs.EntriesLaws.{listing_encodes}

-- ---- kinds

decode : ℕ → RelocationKind
decode b = if b == 0 then kinds.Plain FunctionIndexLeb else (if b == 1 then kinds.Plain TableIndexSleb else (if b == 2 then kinds.Plain TableIndexI32 else (if b == 3 then kinds.Addend32 MemoryAddrLeb else (if b == 4 then kinds.Addend32 MemoryAddrSleb else (if b == 5 then kinds.Addend32 MemoryAddrI32 else (if b == 6 then kinds.Plain TypeIndexLeb else (if b == 7 then kinds.Plain GlobalIndexLeb else (if b == 8 then kinds.Addend32 FunctionOffsetI32 else (if b == 9 then kinds.Addend32 SectionOffsetI32 else (if b == 10 then kinds.Plain TagIndexLeb else (if b == 11 then kinds.Addend32 MemoryAddrRelSleb else (if b == 12 then kinds.Plain TableIndexRelSleb else (if b == 13 then kinds.Plain GlobalIndexI32 else (if b == 14 then kinds.Addend64 MemoryAddrLeb64 else (if b == 15 then kinds.Addend64 MemoryAddrSleb64 else (if b == 16 then kinds.Addend64 MemoryAddrI64 else (if b == 17 then kinds.Addend64 MemoryAddrRelSleb64 else (if b == 18 then kinds.Plain TableIndexSleb64 else (if b == 19 then kinds.Plain TableIndexI64 else (if b == 20 then kinds.Plain TableNumberLeb else (if b == 21 then kinds.Addend32 MemoryAddrTlsSleb else (if b == 22 then kinds.Addend64 FunctionOffsetI64 else (if b == 23 then kinds.Addend32 MemoryAddrLocrelI32 else (if b == 24 then kinds.Plain TableIndexRelSleb64 else (if b == 25 then kinds.Addend64 MemoryAddrTlsSleb64 else (kinds.Plain FunctionIndexI32))))))))))))))))))))))))))

back : (k : RelocationKind) → decode (relocation_code k) ≡ k
unfolding decode
back (kinds.Plain FunctionIndexLeb) = refl
back (kinds.Plain k) = refl
back (kinds.Addend32 MemoryAddrLeb) = refl
back (kinds.Addend32 k) = refl
back (kinds.Addend64 MemoryAddrLeb64) = refl
back (kinds.Addend64 k) = refl

pub kind_unambiguous : Unambiguous (coded relocation_code)
kind_unambiguous = coded_unambiguous relocation_code decode back

pub kind_decodes : {m : Mode} (bytes rest : List ℕ) (b : ℕ) (k : RelocationKind) → Decodes byte m bytes b rest → b ≡ relocation_code k → Decodes (coded relocation_code) m bytes k rest
kind_decodes = code_decodes relocation_code

pub kind_none : {m : Mode} (bytes : List ℕ) → Rejects byte m bytes → Rejects (coded relocation_code) m bytes
kind_none = code_none relocation_code

pub kind_unknown : {m : Mode} (bytes rest : List ℕ) (b : ℕ) → Decodes byte m bytes b rest → b ≢ 0 → b ≢ 1 → b ≢ 2 → b ≢ 3 → b ≢ 4 → b ≢ 5 → b ≢ 6 → b ≢ 7 → b ≢ 8 → b ≢ 9 → b ≢ 10 → b ≢ 11 → b ≢ 12 → b ≢ 13 → b ≢ 14 → b ≢ 15 → b ≢ 16 → b ≢ 17 → b ≢ 18 → b ≢ 19 → b ≢ 20 → b ≢ 21 → b ≢ 22 → b ≢ 23 → b ≢ 24 → b ≢ 25 → b ≢ 26 → Rejects (coded relocation_code) m bytes
kind_unknown bytes rest b h n0 n1 n2 n3 n4 n5 n6 n7 n8 n9 n10 n11 n12 n13 n14 n15 n16 n17 n18 n19 n20 n21 n22 n23 n24 n25 n26 = code_unknown relocation_code bytes rest b h other
  where
    other : (k : RelocationKind) → b ≢ relocation_code k
    other (kinds.Plain FunctionIndexLeb) e = n0 e
    other (kinds.Plain TableIndexSleb) e = n1 e
    other (kinds.Plain TableIndexI32) e = n2 e
    other (kinds.Plain TypeIndexLeb) e = n6 e
    other (kinds.Plain GlobalIndexLeb) e = n7 e
    other (kinds.Plain TagIndexLeb) e = n10 e
    other (kinds.Plain TableIndexRelSleb) e = n12 e
    other (kinds.Plain GlobalIndexI32) e = n13 e
    other (kinds.Plain TableIndexSleb64) e = n18 e
    other (kinds.Plain TableIndexI64) e = n19 e
    other (kinds.Plain TableNumberLeb) e = n20 e
    other (kinds.Plain TableIndexRelSleb64) e = n24 e
    other (kinds.Plain FunctionIndexI32) e = n26 e
    other (kinds.Addend32 MemoryAddrLeb) e = n3 e
    other (kinds.Addend32 MemoryAddrSleb) e = n4 e
    other (kinds.Addend32 MemoryAddrI32) e = n5 e
    other (kinds.Addend32 FunctionOffsetI32) e = n8 e
    other (kinds.Addend32 SectionOffsetI32) e = n9 e
    other (kinds.Addend32 MemoryAddrRelSleb) e = n11 e
    other (kinds.Addend32 MemoryAddrTlsSleb) e = n21 e
    other (kinds.Addend32 MemoryAddrLocrelI32) e = n23 e
    other (kinds.Addend64 MemoryAddrLeb64) e = n14 e
    other (kinds.Addend64 MemoryAddrSleb64) e = n15 e
    other (kinds.Addend64 MemoryAddrI64) e = n16 e
    other (kinds.Addend64 MemoryAddrRelSleb64) e = n17 e
    other (kinds.Addend64 FunctionOffsetI64) e = n22 e
    other (kinds.Addend64 MemoryAddrTlsSleb64) e = n25 e

pub ruleset kind_steps = (kind_decodes, kind_unknown)

-- ---- relocations

-- The fields of a relocation. The addend is 0 if the kind has none.
abbrev fields : Relocation → (ℕ × ℕ) × ℤ
fields (Plain k offset index) = ((offset, index), pos 0)
fields (Addend32 k offset index addend) = ((offset, index), addend)
fields (Addend64 k offset index addend) = ((offset, index), addend)

determines : DeterminesTag after_kind kind_of_relocation
determines mode (kinds.Plain k) s r h = ap kind_of_relocation h.1
determines mode (kinds.Addend32 k) s r h = ap kind_of_relocation h.1
determines mode (kinds.Addend64 k) s r h = ap kind_of_relocation h.1

place_unambiguous : Unambiguous (pair u32 u32)
place_unambiguous = pair_unambiguous u32_unambiguous u32_unambiguous

fields_unambiguous : (k : RelocationKind) → Unambiguous (after_kind k)
fields_unambiguous (kinds.Plain k) = mapped_unambiguous (plain_of k) (λ x y e. ap (λ r. (fields r).0) e) place_unambiguous
fields_unambiguous (kinds.Addend32 k) = mapped_unambiguous (addend32_of k) (λ x y e. ap fields e) (pair_unambiguous place_unambiguous s32_unambiguous)
fields_unambiguous (kinds.Addend64 k) = mapped_unambiguous (addend64_of k) (λ x y e. ap fields e) (pair_unambiguous place_unambiguous s64_unambiguous)

pub relocation_unambiguous : Unambiguous relocation
relocation_unambiguous = tagged_unambiguous kind_of_relocation determines kind_unambiguous fields_unambiguous

place_encodes : (offset index : ℕ) → offset < 2 ^ 32 → index < 2 ^ 32 → pair u32 u32 minimal (unsigned_encoding offset ++ unsigned_encoding index) (offset, index)
place_encodes offset index o i = pair_encodes u32 u32 (unsigned_encoding offset) (unsigned_encoding index) offset index (u32_encodes offset o) (u32_encodes index i)

-- The byte of a kind and the encoding of the fields encode the relocation.
kind_then : (k : RelocationKind) (s : List ℕ) (r : Relocation) → after_kind k minimal s r → relocation minimal (relocation_code k ∷ s) r
kind_then k s r h = ((k, r), refl, record { front = relocation_code k ∷ []; back = s; joined = refl; first = refl; second = h })

relocation_encodes : (r : Relocation) → IsRelocation r → relocation minimal (relocation_encoding r) r
relocation_encodes (Plain k offset index) plain = kind_then (kinds.Plain k) _ _ ((offset, index), refl, place_encodes offset index plain.0 plain.1)
relocation_encodes (Addend32 k offset index addend) plain =
    let place = unsigned_encoding offset ++ unsigned_encoding index in
    kind_then (kinds.Addend32 k) (place ++ signed_encoding addend) (Addend32 k offset index addend)
    (((offset, index), addend), refl, pair_encodes (pair u32 u32) s32 place (signed_encoding addend) (offset, index) addend (place_encodes offset index plain.0 plain.1) (s32_encodes addend plain.2))
relocation_encodes (Addend64 k offset index addend) plain =
    let place = unsigned_encoding offset ++ unsigned_encoding index in
    kind_then (kinds.Addend64 k) (place ++ signed_encoding addend) (Addend64 k offset index addend)
    (((offset, index), addend), refl, pair_encodes (pair u32 u32) s64 place (signed_encoding addend) (offset, index) addend (place_encodes offset index plain.0 plain.1) (s64_encodes addend plain.2))

pub relocation_laws : ItemLaws relocation_items
relocation_laws = record { unique = relocation_unambiguous; encodes = λ r plain encodable. relocation_encodes r plain }

-- ---- sections

name_of_section : Unambiguous (such IsRelocationsName name)
name_of_section = such_unambiguous IsRelocationsName name_unambiguous

pub relocations_whole : UnambiguousWhole relocations_payload
relocations_whole = pair_whole name_of_section (pair_whole u32_unambiguous (whole_from_unique (vec_unambiguous relocation_unambiguous)))

pub relocations_unambiguous : Unambiguous (size_prefixed relocations_payload)
relocations_unambiguous = size_prefixed_unambiguous relocations_whole

-- The pieces are no longer than the data.
within : (front content : List ℕ) (pieces : List (List ℕ)) → length (front ++ (content ++ joined pieces)) ≤ longest → length (joined pieces) ≤ longest
within front content pieces encodable = omega (arith, encodable, length-append front (content ++ joined pieces), length-append content (joined pieces))

pub relocations_back : (n front : List ℕ) (pieces : List (List ℕ)) → length pieces ≤ longest → IsEncodableNamed n (entries_encoding front true pieces)
    → DecodesBack (size_prefixed relocations_payload) (SaysRelocations n front pieces) (named_encoding n (entries_encoding front true pieces))
unfolding named_encoding
relocations_back n front pieces few encodable = record {
  for_each = λ said says.
      let content = count_encoding true (length pieces) ++ joined pieces in
      let given = front ++ content in
      let named : such IsRelocationsName name minimal (size_prefixed_encoding n) said.0 =
      subst (λ z. such IsRelocationsName name minimal (size_prefixed_encoding z) said.0) (sym says.named)
      (front_name_encodes said.0 given says.utf8 (subst (λ z. IsEncodableNamed z given) says.named encodable), says.begins) in
      let index : u32 minimal front said.1.0 = subst (λ s. u32 minimal s said.1.0) (sym says.section) (u32_encodes said.1.0 says.range) in
      let contains = says.contains in
      let short = within front (count_encoding true (length pieces)) pieces (data_encodable n given encodable) in
      let listed : AllZip (relocation minimal) pieces said.1.1 =
      subst (λ ps. AllZip (relocation minimal) ps said.1.1) (sym contains.held)
      (entries_encodes relocation_items relocation_laws contains.entries said.1.1 (subst (λ ps. length (joined ps) ≤ longest) contains.held short) contains.meant) in
      decodes_uniquely {F = size_prefixed relocations_payload} relocations_unambiguous
      (size_prefixed_encodes relocations_payload (size_prefixed_encoding n ++ given) said encodable
      (pair_encodes (such IsRelocationsName name) (pair u32 (vec relocation)) (size_prefixed_encoding n) given said.0 said.1 named
      (pair_encodes u32 (vec relocation) front content said.1.0 said.1.1 index (listing_encodes minimal true relocation pieces said.1.1 few listed))));
}

-- ---- decoding relocations

kind_is : {m : Mode} (bytes rest : List ℕ) {kind k : RelocationKind} → Decodes (coded relocation_code) m bytes kind rest → kind ≡ k → Decodes (coded relocation_code) m bytes k rest
kind_is {m = m} bytes rest h e = subst (λ z. Decodes (coded relocation_code) m bytes z rest) e h

pub plain_decodes : {m : Mode} (bytes rest last : List ℕ) (k : PlainRelocation) (offset index : ℕ) → Decodes (coded relocation_code) m bytes (kinds.Plain k) rest → Decodes (pair u32 u32) m rest (offset, index) last → Decodes relocation m bytes (Plain k offset index) last
plain_decodes bytes rest last k offset index h g = tagged_decodes {G = after_kind} h (mapped_decodes (plain_of k) g)

pub addend32_decodes : {m : Mode} (bytes rest next last : List ℕ) (kind : RelocationKind) (k : Addend32Relocation) (offset index : ℕ) (addend : ℤ) → Decodes (coded relocation_code) m bytes kind rest → kind ≡ kinds.Addend32 k → Decodes (pair u32 u32) m rest (offset, index) next → Decodes s32 m next addend last
    → Decodes relocation m bytes (Addend32 k offset index addend) last
addend32_decodes bytes rest next last kind k offset index addend h e g a = tagged_decodes {G = after_kind} (kind_is bytes rest h e) (mapped_decodes (addend32_of k) (then_decodes g a))

pub addend64_decodes : {m : Mode} (bytes rest next last : List ℕ) (kind : RelocationKind) (k : Addend64Relocation) (offset index : ℕ) (addend : ℤ) → Decodes (coded relocation_code) m bytes kind rest → kind ≡ kinds.Addend64 k → Decodes (pair u32 u32) m rest (offset, index) next → Decodes s64 m next addend last
    → Decodes relocation m bytes (Addend64 k offset index addend) last
addend64_decodes bytes rest next last kind k offset index addend h e g a = tagged_decodes {G = after_kind} (kind_is bytes rest h e) (mapped_decodes (addend64_of k) (then_decodes g a))

pub relocation_none : {m : Mode} (bytes : List ℕ) → Rejects (coded relocation_code) m bytes → Rejects relocation m bytes
relocation_none bytes none = tagged_none (coded relocation_code) after_kind bytes none

no_place : {m : Mode} (bytes : List ℕ) (k : RelocationKind) → Rejects (pair u32 u32) m bytes → Rejects (after_kind k) m bytes
no_place bytes (kinds.Plain k) none = mapped_rejects (plain_of k) none
no_place bytes (kinds.Addend32 k) none = mapped_rejects (addend32_of k) (then_rejects_first none)
no_place bytes (kinds.Addend64 k) none = mapped_rejects (addend64_of k) (then_rejects_first none)

pub relocation_no_place : {m : Mode} (bytes rest : List ℕ) (k : RelocationKind) → Decodes (coded relocation_code) m bytes k rest → Rejects (pair u32 u32) m rest → Rejects relocation m bytes
relocation_no_place bytes rest k h none = tagged_rejects {G = after_kind} kind_unambiguous h (no_place rest k none)

pub relocation_no_addend32 : {m : Mode} (bytes rest next : List ℕ) (kind : RelocationKind) (k : Addend32Relocation) (place : ℕ × ℕ) → Decodes (coded relocation_code) m bytes kind rest → kind ≡ kinds.Addend32 k → Decodes (pair u32 u32) m rest place next → Rejects s32 m next → Rejects relocation m bytes
relocation_no_addend32 bytes rest next kind k place h e g none = tagged_rejects {G = after_kind} kind_unambiguous (kind_is bytes rest h e) (mapped_rejects (addend32_of k) (then_rejects_second place_unambiguous g none))

pub relocation_no_addend64 : {m : Mode} (bytes rest next : List ℕ) (kind : RelocationKind) (k : Addend64Relocation) (place : ℕ × ℕ) → Decodes (coded relocation_code) m bytes kind rest → kind ≡ kinds.Addend64 k → Decodes (pair u32 u32) m rest place next → Rejects s64 m next → Rejects relocation m bytes
relocation_no_addend64 bytes rest next kind k place h e g none = tagged_rejects {G = after_kind} kind_unambiguous (kind_is bytes rest h e) (mapped_rejects (addend64_of k) (then_rejects_second place_unambiguous g none))

pub ruleset relocation_steps = (plain_decodes, relocation_none, relocation_no_place, relocation_no_addend32, relocation_no_addend64)

-- ---- decoding sections

section_name : {m : Mode} {bytes rest n : List ℕ} → Decodes name m bytes n rest → IsRelocationsName n → Decodes (such IsRelocationsName name) m bytes n rest
section_name h begins = such_decodes IsRelocationsName h begins

pub section_fills : {m : Mode} (bytes rest last n : List ℕ) (section : ℕ) (rs : List Relocation) → Decodes name m bytes n rest → IsRelocationsName n → Decodes u32 m rest section last → vec relocation m last (map (λ r. r) rs) → relocations_payload m bytes (n, (section, rs))
section_fills {m = m} bytes rest last n section rs h begins g k = record {
  front = h.front;
  back = rest;
  joined = h.split;
  first = (h.encodes, begins);
  second = record { front = g.front; back = last; joined = g.split; first = g.encodes; second = subst (λ z. vec relocation m last z) (map-id rs) k };
}

-- Bytes that are no value of `F` at their front are no such value followed by another.
pair_none : {m : Mode} {X Y : Type 0} {F : Format X} {G : Format Y} {bytes : List ℕ} → Rejects F m bytes → RejectsWhole (pair F G) m bytes
pair_none none = record { none = λ x s. none.none x.0 s.back (record { front = s.front; split = s.joined; encodes = s.first }) }

pair_rejects : {m : Mode} {X Y : Type 0} {F : Format X} {G : Format Y} {bytes rest : List ℕ} {x : X} → Unambiguous F → Decodes F m bytes x rest → RejectsWhole G m rest → RejectsWhole (pair F G) m bytes
pair_rejects {m = m} {G = G} unique h none = record {
  none = λ y s.
      let same = decodes_same unique h (record { front = s.front; split = s.joined; encodes = s.first }) in
      none.none y.1 (subst (λ z. G m z y.1) (sym same.1) s.second);
}

pub section_none : {m : Mode} (bytes : List ℕ) → Rejects name m bytes → RejectsWhole relocations_payload m bytes
section_none bytes none = pair_none (such_none IsRelocationsName none)

pub section_other : {m : Mode} (bytes rest n : List ℕ) → Decodes name m bytes n rest → begins_with relocations_prefix n ≢ true → RejectsWhole relocations_payload m bytes
section_other bytes rest n h other = pair_none (such_rejects IsRelocationsName name_unambiguous h other)

pub section_no_index : {m : Mode} (bytes rest n : List ℕ) → Decodes name m bytes n rest → IsRelocationsName n → Rejects u32 m rest → RejectsWhole relocations_payload m bytes
section_no_index bytes rest n h begins none = pair_rejects name_of_section (section_name h begins) (pair_none none)

pub section_no_list : {m : Mode} (bytes rest last n : List ℕ) (section : ℕ) → Decodes name m bytes n rest → IsRelocationsName n → Decodes u32 m rest section last → RejectsWhole (vec relocation) m last → RejectsWhole relocations_payload m bytes
section_no_list bytes rest last n section h begins g none = pair_rejects name_of_section (section_name h begins) (pair_rejects u32_unambiguous g none)

pub section_rejects : {m : Mode} (bytes rest n : List ℕ) → Decodes name m bytes n rest → IsRelocationsName n → RejectsWhole (pair u32 (vec relocation)) m rest → RejectsWhole relocations_payload m bytes
section_rejects bytes rest n h begins none = pair_rejects name_of_section (section_name h begins) none

pub ruleset section_steps = (section_fills, section_none, section_other, section_no_index, section_no_list)

-- ---- the one minimal encoding of decoded relocations

fields_are : (k : RelocationKind) (mode : Mode) (s : List ℕ) (r : Relocation) → after_kind k mode s r → IsRelocation r
fields_are (kinds.Plain k) mode s r h = subst IsRelocation h.1 (h.2.first.range, h.2.second.range)
fields_are (kinds.Addend32 k) mode s r h = let p = h.2.first in let a = h.2.second in subst IsRelocation h.1 (p.first.range, p.second.range, (a.above, a.below))
fields_are (kinds.Addend64 k) mode s r h = let p = h.2.first in let a = h.2.second in subst IsRelocation h.1 (p.first.range, p.second.range, (a.above, a.below))

relocation_is : AllValues IsRelocation relocation
relocation_is mode s r h = subst IsRelocation h.1 (fields_are h.0.0 mode h.2.back h.0.1 h.2.second)

after_kind_both : (k : RelocationKind) → AreMinimalInBoth (after_kind k)
after_kind_both (kinds.Plain k) = mapped_both (plain_of k) (pair_both u32_both u32_both)
after_kind_both (kinds.Addend32 k) = mapped_both (addend32_of k) (pair_both (pair_both u32_both u32_both) s32_both)
after_kind_both (kinds.Addend64 k) = mapped_both (addend64_of k) (pair_both (pair_both u32_both u32_both) s64_both)

relocation_canonical : EncodesMinimally relocation (λ r. r) relocation_encoding
relocation_canonical = canonical_by (λ r. r) relocation_encoding IsRelocation relocation_is relocation_encodes (tagged_both (coded_both relocation_code) after_kind_both)

pub relocation_appended : (r : Relocation) (old new : List ℕ) → new ≡ old ++ relocation_encoding r → AppendsMinimal both_grammars relocation r old new
relocation_appended r old new e = canonical_appended relocation (λ r. r) relocation_encoding r old new relocation_canonical e

name_appended_as : (n old new : List ℕ) → AppendsMinimal both_grammars name n old new → AppendsMinimal both_grammars (such IsRelocationsName name) n old new
name_appended_as n old new a = record { encoding = a.encoding; appended = a.appended; encodes = λ w q s h. (a.encodes w q s h.0, h.1) }

pub section_appended : (n : List ℕ) (section : ℕ) (rs : List Relocation) (old front middle new : List ℕ) → AppendsMinimal both_grammars name n old front → AppendsMinimal both_grammars u32 section front middle → AppendsMinimal both_grammars (vec relocation) (map (λ r. r) rs) middle new
    → AppendsMinimal both_grammars relocations_payload (n, (section, rs)) old new
section_appended n section rs old front middle new a b c =
    pair_appended (such IsRelocationsName name) (pair u32 (vec relocation)) (name_appended_as n old front a)
    (pair_appended u32 (vec relocation) b (subst (λ z. AppendsMinimal both_grammars (vec relocation) z middle new) (map-id rs) c))

pub name_encoded : (n : List ℕ) (section : ℕ) (rs : List Relocation) → HasEncoding both_grammars relocations_payload (n, (section, rs)) → HasEncoding both_grammars name n
name_encoded n section rs h = let d = h.decoded in record { grammar = h.grammar; included = h.included; bytes = d.front; decoded = d.first.0 }

pub list_encoded : (n : List ℕ) (section : ℕ) (rs : List Relocation) → HasEncoding both_grammars relocations_payload (n, (section, rs)) → HasEncoding both_grammars (vec relocation) (map (λ r. r) rs)
list_encoded n section rs h = let d = h.decoded.second in record { grammar = h.grammar; included = h.included; bytes = d.back; decoded = subst (λ z. vec relocation (padded_of h.grammar) d.back z) (sym (map-id rs)) d.second }
