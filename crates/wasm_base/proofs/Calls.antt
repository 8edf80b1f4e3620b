-- This file proves the effect of each call on a builder or a module: lemmas that a caller's proof
-- cites.
use Rattle.wasm_base.proofs.Std.{◌≡◌, ℕ, zero, suc, ◌<◌, List, [], ◌∷◌, ◌++◌, Bool, true, ltb, ◌&&◌, slice_index, map, IsUtf8, Result, Ok, Err, arith, refl, sym, subst, ltb-true, and_parts, All-head}
use Rattle.wasm_base.proofs.Std.{All-tail, IsUtf8-from_ascii, All, AllByRecursion, OnOk, Vec}
use Rattle.wasm_base.specs.declared.refused.Refused.{Refused}
use Rattle.wasm_base.specs.{AddsEach, Appends, DecodesOneMore, DecodesBack, DecodesBackBoth, Kind, ContainsItems, ContainsPadded, counted_format, ContainsMorePadded, minimal, padded, Format}
use Rattle.wasm_base.specs.{any_bytes, size_prefixed, vec, wasm_module, SectionDecoding, decoding_of, padded_decoding_of, raw_decoding, AreDecoded, DecodesSections, DecodesPayloads, GainsDecoding}
use Rattle.wasm_base.specs.{GainsDecodingPadded, SectionPayload, IsEncodableSection, section_encoding, section_sized, DecodesUniquely, DecodesUniquelyPadded, DecodesWhole, IsSizePrefixed}
use Rattle.wasm_base.specs.{size_prefixed_encoding, HasEncodableSize, raw_sized}
use Rattle.wasm_base.specs.{Joined, Cut, Extends, Gains, IsEncodableJoined, joined_payload, joined_encoding, joined_sized}
use Rattle.wasm_base.proofs.Std.{◌∙◌, ap, length-append}
use Rattle.wasm_base.proofs.Cut.{joined_push}
use Rattle.wasm_base.proofs.ContentsLaws.{contains_more}
use Rattle.wasm_base.proofs.Payloads.{bytes-payload, payload-decodes-padded}

are_read-more : (decodings : List SectionDecoding) (sections : List (ℕ × List ℕ)) (decoding : SectionDecoding) (section : ℕ × List ℕ) → AreDecoded decodings sections → section.0 ≡ decoding.0 → decoding.1 section.1
    → AreDecoded (decodings ++ decoding ∷ []) (sections ++ section ∷ [])
are_read-more [] [] decoding section h e g = (e, g, tt)
are_read-more [] (s ∷ sections) decoding section h e g = absurd h
are_read-more (r ∷ decodings) [] decoding section h e g = absurd h
are_read-more (r ∷ decodings) (s ∷ sections) decoding section h e g = (h.0, h.1, are_read-more decodings sections decoding section h.2 e g)

abbrev are_ascii : List ℕ → Bool
are_ascii [] = true
are_ascii (b ∷ bytes) = ltb b 0x80 && are_ascii bytes

below_128 : (bytes : List ℕ) → are_ascii bytes ≡ true → (i : ℕ) → slice_index bytes i < 128
below_128 [] e i = omega arith
below_128 (b ∷ bytes) e zero = ltb-true b 0x80 (and_parts (ltb b 0x80) (are_ascii bytes) e).0
below_128 (b ∷ bytes) e (suc i) = below_128 bytes (and_parts (ltb b 0x80) (are_ascii bytes) e).1 i

-- The bytes of an ASCII literal are UTF-8.
pub ascii : {bytes : List ℕ} → are_ascii bytes ≡ true → IsUtf8 bytes
ascii {bytes = bytes} e = IsUtf8-from_ascii bytes (below_128 bytes e)

-- A property of all elements holds of each, one after another.
pub each : {X : Type 0} (P : X → Type 0) (xs : List X) → All P xs → AllByRecursion P xs
each P [] h = tt
each P (x ∷ xs) h = (All-head P x xs h, each P xs (All-tail P x xs h))

-- A new module has no sections.
pub new_module : {bytes : List ℕ} → DecodesWhole wasm_module bytes [] → DecodesSections [] bytes
new_module read = record { sections = []; read = read; payloads = tt }

-- A module that gains the encoding of `x`, with its size prefix, gains a section that decodes to
-- `x`.
pub gains_section : {decodings : List SectionDecoding} {Payload : List ℕ → Type 0} {id : ℕ} {old new : List ℕ} {X : Type 0} {F : Format X} → DecodesSections decodings old → DecodesOneMore Payload id old new
    → DecodesPayloads F → (encoding payload : List ℕ) → Payload payload → IsSizePrefixed encoding payload → (x : X) → DecodesUniquely (size_prefixed F) encoding x → DecodesSections (decodings ++ decoding_of id F x ∷ []) new
gains_section {decodings = decodings} {id = id} {F = F} before more payloads encoding payload pays sized x unique = record {
  sections = before.sections ++ (id, payload) ∷ [];
  read = more.for_each before.sections payload before.read pays;
  payloads = are_read-more decodings before.sections (decoding_of id F x) (id, payload) before.payloads refl (payloads.unique encoding payload x sized unique);
}

-- A module that gains raw bytes gains a section of these bytes.
pub gains_raw : {decodings : List SectionDecoding} {id : ℕ} {bytes old new : List ℕ} → DecodesSections decodings old → DecodesOneMore (λ payload. payload ≡ bytes) id old new → HasEncodableSize bytes
    → DecodesBack (size_prefixed any_bytes) (λ said. said ≡ bytes) (size_prefixed_encoding bytes) → DecodesSections (decodings ++ raw_decoding id bytes ∷ []) new
gains_raw {bytes = bytes} before more encodable decodes =
    gains_section {F = any_bytes} before more bytes-payload (size_prefixed_encoding bytes) bytes refl (raw_sized bytes bytes encodable refl) bytes (decodes.for_each bytes refl)

-- Equal bytes are the same module.
pub finished : {decodings : List SectionDecoding} {old bytes : List ℕ} → DecodesSections decodings old → bytes ≡ old → DecodesSections decodings bytes
finished {decodings = decodings} before same = subst (λ s. DecodesSections decodings s) (sym same) before

-- ---- sections of items of a kind

-- A new section holds no items.
pub new_section : {Record Item : Type 0} {kind : Kind Record Item} {entries : List (List ℕ)} → entries ≡ [] → ContainsItems kind entries []
new_section e = record { entries = []; held = e; meant = tt }

-- A section that gains a well-formed record gains its normal form: a function's type, a memory, an
-- import, a tag.
pub adds_item : {Record Item : Type 0} {kind : Kind Record Item} {old new : List (List ℕ)} {items : List Item} → ContainsItems kind old items → (given : Record) → new ≡ old ++ kind.encoding given ∷ [] → kind.IsWellFormed given
    → ContainsItems kind new (items ++ kind.normal_form given ∷ [])
adds_item {kind = kind} {old = old} {items = items} before given e plain =
    subst (λ entries. ContainsItems kind entries (items ++ kind.normal_form given ∷ [])) (sym e) ((contains_more kind).given old items given before plain)

-- A section that gains the records of a list gains their normal forms.
pub adds_items : {Record Item : Type 0} {kind : Kind Record Item} {Encodable : Record → Type 0} {old new : List (List ℕ)} {items : List Item} {given : List Record} → ContainsItems kind old items → AddsEach kind.encoding Encodable given old new
    → AllByRecursion kind.IsWellFormed given → ContainsItems kind new (items ++ map kind.normal_form given)
adds_items {kind = kind} {old = old} {items = items} {given = given} before added plain =
    subst (λ entries. ContainsItems kind entries (items ++ map kind.normal_form given)) (sym added.is) ((contains_more kind).all old items given before plain)

-- A section that gains raw bytes gains the item that they minimally encode: an element segment, a
-- data segment, a global.
pub adds_raw : {Record Item : Type 0} {kind : Kind Record Item} {old new : List (List ℕ)} {items : List Item} {piece : List ℕ} → ContainsItems kind old items → (item : Item) → new ≡ old ++ piece ∷ [] → kind.format minimal piece item
    → ContainsItems kind new (items ++ item ∷ [])
adds_raw {kind = kind} {old = old} {items = items} {piece = piece} before item e encodes =
    subst (λ entries. ContainsItems kind entries (items ++ item ∷ [])) (sym e) ((contains_more kind).raw old items piece item before encodes)

-- A module that gains a section of counted items decodes to it.
pub gains_items : {Record Item : Type 0} {kind : Kind Record Item} {decodings : List SectionDecoding} {id : ℕ} {old new : List ℕ} {entries : List (List ℕ)} {items : List Item} → DecodesPayloads (vec kind.format) → DecodesSections decodings old
    → DecodesOneMore (SectionPayload entries) id old new → IsEncodableSection entries → DecodesBackBoth (counted_format kind.format) (ContainsItems kind entries) (ContainsPadded kind.format entries) (section_encoding entries) → ContainsItems kind entries items
    → DecodesSections (decodings ++ decoding_of id (vec kind.format) items ∷ []) new
gains_items {kind = kind} {entries = entries} {items = items} payloads before more encodable decodes contains =
    gains_section {F = vec kind.format} before more payloads (section_encoding entries) _ refl (section_sized entries _ encodable refl) items (decodes.plain.for_each items contains)

-- A buffer that gains a section of counted items gains an encoding that decodes to them alone.
pub encodes_items : {A Record Item : Type 0} {kind : Kind Record Item} {encodable : Type 0} {entries : List (List ℕ)} {old new : Vec ℕ A} {result : Result (Unit {0}) Refused} {items : List Item} → Appends (section_encoding entries) encodable old new result
    → OnOk result (DecodesBackBoth (counted_format kind.format) (ContainsItems kind entries) (ContainsPadded kind.format entries) (section_encoding entries)) → ContainsItems kind entries items → OnOk result (GainsDecoding (counted_format kind.format) items old.items new.items)
encodes_items {entries = entries} {result = Ok u} {items = items} appends decodes contains = record { encoding = section_encoding entries; added = appends.ok; unique = decodes.plain.for_each items contains }
encodes_items {result = Err e} appends decodes contains = tt

-- ---- sections whose entries are joined

-- A new store consists of no pieces.
pub cut_none : {P : List (List ℕ) → Type 0} {j : Joined} → j ≡ record { number = 0; content = [] } → P [] → Cut P j
cut_none {P = P} e holds = subst (Cut P) (sym e) (record { pieces = []; number = refl; content = refl; are = holds })

-- An equal store consists of the same pieces.
pub cut_same : {P : List (List ℕ) → Type 0} {old new : Joined} → Cut P old → new ≡ old → Cut P new
cut_same {P = P} cut e = subst (Cut P) (sym e) cut

-- A store that gains an entry consists of one more piece.
pub cut_extends : {P Q : List (List ℕ) → Type 0} {encoding : List ℕ} {old new : Joined} → Extends old.number encoding P Q → Gains encoding old new → Cut P old → Cut Q new
cut_extends {encoding = encoding} more gains cut = record {
  pieces = cut.pieces ++ encoding ∷ [];
  number = omega (arith, length-append cut.pieces (encoding ∷ []), cut.number, gains.number);
  content = joined_push cut.pieces encoding ∙ ap (λ b. b ++ encoding) cut.content ∙ sym gains.content;
  are = more cut.pieces cut.number cut.are;
}

-- So each lemma on a section that gains an entry is one on a store.
pub cut_gains : {P Q : List (List ℕ) → Type 0} {encoding : List ℕ} {old new : Joined} → Cut P old → Gains encoding old new → ((pieces : List (List ℕ)) → P pieces → Q (pieces ++ encoding ∷ [])) → Cut Q new
cut_gains cut gains more = cut_extends (λ pieces _ are. more pieces are) gains cut

-- A module that gains a section of joined entries decodes to what it says.
pub gains_joined : {decodings : List SectionDecoding} {id : ℕ} {old new : List ℕ} {j : Joined} {X : Type 0} {F : Format X} {Says : X → Type 0} {x : X} → DecodesPayloads F → DecodesSections decodings old
    → DecodesOneMore (λ payload. payload ≡ joined_payload j) id old new → IsEncodableJoined j → DecodesBack (size_prefixed F) Says (joined_encoding j) → Says x → DecodesSections (decodings ++ decoding_of id F x ∷ []) new
gains_joined {j = j} {F = F} {x = x} payloads before more fits decodes says =
    gains_section {F = F} before more payloads (joined_encoding j) _ refl (joined_sized j (joined_encoding j) _ refl fits refl) x (decodes.for_each x says)

-- ---- sections with padded LEB128

-- A section holds, padded, all that it holds in minimal encodings. The law of its kind is in
-- `ContentsLaws`.
pub contains_padded : {Record Item : Type 0} {kind : Kind Record Item} {entries : List (List ℕ)} {items : List Item}
    → ContainsMorePadded kind → ContainsItems kind entries items → ContainsPadded kind.format entries items
contains_padded {entries = entries} {items = items} law contains = law.held entries items contains

-- A section that gains raw bytes gains the item that they encode, possibly padded.
pub adds_raw_padded : {Record Item : Type 0} {kind : Kind Record Item} {old new : List (List ℕ)} {items : List Item} {piece : List ℕ}
    → ContainsMorePadded kind → ContainsPadded kind.format old items → (item : Item) → new ≡ old ++ piece ∷ [] → kind.format padded piece item → ContainsPadded kind.format new (items ++ item ∷ [])
adds_raw_padded {kind = kind} {old = old} {items = items} {piece = piece} law before item e encodes = subst (λ entries. ContainsPadded kind.format entries (items ++ item ∷ [])) (sym e) (law.raw old items piece item before encodes)

-- A section gains the normal form of a well-formed record, whose expressions may be padded.
pub adds_item_padded : {Record Item : Type 0} {kind : Kind Record Item} {old new : List (List ℕ)} {items : List Item}
    → ContainsMorePadded kind → ContainsPadded kind.format old items → (given : Record) → new ≡ old ++ kind.encoding given ∷ [] → kind.IsWellFormedPadded given → ContainsPadded kind.format new (items ++ kind.normal_form given ∷ [])
adds_item_padded {kind = kind} {old = old} {items = items} law before given e plain =
    subst (λ entries. ContainsPadded kind.format entries (items ++ kind.normal_form given ∷ [])) (sym e) (law.given old items given before plain)

-- A section gains the normal forms of such records of a list.
pub adds_items_padded : {Record Item : Type 0} {kind : Kind Record Item} {Encodable : Record → Type 0} {old new : List (List ℕ)} {items : List Item} {given : List Record}
    → ContainsMorePadded kind → ContainsPadded kind.format old items → AddsEach kind.encoding Encodable given old new → AllByRecursion kind.IsWellFormedPadded given → ContainsPadded kind.format new (items ++ map kind.normal_form given)
adds_items_padded {kind = kind} {old = old} {items = items} {given = given} law before added plain =
    subst (λ entries. ContainsPadded kind.format entries (items ++ map kind.normal_form given)) (sym added.is) (law.all old items given before plain)

-- A module that gains a possibly padded encoding of `x`, with its size prefix, gains a section that
-- decodes to `x`.
pub gains_section_padded : {decodings : List SectionDecoding} {Payload : List ℕ → Type 0} {id : ℕ} {old new : List ℕ} {X : Type 0} {F : Format X} → DecodesSections decodings old → DecodesOneMore Payload id old new
    → (encoding payload : List ℕ) → Payload payload → IsSizePrefixed encoding payload → (x : X) → DecodesUniquelyPadded (size_prefixed F) encoding x → DecodesSections (decodings ++ padded_decoding_of id F x ∷ []) new
gains_section_padded {decodings = decodings} {id = id} {F = F} before more encoding payload pays sized x unique = record {
  sections = before.sections ++ (id, payload) ∷ [];
  read = more.for_each before.sections payload before.read pays;
  payloads = are_read-more decodings before.sections (padded_decoding_of id F x) (id, payload) before.payloads refl ((payload-decodes-padded F).unique encoding payload x sized unique);
}

-- A buffer that gains a section, possibly padded, gains an encoding that decodes to its items
-- alone.
pub encoded_padded : {A X : Type 0} (F : Format X) (Says SaysPadded : X → Type 0) {encoding : List ℕ} {encodable : Type 0} {old new : Vec ℕ A} {result : Result (Unit {0}) Refused} {x : X} → Appends encoding encodable old new result
    → OnOk result (DecodesBackBoth F Says SaysPadded encoding) → SaysPadded x → OnOk result (GainsDecodingPadded F x old.items new.items)
encoded_padded F Says SaysPadded {encoding = encoding} {result = Ok u} {x = x} appends decodes says = record { encoding = encoding; added = appends.ok; unique = decodes.padded.for_each x says }
encoded_padded F Says SaysPadded {result = Err e} appends decodes says = tt

-- A module that gains a section of counted items, possibly padded, decodes to it.
pub gains_items_padded : {Record Item : Type 0} {kind : Kind Record Item} {decodings : List SectionDecoding} {id : ℕ} {old new : List ℕ} {entries : List (List ℕ)} {items : List Item} → ContainsMorePadded kind → DecodesSections decodings old
    → DecodesOneMore (SectionPayload entries) id old new → IsEncodableSection entries → DecodesBackBoth (counted_format kind.format) (ContainsItems kind entries) (ContainsPadded kind.format entries) (section_encoding entries) → ContainsPadded kind.format entries items
    → DecodesSections (decodings ++ padded_decoding_of id (vec kind.format) items ∷ []) new
gains_items_padded {kind = kind} {entries = entries} {items = items} law before more encodable decodes contains =
    gains_section_padded {F = vec kind.format} before more (section_encoding entries) _ refl (section_sized entries _ encodable refl) items (decodes.padded.for_each items contains)

-- A buffer that gains a section of counted items, possibly padded, gains an encoding that decodes
-- to them alone.
pub encodes_items_padded : {A Record Item : Type 0} {kind : Kind Record Item} {encodable : Type 0} {entries : List (List ℕ)} {old new : Vec ℕ A} {result : Result (Unit {0}) Refused} {items : List Item} → ContainsMorePadded kind
    → Appends (section_encoding entries) encodable old new result → OnOk result (DecodesBackBoth (counted_format kind.format) (ContainsItems kind entries) (ContainsPadded kind.format entries) (section_encoding entries)) → ContainsPadded kind.format entries items
    → OnOk result (GainsDecodingPadded (counted_format kind.format) items old.items new.items)
encodes_items_padded {kind = kind} {entries = entries} law appends decodes contains = encoded_padded (counted_format kind.format) (ContainsItems kind entries) (ContainsPadded kind.format entries) appends decodes contains
