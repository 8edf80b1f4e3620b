-- This file proves that name sections are unambiguous, and how they are decoded and minimized.
use Rattle.wasm_base.proofs.Words.{◌≡◌, ℕ, List, [], length, Bool, true, false, cond, eqb, refl, sym, ap, subst, ◌∙◌, arith, length-append, ◌∷◌, ◌++◌, take, drop, eqb-true, ItemLaws, u32, any_bytes}
use Rattle.wasm_base.proofs.Words.{Grammar, padded_of, name, pair, fixed, Format, byte, just, size_prefixed, mapped, members, Mode, minimal, padded, unsigned_encoding, HasEncodings, Unambiguous, Decodes, Rejects}
use Rattle.wasm_base.proofs.Words.{size_prefixed_encoding, HasEncodableSize, vec_encoding, IsEncodableVec, name_unambiguous, DeterminesTag, mapped_unambiguous, mapped_whole, pair_unambiguous}
use Rattle.wasm_base.proofs.Words.{vec_unambiguous, size_prefixed_unambiguous, whole_from_unique, byte_unambiguous, any_bytes_whole, tagged_unambiguous, fixed_unambiguous, u32_unambiguous}
use Rattle.wasm_base.proofs.Words.{tagged_encodes, u32_encodes, name_encodes, vec_encodes, size_prefixed_in, size_prefixed_encodes, ascii, pair_encodes, tagged_begins, RejectsWhole, tagged_decodes}
use Rattle.wasm_base.proofs.Words.{tagged_none, tagged_rejects, filled_decodes, filled_none, filled_rejects, AppendsMinimal, both_grammars, HasEncoding, tagged_encoded, mapped_encoded, content_encoded}
use Rattle.wasm_base.proofs.Words.{behind_encodable, encoding_appended, tagged_appended, mapped_appended, size_prefixed_appended, SectionLaws}
use Rattle.wasm_base.specs.Numbers.{minimal_of}
use Rattle.wasm_custom.specs.{subsection_encoding, CustomLayoutLaws, Naming, Inside, naming_encoding, inside_encoding, IsNaming, IsInside, naming, name_map, indirect_map, NameItem, Module, Map}
use Rattle.wasm_custom.specs.{Indirect, Other, NameKind, of_module, of_map, of_indirect, of_other, is_one_of, map_ids, indirect_ids, name_kind_of, after_id, subsection, name_encoding, IsName}
use Rattle.wasm_custom.specs.{name_name, name_items, inside, id_of, held_by, name_payload, kind_as}
use Rattle.wasm_custom.specs.declared.names.NameKind.{NameKind as ReadKind}
use Rattle.wasm_custom.proofs.CustomLaws.{content_encodable}
use Rattle.wasm_custom.proofs.DecodeNamed.{named_none, items_fill, no_items}
use Rattle.wasm_custom.proofs.EntriesLaws.{entries_laws, items_appended, items_encoded}

pub naming_unambiguous : Unambiguous naming
naming_unambiguous = pair_unambiguous u32_unambiguous name_unambiguous

pub map_unambiguous : Unambiguous name_map
map_unambiguous = vec_unambiguous naming_unambiguous

pub indirect_unambiguous : Unambiguous indirect_map
indirect_unambiguous = vec_unambiguous (pair_unambiguous u32_unambiguous map_unambiguous)

-- ---- subsections

not_module : (a b : Bool) → cond a of_map (cond b of_indirect of_other) ≡ of_module → ⊥
not_module true b e = absurd (cc e)
not_module false true e = absurd (cc e)
not_module false false e = absurd (cc e)

is_zero : (id : ℕ) → name_kind_of id ≡ of_module → id ≡ 0
is_zero id e = go (eqb id 0) refl e
  where
    go : (test : Bool) → eqb id 0 ≡ test → cond test of_module (cond (is_one_of map_ids id) of_map (cond (is_one_of indirect_ids id) of_indirect of_other)) ≡ of_module → id ≡ 0
    go true t e = eqb-true id 0 t
    go false t e = absurd (not_module (is_one_of map_ids id) (is_one_of indirect_ids id) e)

pub tells : DeterminesTag (λ id. after_id (name_kind_of id) id) id_of
tells mode id s x h = go (name_kind_of id) refl h
  where
    go : (k : NameKind) → name_kind_of id ≡ k → after_id k id mode s x → id ≡ id_of x
    go of_module e h = is_zero id e ∙ ap id_of h.1
    go of_map e h = ap id_of h.1
    go of_indirect e h = ap id_of h.1
    go of_other e h = ap id_of h.1

after_id_unambiguous : (k : NameKind) (id : ℕ) → Unambiguous (after_id k id)
after_id_unambiguous of_module id = mapped_unambiguous Module (λ x y e. cc) (size_prefixed_unambiguous (whole_from_unique name_unambiguous))
after_id_unambiguous of_map id = mapped_unambiguous (Map id) (λ x y e. cc) (size_prefixed_unambiguous (whole_from_unique map_unambiguous))
after_id_unambiguous of_indirect id = mapped_unambiguous (Indirect id) (λ x y e. cc) (size_prefixed_unambiguous (whole_from_unique indirect_unambiguous))
after_id_unambiguous of_other id = mapped_unambiguous (Other id) (λ x y e. cc) (size_prefixed_unambiguous any_bytes_whole)

pub subsection_unambiguous : Unambiguous subsection
subsection_unambiguous = tagged_unambiguous id_of tells byte_unambiguous (λ id. after_id_unambiguous (name_kind_of id) id)

-- ---- encodings

naming_encodes : (n : Naming) → IsNaming n → naming minimal (naming_encoding n) n
naming_encodes n plain = pair_encodes u32 name (unsigned_encoding n.0) (size_prefixed_encoding n.1) n.0 n.1 (u32_encodes n.0 plain.0) (name_encodes n.1 plain.1.0 plain.1.1)

map_encodes : (names : List Naming) → IsEncodableVec IsNaming names → name_map minimal (vec_encoding naming_encoding names) names
map_encodes names plain = vec_encodes naming IsNaming naming_encoding naming_encodes names plain

inside_encodes : (i : Inside) → IsInside i → pair u32 name_map minimal (inside_encoding i) i
inside_encodes i plain = pair_encodes u32 name_map (unsigned_encoding i.0) (vec_encoding naming_encoding i.1) i.0 i.1 (u32_encodes i.0 plain.0) (map_encodes i.1 plain.1)

indirect_encodes : (names : List Inside) → IsEncodableVec IsInside names → indirect_map minimal (vec_encoding inside_encoding names) names
indirect_encodes names plain = vec_encodes (pair u32 name_map) IsInside inside_encoding inside_encodes names plain

-- A subsection whose id has this kind of content.
of_kind : (mode : Mode) (k : NameKind) (id : ℕ) (content : List ℕ) (x : NameItem) → name_kind_of id ≡ k → after_id k id mode (size_prefixed_encoding content) x → subsection mode (subsection_encoding id content) x
of_kind mode k id content x e h = tagged_encodes {G = λ id. after_id (name_kind_of id) id} mode id (size_prefixed_encoding content) x (subst (λ k. after_id k id mode (size_prefixed_encoding content) x) (sym e) h)

name_item_encodes : (x : NameItem) → IsName x → HasEncodableSize (name_encoding x) → subsection minimal (name_encoding x) x
name_item_encodes (Module n) plain encodable =
    let inside = content_encodable 0 (size_prefixed_encoding n) encodable in
    of_kind minimal of_module 0 (size_prefixed_encoding n) (Module n) refl
    (n, refl, size_prefixed_encodes name (size_prefixed_encoding n) n inside (name_encodes n plain (omega (arith, inside, length-append (unsigned_encoding (length n)) n))))
name_item_encodes (Map id names) plain encodable =
    of_kind minimal of_map id (vec_encoding naming_encoding names) (Map id names) plain.0 (names, refl, size_prefixed_encodes name_map (vec_encoding naming_encoding names) names (content_encodable id _ encodable) (map_encodes names plain.1))
name_item_encodes (Indirect id names) plain encodable =
    of_kind minimal of_indirect id (vec_encoding inside_encoding names) (Indirect id names) plain.0 (names, refl, size_prefixed_encodes indirect_map (vec_encoding inside_encoding names) names (content_encodable id _ encodable) (indirect_encodes names plain.1))
name_item_encodes (Other id content) plain encodable =
    of_kind minimal of_other id content (Other id content) plain (content, refl, size_prefixed_encodes any_bytes content content (content_encodable id content encodable) refl)

pub name_laws : ItemLaws name_items
name_laws = record { unique = subsection_unambiguous; encodes = name_item_encodes }

-- For padded LEB128: a subsection with raw content that encodes a name map.
pub names_padded : (id : ℕ) (content : List ℕ) (names : List Naming) → name_kind_of id ≡ of_map → HasEncodableSize content → name_map padded content names → subsection padded (subsection_encoding id content) (Map id names)
names_padded id content names kind encodable h = of_kind padded of_map id content (Map id names) kind (names, refl, size_prefixed_in padded name_map content names encodable h)

pub names_inside_padded : (id : ℕ) (content : List ℕ) (insides : List Inside) → name_kind_of id ≡ of_indirect → HasEncodableSize content → indirect_map padded content insides → subsection padded (subsection_encoding id content) (Indirect id insides)
names_inside_padded id content insides kind encodable h = of_kind padded of_indirect id content (Indirect id insides) kind (insides, refl, size_prefixed_in padded indirect_map content insides encodable h)

pub name_layout : CustomLayoutLaws subsection name_name [] (fixed [] (tt {0})) false
name_layout = record {
  name_utf8 = ascii {bytes = name_name} refl;
  front_unique = fixed_unambiguous [] (tt {0});
  front_encodes = (refl, refl);
  begins = λ e. tagged_begins;
}

pub names_section : SectionLaws name_items name_payload
names_section = entries_laws name_laws name_layout (λ given plain. plain) (λ given plain. plain)

-- ---- decoding names

-- ---- images

-- The image of a size-prefixed value decodes as the size-prefixed image.
module _ {X Y : Type 0} (f : X → Y) (F : Format X) {bytes rest : List ℕ} {y : Y} where
  image_of_size_prefixed : {m : Mode} → Decodes (size_prefixed (mapped f F)) m bytes y rest → Decodes (mapped f (size_prefixed F)) m bytes y rest
  image_of_size_prefixed h =
      let s = h.encodes in
      record { front = h.front; split = h.split; encodes = (s.encodes.0, s.encodes.1, record { front = s.front; content = s.content; joined = s.joined; size = s.size; encodes = s.encodes.2 }) }

  size_prefixed_of_image : {m : Mode} → Decodes (mapped f (size_prefixed F)) m bytes y rest → Decodes (size_prefixed (mapped f F)) m bytes y rest
  size_prefixed_of_image h =
      let s = h.encodes.2 in
      record { front = h.front; split = h.split; encodes = record { front = s.front; content = s.content; joined = s.joined; size = s.size; encodes = (h.encodes.0, h.encodes.1, s.encodes) } }

image_rejects : {m : Mode} {X Y : Type 0} (f : X → Y) {F : Format X} {bytes : List ℕ} → RejectsWhole F m bytes → RejectsWhole (mapped f F) m bytes
image_rejects f n = record { none = λ y h. n.none h.0 h.2 }

-- ---- the content of a subsection

pub module_fills : {m : Mode} (bytes : List ℕ) (id : ℕ) (n : List ℕ) → name m bytes n → inside of_module id m bytes (Module n)
module_fills bytes id n h = (n, refl, h)

pub no_module : {m : Mode} (bytes : List ℕ) (id : ℕ) → RejectsWhole name m bytes → RejectsWhole (inside of_module id) m bytes
no_module bytes id n = image_rejects Module n

pub map_fills : {m : Mode} (bytes : List ℕ) (id : ℕ) (names : List Naming) → name_map m bytes names → inside of_map id m bytes (Map id names)
map_fills bytes id names h = (names, refl, h)

pub no_map : {m : Mode} (bytes : List ℕ) (id : ℕ) → RejectsWhole name_map m bytes → RejectsWhole (inside of_map id) m bytes
no_map bytes id n = image_rejects (Map id) n

pub indirect_fills : {m : Mode} (bytes : List ℕ) (id : ℕ) (maps : List Inside) → indirect_map m bytes maps → inside of_indirect id m bytes (Indirect id maps)
indirect_fills bytes id maps h = (maps, refl, h)

pub no_indirect : {m : Mode} (bytes : List ℕ) (id : ℕ) → RejectsWhole indirect_map m bytes → RejectsWhole (inside of_indirect id) m bytes
no_indirect bytes id n = image_rejects (Indirect id) n

pub other_fills : (m : Mode) (bytes : List ℕ) (id : ℕ) → inside of_other id m bytes (Other id bytes)
other_fills m bytes id = (bytes, refl, refl)

pub ruleset kind_steps = (module_fills, no_module, map_fills, no_map, indirect_fills, no_indirect, other_fills)

-- ---- the kind of the content is known

pub not_known : (w : Grammar) (id : ℕ) {bytes : List ℕ} {k : ReadKind} (known : ReadKind) → k ≡ known → Rejects (after_id (kind_as known) id) (padded_of w) bytes → Rejects (after_id (kind_as k) id) (padded_of w) bytes
not_known w id {bytes} known e n = subst (λ z. Rejects (after_id (kind_as z) id) (padded_of w) bytes) (sym e) n

-- ---- subsections

behind_decodes : {m : Mode} (k : NameKind) (id : ℕ) (bytes rest : List ℕ) (x : NameItem) → Decodes (size_prefixed (inside k id)) m bytes x rest → Decodes (after_id k id) m bytes x rest
behind_decodes of_module id bytes rest x h = image_of_size_prefixed Module name h
behind_decodes of_map id bytes rest x h = image_of_size_prefixed (Map id) name_map h
behind_decodes of_indirect id bytes rest x h = image_of_size_prefixed (Indirect id) indirect_map h
behind_decodes of_other id bytes rest x h = image_of_size_prefixed (Other id) any_bytes h

decodes_behind : {m : Mode} (k : NameKind) (id : ℕ) (bytes rest : List ℕ) (x : NameItem) → Decodes (after_id k id) m bytes x rest → Decodes (size_prefixed (inside k id)) m bytes x rest
decodes_behind of_module id bytes rest x h = size_prefixed_of_image Module name h
decodes_behind of_map id bytes rest x h = size_prefixed_of_image (Map id) name_map h
decodes_behind of_indirect id bytes rest x h = size_prefixed_of_image (Indirect id) indirect_map h
decodes_behind of_other id bytes rest x h = size_prefixed_of_image (Other id) any_bytes h

nothing_behind : {m : Mode} (k : NameKind) (id : ℕ) (bytes : List ℕ) → Rejects (size_prefixed (inside k id)) m bytes → Rejects (after_id k id) m bytes
nothing_behind k id bytes n = record { none = λ x rest h. n.none x rest (decodes_behind k id bytes rest x h) }

abbrev behind : ℕ → Format NameItem
behind id = after_id (name_kind_of id) id

pub subsection_decodes : {m : Mode} (bytes rest content last : List ℕ) (id : ℕ) (k : NameKind) (x : NameItem) → Decodes byte m bytes id rest → Decodes (size_prefixed any_bytes) m rest content last → k ≡ name_kind_of id → inside k id m content x → Decodes subsection m bytes x last
subsection_decodes {m = m} bytes rest content last id k x h g e s =
    tagged_decodes {G = behind} h (subst (λ k. Decodes (after_id k id) m rest x last) e (behind_decodes k id rest last x (filled_decodes (inside k id) rest content last x g s)))

pub subsection_none : {m : Mode} (bytes : List ℕ) → Rejects byte m bytes → Rejects subsection m bytes
subsection_none bytes n = tagged_none byte behind bytes n

pub subsection_not_size_prefixed : {m : Mode} (bytes rest : List ℕ) (id : ℕ) → Decodes byte m bytes id rest → Rejects (size_prefixed any_bytes) m rest → Rejects subsection m bytes
subsection_not_size_prefixed bytes rest id h n = tagged_rejects {G = behind} byte_unambiguous h (nothing_behind (name_kind_of id) id rest (filled_none (inside (name_kind_of id) id) rest n))

pub subsection_rejects : {m : Mode} (bytes rest content last : List ℕ) (id : ℕ) (k : NameKind) → Decodes byte m bytes id rest → Decodes (size_prefixed any_bytes) m rest content last → k ≡ name_kind_of id → RejectsWhole (inside k id) m content → Rejects subsection m bytes
subsection_rejects {m = m} bytes rest content last id k h g e n =
    tagged_rejects {G = behind} byte_unambiguous h (subst (λ k. Rejects (after_id k id) m rest) e (nothing_behind k id rest (filled_rejects (inside k id) rest content last g n)))

-- ---- sections

pub names_fill : {m : Mode} (bytes rest : List ℕ) (items : List NameItem) → Decodes (just name_name name) m bytes tt rest → members subsection m rest items → name_payload m bytes items
names_fill bytes rest items h g = items_fill name_name false subsection bytes rest items h g

pub names_none : {m : Mode} (bytes : List ℕ) → Rejects (just name_name name) m bytes → RejectsWhole name_payload m bytes
names_none bytes n = named_none name_name _ bytes n

pub no_names : {m : Mode} (bytes rest : List ℕ) → Decodes (just name_name name) m bytes tt rest → RejectsWhole (members subsection) m rest → RejectsWhole name_payload m bytes
no_names bytes rest h n = no_items name_name false subsection bytes rest h n

pub ruleset name_steps = (names_fill, names_none, no_names)

-- ---- the one minimal encoding of decoded names

-- ---- the content of a subsection

pub module_appended : (n old new : List ℕ) → AppendsMinimal both_grammars name n old new → AppendsMinimal both_grammars (inside of_module 0) (Module n) old new
module_appended n old new a = mapped_appended Module name n old new (λ z k. cc k) a

pub map_appended : (id : ℕ) (names : List Naming) (old new : List ℕ) → AppendsMinimal both_grammars name_map names old new → AppendsMinimal both_grammars (inside of_map id) (Map id names) old new
map_appended id names old new a = mapped_appended (Map id) name_map names old new (λ z k. cc k) a

pub indirect_appended : (id : ℕ) (maps : List Inside) (old new : List ℕ) → AppendsMinimal both_grammars indirect_map maps old new → AppendsMinimal both_grammars (inside of_indirect id) (Indirect id maps) old new
indirect_appended id maps old new a = mapped_appended (Indirect id) indirect_map maps old new (λ z k. cc k) a

pub other_appended : (id : ℕ) (bytes old new : List ℕ) → new ≡ old ++ bytes → AppendsMinimal both_grammars (inside of_other id) (Other id bytes) old new
other_appended id bytes old new e = mapped_appended (Other id) any_bytes bytes old new (λ z k. cc k) (encoding_appended any_bytes bytes bytes old new (λ w q s h. refl) e)

-- ---- subsections

held_determines : (k : NameKind) (id : ℕ) (mode : Mode) (s : List ℕ) (x : NameItem) → after_id k id mode s x → held_by x ≡ k
held_determines of_module id mode s x h = sym (ap held_by h.1)
held_determines of_map id mode s x h = sym (ap held_by h.1)
held_determines of_indirect id mode s x h = sym (ap held_by h.1)
held_determines of_other id mode s x h = sym (ap held_by h.1)

id_determines : (x : NameItem) (mode : Mode) (s : List ℕ) (id : ℕ) → after_id (name_kind_of id) id mode s x → id ≡ id_of x
id_determines x mode s id h = tells mode id s x h

-- The image of a size-prefixed value is encoded as the size-prefixed image.
module _ {X : Type 0} (f : X → NameItem) (F : Format X) {mode : Mode} {s : List ℕ} {x : NameItem} where
  encodes_image : size_prefixed (mapped f F) mode s x → mapped f (size_prefixed F) mode s x
  encodes_image h = (h.encodes.0, h.encodes.1, record { front = h.front; content = h.content; joined = h.joined; size = h.size; encodes = h.encodes.2 })

  encodes_size_prefixed : mapped f (size_prefixed F) mode s x → size_prefixed (mapped f F) mode s x
  encodes_size_prefixed h = record { front = h.2.front; content = h.2.content; joined = h.2.joined; size = h.2.size; encodes = (h.0, h.1, h.2.encodes) }

sized : (k : NameKind) (id : ℕ) {mode : Mode} {s : List ℕ} {x : NameItem} → after_id k id mode s x → size_prefixed (inside k id) mode s x
sized of_module id h = encodes_size_prefixed Module name h
sized of_map id h = encodes_size_prefixed (Map id) name_map h
sized of_indirect id h = encodes_size_prefixed (Indirect id) indirect_map h
sized of_other id h = encodes_size_prefixed (Other id) any_bytes h

behind_content : (k : NameKind) (id : ℕ) {mode : Mode} {s : List ℕ} {x : NameItem} → size_prefixed (inside k id) mode s x → after_id k id mode s x
behind_content of_module id h = encodes_image Module name h
behind_content of_map id h = encodes_image (Map id) name_map h
behind_content of_indirect id h = encodes_image (Indirect id) indirect_map h
behind_content of_other id h = encodes_image (Other id) any_bytes h

after_appended : (x : NameItem) (old new : List ℕ) → AppendsMinimal both_grammars (size_prefixed (inside (held_by x) (id_of x))) x old new → AppendsMinimal both_grammars (after_id (name_kind_of (id_of x)) (id_of x)) x old new
after_appended x old new a = record {
  encoding = a.encoding;
  appended = a.appended;
  encodes = λ w q s h.
      let id = id_of x in
      let is = held_determines (name_kind_of id) id (padded_of w) s x h in
      let given = subst (λ k. after_id k id (padded_of w) s x) (sym is) h in
      subst (λ k. after_id k id (minimal_of w) a.encoding x) is (behind_content (held_by x) id (a.encodes w q s (sized (held_by x) id given)));
}

pub subsection_appended : (x : NameItem) (start : ℕ) (old front middle new : List ℕ) → front ≡ old ++ id_of x ∷ [] → start ≡ length front → AppendsMinimal both_grammars (inside (held_by x) (id_of x)) x front middle → HasEncodableSize (drop start middle)
    → new ≡ take start middle ++ size_prefixed_encoding (drop start middle) → AppendsMinimal both_grammars subsection x old new
subsection_appended x start old front middle new e l a encodable is =
    tagged_appended byte (λ id. after_id (name_kind_of id) id) (λ mode s z h. id_determines x mode s z h) (encoding_appended byte (id_of x) (id_of x ∷ []) old front (λ w q s h. refl) e)
    (after_appended x front new (size_prefixed_appended (inside (held_by x) (id_of x)) x start front middle new l a encodable is))

-- ---- sections

pub names_appended : (xs : List NameItem) (old middle new : List ℕ) → middle ≡ old ++ size_prefixed_encoding name_name → AppendsMinimal both_grammars (members subsection) xs middle new → AppendsMinimal both_grammars name_payload xs old new
names_appended xs old middle new e a = items_appended name_name false subsection xs e a

-- ---- contents of a subsection that has an encoding

pub module_encoded : (n : List ℕ) → HasEncoding both_grammars (inside of_module 0) (Module n) → HasEncoding both_grammars name n
module_encoded n h = mapped_encoded Module name n (λ z k. cc k) h

pub map_encoded : (id : ℕ) (names : List Naming) → HasEncoding both_grammars (inside of_map id) (Map id names) → HasEncoding both_grammars name_map names
map_encoded id names h = mapped_encoded (Map id) name_map names (λ z k. cc k) h

pub indirect_encoded : (id : ℕ) (maps : List Inside) → HasEncoding both_grammars (inside of_indirect id) (Indirect id maps) → HasEncoding both_grammars indirect_map maps
indirect_encoded id maps h = mapped_encoded (Indirect id) indirect_map maps (λ z k. cc k) h

sized_encoded : (x : NameItem) → HasEncoding both_grammars subsection x → HasEncoding both_grammars (size_prefixed (inside (held_by x) (id_of x))) x
sized_encoded x h =
    let id = id_of x in
    let behind = tagged_encoded byte (λ b. after_id (name_kind_of b) b) id x (λ mode s z k. id_determines x mode s z k) h in
    let mode = padded_of behind.grammar in
    record { grammar = behind.grammar; included = tt; bytes = behind.bytes; decoded = sized (held_by x) id (subst (λ k. after_id k id mode behind.bytes x) (sym (held_determines (name_kind_of id) id mode behind.bytes x behind.decoded)) behind.decoded) }

pub held_encoded : (x : NameItem) → HasEncoding both_grammars subsection x → HasEncoding both_grammars (inside (held_by x) (id_of x)) x
held_encoded x h = content_encoded (inside (held_by x) (id_of x)) x (sized_encoded x h)

inside_encodings : (k : NameKind) (id : ℕ) → HasEncodings (inside k id)
inside_encodings of_module id = (mapped_unambiguous Module (λ x y e. cc) name_unambiguous).encodings
inside_encodings of_map id = (mapped_unambiguous (Map id) (λ x y e. cc) map_unambiguous).encodings
inside_encodings of_indirect id = (mapped_unambiguous (Indirect id) (λ x y e. cc) indirect_unambiguous).encodings
inside_encodings of_other id = (mapped_whole (Other id) (λ x y e. cc) any_bytes_whole).encodings

pub held_encodable : (x : NameItem) (start : ℕ) (old new : List ℕ) → start ≡ length old → AppendsMinimal both_grammars (inside (held_by x) (id_of x)) x old new → HasEncoding both_grammars subsection x → HasEncodableSize (drop start new)
held_encodable x start old new e a h = behind_encodable (inside (held_by x) (id_of x)) x start old new (inside_encodings (held_by x) (id_of x)) e a (sized_encoded x h)

pub names_encoded : (xs : List NameItem) → HasEncoding both_grammars name_payload xs → HasEncoding both_grammars (members subsection) xs
names_encoded xs h = items_encoded name_name false subsection xs h
