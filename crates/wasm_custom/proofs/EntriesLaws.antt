-- This file proves that a custom section of items decodes to these alone.
use Rattle.wasm_base.proofs.Words.{◌≡◌, ℕ, ◌≤◌, List, ◌++◌, length, map, Bool, IsUtf8, true, false, refl, sym, subst, arith, length-append, [], append-nil, AllZip, DecodesBack, DecodesBackPadded}
use Rattle.wasm_base.proofs.Words.{DecodesBackBoth, Kind, entry_encoding, ContainsItems, ContainsPadded, ItemLaws, Format, fixed, vec, Mode, minimal, padded, IsOfBuilders, joined, Unambiguous}
use Rattle.wasm_base.proofs.Words.{UnambiguousWhole, BeginsWith, longest, size_prefixed_encoding, HasEncodableSize, entries_encodes, pieces_encodes, fixed_unambiguous, vec_unambiguous, members_whole}
use Rattle.wasm_base.proofs.Words.{whole_from_unique, mapped_whole, pair_whole, encodes_in, decodes_uniquely, decodes_uniquely_padded, joined_encodes, vec_of_pieces, name_unambiguous, after_whole}
use Rattle.wasm_base.proofs.Words.{SectionLaws, sized_laws, AppendsMinimal, both_grammars, HasEncoding, tagged_encoded, encoding_appended, tagged_appended}
use Rattle.wasm_base.proofs.Words.{ap₂, DecodesUniquely}
use Rattle.wasm_base.specs.Decoding.{DecodesUniquelyPadded}
use Rattle.wasm_base.specs.Stores.{Joined, Cut, StoreModel}
use Rattle.wasm_custom.specs.{joined_data, named_section, named_encoding, IsEncodableNamed, named_payload, count_encoding, entries_encoding, listing, entries, counted_payload, CustomLayoutLaws}
use Rattle.wasm_custom.proofs.CustomLaws.{named_encoded, named_encodable, named_unambiguous, named_encodes, data_encodable, named_appended}

listing_whole : {Item : Type 0} (counted : Bool) {F : Format Item} → (counted ≡ false → BeginsWith (λ b. Unit {0}) F) → Unambiguous F → UnambiguousWhole (listing counted F)
listing_whole true begins f = whole_from_unique (vec_unambiguous f)
listing_whole false begins f = members_whole (λ b. Unit {0}) (begins refl) f

pub entries_whole : {Item : Type 0} {front : Format (Unit {0})} (counted : Bool) {F : Format Item} → Unambiguous front → (counted ≡ false → BeginsWith (λ b. Unit {0}) F) → Unambiguous F → UnambiguousWhole (entries front counted F)
entries_whole counted first begins f = mapped_whole (λ p. p.1) (λ x y e. λ i. (tt, e i)) (pair_whole first (listing_whole counted begins f))

pub listing_encodes : {Item : Type 0} (mode : Mode) (counted : Bool) (F : Format Item) (pieces : List (List ℕ)) (items : List Item) → length pieces ≤ longest → AllZip (F mode) pieces items → listing counted F mode (count_encoding counted (length pieces) ++ joined pieces) items
listing_encodes mode true F pieces items few h = vec_of_pieces mode F pieces items few h
listing_encodes mode false F pieces items few h = joined_encodes mode F pieces items h

pub same_encodable : (n front m first : List ℕ) (counted other : Bool) (j k : Joined) → m ≡ n → first ≡ front → other ≡ counted → k ≡ j → IsEncodableNamed m (joined_data first other k) → IsEncodableNamed n (joined_data front counted j)
same_encodable n front m first counted other j k e f g h encodable =
    subst (λ z. IsEncodableNamed n (joined_data front counted z)) h
    (subst (λ z. IsEncodableNamed n (joined_data front z k)) g (subst (λ z. IsEncodableNamed n (joined_data z other k)) f (subst (λ z. IsEncodableNamed z (joined_data first other k)) e encodable)))

-- The data of the pieces are those of the entries.
pub cut_data : {P : List (List ℕ) → Type 0} (front : List ℕ) (counted : Bool) (j : Joined) (cut : Cut P j) → entries_encoding front counted cut.pieces ≡ joined_data front counted j
cut_data front counted j cut = ap₂ (λ k b. front ++ (count_encoding counted k ++ b)) cut.number cut.content

module _ {Record Item : Type 0} (kind : Kind Record Item) (n front : List ℕ) (front_format : Format (Unit {0})) (counted : Bool)
    (laws : ItemLaws kind) (more : CustomLayoutLaws kind.format n front front_format counted) where
  section_encodes : (mode : Mode) → IsOfBuilders mode → (pieces : List (List ℕ)) (items : List Item) → length pieces ≤ longest → IsEncodableNamed n (entries_encoding front counted pieces) → AllZip (kind.format mode) pieces items
      → named_section n (entries front_format counted kind.format) mode (named_encoding n (entries_encoding front counted pieces)) items
  section_encodes mode of pieces items few encodable h =
      let back = count_encoding counted (length pieces) ++ joined pieces in
      let first = encodes_in {F = front_format} more.front_unique more.front_encodes mode of in
      let listed : entries front_format counted kind.format mode (front ++ back) items =
      ((tt, items), refl, record { front = front; back = back; joined = refl; first = first; second = listing_encodes mode counted kind.format pieces items few h }) in
      named_encodes mode of n (entries front_format counted kind.format) (entries_encoding front counted pieces) items more.name_utf8 encodable listed

  -- The entries are no longer than the section.
  content_encodable : (pieces : List (List ℕ)) → IsEncodableNamed n (entries_encoding front counted pieces) → length (joined pieces) ≤ longest
  content_encodable pieces encodable = omega (arith, data_encodable n (entries_encoding front counted pieces) encodable, length-append front (count_encoding counted (length pieces) ++ joined pieces), length-append (count_encoding counted (length pieces)) (joined pieces))

  section_unambiguous : Unambiguous (named_section n (entries front_format counted kind.format))
  section_unambiguous = named_unambiguous n (entries_whole counted more.front_unique more.begins laws.unique)

  entries_unique : (pieces : List (List ℕ)) → length pieces ≤ longest → IsEncodableNamed n (entries_encoding front counted pieces)
      → DecodesBack (named_section n (entries front_format counted kind.format)) (ContainsItems kind pieces) (named_encoding n (entries_encoding front counted pieces))
  entries_unique pieces few encodable = record {
    for_each = λ items contains.
        let held = map (entry_encoding kind.encoding) contains.entries in
        decodes_uniquely {F = named_section n (entries front_format counted kind.format)} section_unambiguous
        (section_encodes minimal tt pieces items few encodable
        (subst (λ ps. AllZip (kind.format minimal) ps items) (sym contains.held)
        (entries_encodes kind laws contains.entries items (subst (λ ps. length (joined ps) ≤ longest) contains.held (content_encodable pieces encodable)) contains.meant)));
  }

  entries_unique_padded : (pieces : List (List ℕ)) → length pieces ≤ longest → IsEncodableNamed n (entries_encoding front counted pieces)
      → DecodesBackPadded (named_section n (entries front_format counted kind.format)) (ContainsPadded kind.format pieces) (named_encoding n (entries_encoding front counted pieces))
  entries_unique_padded pieces few encodable = record {
    for_each = λ items contains.
        decodes_uniquely_padded {F = named_section n (entries front_format counted kind.format)} section_unambiguous
        (section_encodes padded tt pieces items few encodable (pieces_encodes kind.format pieces items (content_encodable pieces encodable) contains.encodes));
  }

  pub entries_back : (pieces : List (List ℕ)) → length pieces ≤ longest → IsEncodableNamed n (entries_encoding front counted pieces)
      → DecodesBackBoth (named_section n (entries front_format counted kind.format)) (ContainsItems kind pieces) (ContainsPadded kind.format pieces) (named_encoding n (entries_encoding front counted pieces))
  entries_back pieces few encodable = record { plain = entries_unique pieces few encodable; padded = entries_unique_padded pieces few encodable }

  few_pieces : {P : List (List ℕ) → Type 0} (j : Joined) (cut : Cut P j) → j.number ≤ longest → length cut.pieces ≤ longest
  few_pieces j cut few = subst (λ k. k ≤ longest) (sym cut.number) few

  fits_pieces : {P : List (List ℕ) → Type 0} (j : Joined) (cut : Cut P j) → IsEncodableNamed n (joined_data front counted j) → IsEncodableNamed n (entries_encoding front counted cut.pieces)
  fits_pieces j cut encodable = subst (IsEncodableNamed n) (sym (cut_data front counted j cut)) encodable

  -- A store decodes to the items that its entries contain, if entries with a property can be cut
  -- into pieces that have it.
  pub stored_back : {M : Type 0} (model : StoreModel M) (s : M) → (model.joins s).number ≤ longest → IsEncodableNamed n (joined_data front counted (model.joins s))
      → ((items : List Item) → model.holds (λ pieces. ContainsItems kind pieces items) s → Cut (λ pieces. ContainsItems kind pieces items) (model.joins s))
      → ((items : List Item) → model.holds (λ pieces. ContainsPadded kind.format pieces items) s → Cut (λ pieces. ContainsPadded kind.format pieces items) (model.joins s))
      → DecodesBackBoth (named_section n (entries front_format counted kind.format)) (λ items. model.holds (λ pieces. ContainsItems kind pieces items) s) (λ items. model.holds (λ pieces. ContainsPadded kind.format pieces items) s)
      (named_encoding n (joined_data front counted (model.joins s)))
  stored_back model s few encodable says loose = record {
    plain = record {
      for_each = λ items h. let cut = says items h in
          subst (λ b. DecodesUniquely (named_section n (entries front_format counted kind.format)) (named_encoding n b) items) (cut_data front counted _ cut)
          ((entries_back cut.pieces (few_pieces _ cut few) (fits_pieces _ cut encodable)).plain.for_each items cut.are);
    };
    padded = record {
      for_each = λ items h. let cut = loose items h in
          subst (λ b. DecodesUniquelyPadded (named_section n (entries front_format counted kind.format)) (named_encoding n b) items) (cut_data front counted _ cut)
          ((entries_back cut.pieces (few_pieces _ cut few) (fits_pieces _ cut encodable)).padded.for_each items cut.are);
    };
  }

-- A section of counted items right after its name has the laws of its front.
pub counted_layout : {Item : Type 0} {F : Format Item} {n : List ℕ} → IsUtf8 n → CustomLayoutLaws F n [] (fixed [] (tt {0})) true
counted_layout utf8 = record { name_utf8 = utf8; front_unique = fixed_unambiguous [] (tt {0}); front_encodes = (refl, refl); begins = λ e. absurd (cc e) }

-- The laws of the sections of a kind whose records are well-formed with padding exactly if they are
-- without.
pub entries_laws : {Record Item : Type 0} {kind : Kind Record Item} {n front : List ℕ} {front_format : Format (Unit {0})} {counted : Bool} → ItemLaws kind → CustomLayoutLaws kind.format n front front_format counted
    → ((given : Record) → kind.IsWellFormed given → kind.IsWellFormedPadded given) → ((given : Record) → kind.IsWellFormedPadded given → kind.IsWellFormed given) → SectionLaws kind (named_payload n (entries front_format counted kind.format))
entries_laws {n = n} {counted = counted} laws more included plain = sized_laws laws included (after_whole n name_unambiguous (entries_whole counted more.front_unique more.begins laws.unique)) plain

-- The minimal encoding of a section of items right after its name is the name, then that of the
-- items.
pub items_appended : {X : Type 0} (n : List ℕ) {old middle new : List ℕ} (counted : Bool) (F : Format X) (xs : List X) → middle ≡ old ++ size_prefixed_encoding n → AppendsMinimal both_grammars (listing counted F) xs middle new
    → AppendsMinimal both_grammars (named_payload n (entries (fixed [] (tt {0})) counted F)) xs old new
items_appended n {middle = middle} counted F xs e a =
    let none = encoding_appended (fixed [] (tt {0})) tt [] middle middle (λ w q s h. (refl, refl)) (sym (append-nil middle)) in
    named_appended n (entries (fixed [] (tt {0})) counted F) xs e (tagged_appended (fixed [] (tt {0})) (λ u. listing counted F) (λ mode s z h. refl) none a)

-- The same for counted items, with the name that is an argument of the call.
pub counted_appended : {X : Type 0} {n known old middle new : List ℕ} → known ≡ n → (F : Format X) (xs : List X) → middle ≡ old ++ size_prefixed_encoding known → AppendsMinimal both_grammars (vec F) xs middle new → AppendsMinimal both_grammars (counted_payload n F) xs old new
counted_appended {known = known} {old = old} {new = new} called F xs e a = subst (λ z. AppendsMinimal both_grammars (counted_payload z F) xs old new) called (items_appended known true F xs e a)

pub items_encoded : {X : Type 0} (n : List ℕ) (counted : Bool) (F : Format X) (xs : List X) → HasEncoding both_grammars (named_payload n (entries (fixed [] (tt {0})) counted F)) xs → HasEncoding both_grammars (listing counted F) xs
items_encoded n counted F xs h =
    tagged_encoded (fixed [] (tt {0})) (λ u. listing counted F) tt xs (λ mode s z h. refl) (named_encoded n (entries (fixed [] (tt {0})) counted F) xs h)

pub counted_encoded : {X : Type 0} (n : List ℕ) (F : Format X) (xs : List X) → HasEncoding both_grammars (counted_payload n F) xs → HasEncoding both_grammars (vec F) xs
counted_encoded n F xs h = items_encoded n true F xs h

-- The name that is an argument of the call fits.
pub counted_name_encodable : {X : Type 0} (n known : List ℕ) (F : Format X) (xs : List X) → known ≡ n → HasEncoding both_grammars (counted_payload n F) xs → HasEncodableSize known
counted_name_encodable n known F xs e h = subst HasEncodableSize (sym e) (named_encodable n (entries (fixed [] (tt {0})) true F) xs h)
