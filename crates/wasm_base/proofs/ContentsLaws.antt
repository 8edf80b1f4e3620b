-- This file proves which items a builder holds as calls add to it.
use Rattle.wasm_base.proofs.Std.{ℕ, List, [], ◌∷◌, ◌++◌, map, refl, sym, ap, subst, ◌∙◌, append_assoc, append-nil, map-append, AllByRecursion, AllZip}
use Rattle.wasm_base.specs.{Kind, Entry, Given, Raw, entry_encoding, Means, ContainsItems, EncodesPadded, ContainsPadded, ItemLaws, ContainsMore, ContainsMorePadded, padded, minimal, HasEncodableSize}
use Rattle.wasm_base.proofs.EntryLaws.{entry_encodes}

zip_more : {X Y : Type 0} (R : X → Y → Type 0) (xs : List X) (ys : List Y) (x : X) (y : Y) → AllZip R xs ys → R x y → AllZip R (xs ++ x ∷ []) (ys ++ y ∷ [])
zip_more R [] [] x y h r = (r, tt)
zip_more R [] (b ∷ ys) x y h r = absurd h
zip_more R (a ∷ xs) [] x y h r = absurd h
zip_more R (a ∷ xs) (b ∷ ys) x y h r = (h.0, zip_more R xs ys x y h.1 r)

-- A property that each added record keeps is kept by adding all records of a list.
all_steps : {Record Item : Type 0} (encoding : Record → List ℕ) (normal_form : Record → Item) (P : Record → Type 0) (Has : List (List ℕ) → List Item → Type 0)
    → ((pieces : List (List ℕ)) (items : List Item) (given : Record) → Has pieces items → P given → Has (pieces ++ encoding given ∷ []) (items ++ normal_form given ∷ []))
    → (pieces : List (List ℕ)) (items : List Item) (given : List Record) → Has pieces items → AllByRecursion P given → Has (pieces ++ map encoding given) (items ++ map normal_form given)
all_steps encoding normal_form P Has step pieces items [] contains plain = rw (append-nil pieces, append-nil items) contains
all_steps encoding normal_form P Has step pieces items (g ∷ given) contains plain =
    let rest = all_steps encoding normal_form P Has step (pieces ++ encoding g ∷ []) (items ++ normal_form g ∷ []) given (step pieces items g contains plain.0) plain.1 in
    rw (append_assoc pieces (encoding g ∷ []) (map encoding given), append_assoc items (normal_form g ∷ []) (map normal_form given)) at rest

module _ {Record Item : Type 0} (kind : Kind Record Item) where
  one_more : (pieces : List (List ℕ)) (items : List Item) (entry : Entry Record) (item : Item) → ContainsItems kind pieces items → Means kind entry item → ContainsItems kind (pieces ++ entry_encoding kind.encoding entry ∷ []) (items ++ item ∷ [])
  one_more pieces items entry item contains means = record {
    entries = contains.entries ++ entry ∷ [];
    held = ap (λ ps. ps ++ entry_encoding kind.encoding entry ∷ []) contains.held ∙ sym (map-append (entry_encoding kind.encoding) contains.entries (entry ∷ []));
    meant = zip_more (Means kind) contains.entries items entry item contains.meant means;
  }

  pub contains_more : ContainsMore kind
  contains_more = record {
    none = record { entries = []; held = refl; meant = tt };
    given = λ pieces items given contains plain. one_more pieces items (Given given) (kind.normal_form given) contains (plain, refl);
    raw = λ pieces items piece item contains encodes. one_more pieces items (Raw piece) item contains encodes;
    all = all_steps kind.encoding kind.normal_form kind.IsWellFormed (ContainsItems kind) (λ pieces items given contains plain. one_more pieces items (Given given) (kind.normal_form given) contains (plain, refl));
  }

-- ---- with padded LEB128

module _ {Record Item : Type 0} (kind : Kind Record Item) (laws : ItemLaws kind) (included : (given : Record) → kind.IsWellFormed given → kind.IsWellFormedPadded given)
    (encodes : (given : Record) → kind.IsWellFormedPadded given → HasEncodableSize (kind.encoding given) → kind.format padded (kind.encoding given) (kind.normal_form given)) where
  entries_padded : (entries : List (Entry Record)) (items : List Item) → AllZip (Means kind) entries items → AllZip (EncodesPadded kind.format) (map (entry_encoding kind.encoding) entries) items
  entries_padded [] [] means = tt
  entries_padded [] (item ∷ items) means = absurd means
  entries_padded (entry ∷ entries) [] means = absurd means
  entries_padded (entry ∷ entries) (item ∷ items) means =
      (λ encodable. laws.unique.encodings.included minimal padded tt (entry_encoding kind.encoding entry) item (entry_encodes kind laws entry item encodable means.0), entries_padded entries items means.1)

  one_padded : (pieces : List (List ℕ)) (items : List Item) (piece : List ℕ) (item : Item) → ContainsPadded kind.format pieces items → EncodesPadded kind.format piece item → ContainsPadded kind.format (pieces ++ piece ∷ []) (items ++ item ∷ [])
  one_padded pieces items piece item contains encoded = record { encodes = zip_more (EncodesPadded kind.format) pieces items piece item contains.encodes encoded }

  given_padded : (pieces : List (List ℕ)) (items : List Item) (given : Record) → ContainsPadded kind.format pieces items → kind.IsWellFormedPadded given → ContainsPadded kind.format (pieces ++ kind.encoding given ∷ []) (items ++ kind.normal_form given ∷ [])
  given_padded pieces items given contains plain = one_padded pieces items (kind.encoding given) (kind.normal_form given) contains (encodes given plain)

  pub contains_more_padded : ContainsMorePadded kind
  contains_more_padded = record {
    none = record { encodes = tt };
    held = λ pieces items contains. record { encodes = subst (λ ps. AllZip (EncodesPadded kind.format) ps items) (sym contains.held) (entries_padded contains.entries items contains.meant) };
    included = included;
    given = given_padded;
    raw = λ pieces items piece item contains encoded. one_padded pieces items piece item contains (λ encodable. encoded);
    all = all_steps kind.encoding kind.normal_form kind.IsWellFormedPadded (ContainsPadded kind.format) given_padded;
  }

-- For records without expressions, being well-formed does not depend on padding.
pub plain_more_padded : {Record Item : Type 0} {kind : Kind Record Item} → ItemLaws kind → ((given : Record) → kind.IsWellFormed given → kind.IsWellFormedPadded given) → ((given : Record) → kind.IsWellFormedPadded given → kind.IsWellFormed given) → ContainsMorePadded kind
plain_more_padded {kind = kind} laws included plain =
    contains_more_padded kind laws included (λ given are encodable. laws.unique.encodings.included minimal padded tt (kind.encoding given) (kind.normal_form given) (laws.encodes given (plain given are) encodable))
