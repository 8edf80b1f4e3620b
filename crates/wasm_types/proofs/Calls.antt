-- This file proves the effect of each call on a type section: lemmas that a caller's proof cites.
use Rattle.wasm_base.proofs.Words.{◌≡◌, ◌≤◌, length, ℕ, List, [], ◌∷◌, ◌++◌, Result, Ok, sym, subst, ◌∙◌, arith, All-nil, All-cons, array_into_iter_items, array_steps, Count, All, AllByRecursion}
use Rattle.wasm_base.proofs.Words.{OnOk, Appends, DecodesOneMore, DecodesBackBoth, ContainsPadded, counted_format, SectionDecoding, decoding_of, DecodesSections, GainsDecoding, vec, SectionPayload}
use Rattle.wasm_base.proofs.Words.{IsEncodableSection, section_encoding, longest, IsEncodableVec, new_section, adds_item, gains_items, encodes_items, array_items}
use Rattle.std.specs.declared.array.IntoIter.{IntoIter}
use Rattle.std.specs.declared.vec.Vec.{Vec}
use Rattle.wasm_base.specs.declared.refused.Refused.{Refused}
use Rattle.wasm_base.specs.Stores.{StoreModel}
use Rattle.wasm_types.specs.{AddsListed, AddsTwoListed, Shape, TypeItem, type_encoding, shape_encoding, IsShape, IsType, type_item, ContainsTypes, plain_type}
use Rattle.wasm_base.proofs.SectionLaws.{payloads}
use Rattle.wasm_types.proofs.TypeLaws.{types_section}

pub new_types : {entries : List (List ℕ)} → entries ≡ [] → ContainsTypes entries []
new_types e = new_section e

-- Equal entries hold the same types.
pub same_types : {old new : List (List ℕ)} {items : List TypeItem} → ContainsTypes old items → new ≡ old → ContainsTypes new items
same_types {items = items} before e = subst (λ entries. ContainsTypes entries items) (sym e) before

-- Parameters, results or fields, each of which is well-formed, as a vector that fits.
pub counted : {X : Type 0} (P : X → Type 0) (xs : List X) → AllByRecursion P xs → length xs ≤ longest → IsEncodableVec P xs
counted P xs are few = record { count = few; members = all P xs are }
  where
    all : {X : Type 0} (P : X → Type 0) (xs : List X) → AllByRecursion P xs → All P xs
    all P [] h = All-nil P
    all P (x ∷ xs) h = All-cons P x xs h.0 (all P xs h.1)

-- The section gains a type or a recursion group: `subtype`, `rec`.
pub adds_type : {old new : List (List ℕ)} {items : List TypeItem} → ContainsTypes old items → (item : TypeItem) → new ≡ old ++ type_encoding item ∷ [] → IsType item → ContainsTypes new (items ++ item ∷ [])
adds_type before item e plain = adds_item before item e plain

-- The section gains a type of this shape alone: `function`, `func_type`, `array`, `struct_`,
-- `cont`.
pub adds_shape : {old new : List (List ℕ)} {items : List TypeItem} → ContainsTypes old items → (shape : Shape) → new ≡ old ++ shape_encoding shape ∷ [] → IsShape shape → ContainsTypes new (items ++ plain_type shape ∷ [])
adds_shape before shape e plain =
    adds_type before (plain_type shape) e (record { supertypes = record { count = omega arith; members = All-nil _ }; composite = record { describes = tt; descriptor = tt; shape = plain } })

-- The section gains an entry whose items are the elements of arrays.
pub listed_array : {M U T : Type 0} {model : StoreModel M} {n : ℕ} {becomes : U → IntoIter T n → Type 0} {remaining : IntoIter T n → Count} {Encodable : T → Type 0} {elements : U} {encoding : List T → List ℕ} {old new : M}
    → AddsListed model becomes array_steps remaining Encodable elements encoding old new (Ok (tt {0})) → (items : List T) → ((it : IntoIter T n) → becomes elements it → array_into_iter_items it ≡ items) → model.gains (encoding items) old new
listed_array {model = model} {encoding = encoding} {old = old} {new = new} added items are =
    let given = added.ok in
    subst (λ xs. model.gains (encoding xs) old new) (array_items given.0 given.1 given.3 ∙ are given.0 given.2) given.5

pub listed_arrays : {M U V T : Type 0} {model : StoreModel M} {n m : ℕ} {becomes : U → IntoIter T n → Type 0} {remaining : IntoIter T n → Count} {becomes₂ : V → IntoIter T m → Type 0} {remaining₂ : IntoIter T m → Count} {first : U} {second : V} {encoding : List T → List T → List ℕ} {old new : M}
    → AddsTwoListed model becomes array_steps remaining becomes₂ array_steps remaining₂ first second encoding old new (Ok (tt {0})) → (xs ys : List T) → ((it : IntoIter T n) → becomes first it → array_into_iter_items it ≡ xs) → ((it : IntoIter T m) → becomes₂ second it → array_into_iter_items it ≡ ys)
    → model.gains (encoding xs ys) old new
listed_arrays {model = model} {encoding = encoding} {old = old} {new = new} added xs ys are are₂ =
    let given = added.ok in
    subst (λ zs. model.gains (encoding zs ys) old new) (array_items given.0 given.2 given.6 ∙ are given.0 given.4)
    (subst (λ zs. model.gains (encoding given.2 zs) old new) (array_items given.1 given.3 given.7 ∙ are₂ given.1 given.5) given.10)

-- The module gains a type section.
pub gains_types : {decodings : List SectionDecoding} {id : ℕ} {old new : List ℕ} {entries : List (List ℕ)} {items : List TypeItem} → DecodesSections decodings old → DecodesOneMore (SectionPayload entries) id old new → IsEncodableSection entries
    → DecodesBackBoth (counted_format type_item) (ContainsTypes entries) (ContainsPadded type_item entries) (section_encoding entries) → ContainsTypes entries items → DecodesSections (decodings ++ decoding_of id (vec type_item) items ∷ []) new
gains_types before more encodable decodes contains = gains_items (payloads types_section) before more encodable decodes contains

-- A buffer gains a type section.
pub encodes_types : {A : Type 0} {encodable : Type 0} {entries : List (List ℕ)} {old new : Vec ℕ A} {result : Result (Unit {0}) Refused} {items : List TypeItem}
    → Appends (section_encoding entries) encodable old new result → OnOk result (DecodesBackBoth (counted_format type_item) (ContainsTypes entries) (ContainsPadded type_item entries) (section_encoding entries)) → ContainsTypes entries items
    → OnOk result (GainsDecoding (counted_format type_item) items old.items new.items)
encodes_types appends decodes contains = encodes_items appends decodes contains
