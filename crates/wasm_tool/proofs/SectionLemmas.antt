-- This file proves the bounds of the items of a section that fits, and the encoding of a section
-- from its pieces.
use Rattle.wasm_base.proofs.Words.{◌≡◌, ℕ, ◌<◌, ◌≤◌, List, [], ◌∷◌, ◌++◌, length, false, Result, Ok, Err, ◌≢◌, refl, sym, ap, ◌∙◌, lit<, lit≤, arith, length-append, append-nil, OnOk, flat_map}
use Rattle.wasm_base.proofs.Words.{unsigned_encoding, longest, size_prefixed_encoding, HasEncodableSize, any_section_encoding, joined, section_encoding, IsEncodableSection, joined_push}
use Rattle.wasm_base.proofs.NumberEncodings.{length-groups_encoding-positive}
use Rattle.wasm_base.proofs.Words.{groups_encoding-last, on_ok, ℤ, All-from_get_or, All-nil, All-push, IsEncodableVec, vec_encoding}
use Rattle.wasm_base.specs.declared.refused.Refused.{Refused}
use Rattle.wasm_base.specs.declared.refused.Refused.TheVariants.{TooLong}
use Rattle.std.specs.Prelude.{All}
use Rattle.wasm_code.proofs.Words.{expression_encoding}
use Rattle.wasm_sections.proofs.Words.{active_encoding}
use Rattle.wasm_custom.proofs.Words.{IsEncodableNamed, named_encoding, subsection_encoding, name_name}
use Rattle.wasm_tool.specs.{AreEncodableNames, constant_bytes, functions_encoding, names_of, section_of, Puts}

-- If a section fits with one more item, its count was below 2^32 - 1.
pub encodable_count : (items : List (List ℕ)) (item : List ℕ) → IsEncodableSection (items ++ item ∷ []) → length items < longest
encodable_count items item h = omega (arith, h.count, length-append items (item ∷ []))

-- An item of a section that fits is at most 2^32 - 1 bytes long.
pub encodable_item : (items : List (List ℕ)) (item : List ℕ) → IsEncodableSection (items ++ item ∷ []) → length item ≤ longest
encodable_item items item h =
    omega (arith, h.size, length-append (unsigned_encoding (length (items ++ item ∷ []))) (joined (items ++ item ∷ [])), ap length (joined_push items item), length-append (joined items) item)

-- So are the bytes in an item that is size-prefixed.
pub encodable_size_prefixed : (items : List (List ℕ)) (bytes : List ℕ) → IsEncodableSection (items ++ size_prefixed_encoding bytes ∷ []) → HasEncodableSize bytes
encodable_size_prefixed items bytes h =
    omega (arith, encodable_item items (size_prefixed_encoding bytes) h, length-append (unsigned_encoding (length bytes)) bytes)

-- So is a name at the front of an item.
pub encodable_name : (items : List (List ℕ)) (name rest : List ℕ) → IsEncodableSection (items ++ (size_prefixed_encoding name ++ rest) ∷ []) → HasEncodableSize name
encodable_name items name rest h =
    omega (arith, encodable_item items (size_prefixed_encoding name ++ rest) h, length-append (size_prefixed_encoding name) rest, length-append (unsigned_encoding (length name)) name)

-- So are the names of an import.
pub encodable_import : (items : List (List ℕ)) (from name rest : List ℕ) → IsEncodableSection (items ++ (size_prefixed_encoding from ++ (size_prefixed_encoding name ++ rest)) ∷ []) → HasEncodableSize from × HasEncodableSize name
encodable_import items from name rest h = (
  encodable_name items from (size_prefixed_encoding name ++ rest) h,
  omega (arith, encodable_item items (size_prefixed_encoding from ++ (size_prefixed_encoding name ++ rest)) h, length-append (size_prefixed_encoding from) (size_prefixed_encoding name ++ rest), length-append (size_prefixed_encoding name) rest, length-append (unsigned_encoding (length name)) name),
)

-- So are the bytes of a data segment.
pub encodable_segment : (items : List (List ℕ)) (place bytes : List ℕ) → IsEncodableSection (items ++ active_encoding 0 place bytes ∷ []) → HasEncodableSize bytes
encodable_segment items place bytes h =
    omega (arith, encodable_item items (active_encoding 0 place bytes) h, length-append (expression_encoding place) (size_prefixed_encoding bytes), length-append (unsigned_encoding (length bytes)) bytes)

-- The functions of an element segment are at most 2^32 - 1.
indices_count : (ns : List ℕ) → length ns ≤ length (flat_map unsigned_encoding ns)
indices_count [] = omega arith
indices_count (n ∷ ns) =
    omega (arith, indices_count ns, length-groups_encoding-positive false 0x80 n (lit< tt), length-append (unsigned_encoding n) (flat_map unsigned_encoding ns))

pub encodable_functions : (items : List (List ℕ)) (offset : ℤ) (ns : List ℕ) → IsEncodableSection (items ++ functions_encoding offset ns ∷ []) → IsEncodableVec (λ n. Unit {0}) ns
encodable_functions items offset ns h = record {
  count = omega (arith, encodable_item items (functions_encoding offset ns) h, indices_count ns, length-append (expression_encoding (constant_bytes offset)) (vec_encoding unsigned_encoding ns), length-append (unsigned_encoding (length ns)) (flat_map unsigned_encoding ns));
  members = All-from_get_or (λ n. Unit {0}) ns 0 (λ k l. tt);
}

-- So is the name in a subsection of a name section that fits, and the count was below 2^32 - 1.
pub names_count : (items : List (List ℕ)) (item : List ℕ) → AreEncodableNames (items ++ item ∷ []) → length items < longest
names_count items item h = omega (arith, h.count, length-append items (item ∷ []))

names_item : (items : List (List ℕ)) (item : List ℕ) → AreEncodableNames (items ++ item ∷ []) → length item ≤ longest
names_item items item h =
    omega (arith, h.size, length-append (size_prefixed_encoding name_name) (joined (items ++ item ∷ [])), ap length (joined_push items item), length-append (joined items) item)

pub names_size_prefixed : (items : List (List ℕ)) (content : List ℕ) → AreEncodableNames (items ++ subsection_encoding 0 content ∷ []) → HasEncodableSize content
names_size_prefixed items content h = omega (arith, names_item items (subsection_encoding 0 content) h, length-append (unsigned_encoding (length content)) content)

pub names_name : (items : List (List ℕ)) (name : List ℕ) → AreEncodableNames (items ++ subsection_encoding 0 (size_prefixed_encoding name) ∷ []) → HasEncodableSize name
names_name items name h = omega (arith, names_size_prefixed items (size_prefixed_encoding name) h, length-append (unsigned_encoding (length name)) name)

-- The encoding of a section that has items, and of one that has none.
pub section_of-some : (id : ℕ) (items : List (List ℕ)) → 0 < length items → flat_map any_section_encoding (section_of id items) ≡ id ∷ section_encoding items
unfolding section_encoding
section_of-some id [] h = absurd (omega arith)
section_of-some id (item ∷ items) h = append-nil (id ∷ size_prefixed_encoding (unsigned_encoding (length (item ∷ items)) ++ joined (item ∷ items)))

pub section_of-none : (id : ℕ) (items : List (List ℕ)) → length items ≡ 0 → flat_map any_section_encoding (section_of id items) ≡ []
section_of-none id [] h = refl
section_of-none id (item ∷ items) h = absurd (omega arith)

-- ---- adding a section to a module

encodable_none : (items : List (List ℕ)) → length items ≡ 0 → IsEncodableSection items
encodable_none [] h = record { count = omega arith; size = simp (groups_encoding-last false 0x80 0 (lit< tt)) (lit≤ tt) }
encodable_none (item ∷ items) h = absurd (omega arith)

pub puts_none : (id : ℕ) (items : List (List ℕ)) (old : List ℕ) → length items ≡ 0 → Puts (section_of id items) (IsEncodableSection items) old old (Ok tt)
puts_none id items old none = record {
  ok = sym (ap (λ t. old ++ t) (section_of-none id items none) ∙ append-nil old);
  was_encodable = encodable_none items none;
  too_long = λ _ e. cc;
}

pub puts_some : (id : ℕ) (items : List (List ℕ)) (old new : List ℕ) (result : Result (Unit {0}) Refused) → 0 < length items
    → OnOk result (new ≡ old ++ id ∷ section_encoding items) → OnOk result (IsEncodableSection items) → (IsEncodableSection items → result ≢ Err TooLong) → Puts (section_of id items) (IsEncodableSection items) old new result
puts_some id items old new result some ok was_encodable too_long = record {
  ok = on_ok result _ _ ok (λ e. e ∙ ap (λ t. old ++ t) (sym (section_of-some id items some)));
  was_encodable = was_encodable;
  too_long = too_long;
}

-- ---- the name section

names_encodable_none : (items : List (List ℕ)) → length items ≡ 0 → AreEncodableNames items
names_encodable_none [] h = record { count = omega arith; size = simp (groups_encoding-last false 0x80 4 (lit< tt)) (lit≤ tt) }
names_encodable_none (item ∷ items) h = absurd (omega arith)

names_of-none : (items : List (List ℕ)) → length items ≡ 0 → flat_map any_section_encoding (names_of items) ≡ []
names_of-none [] h = refl
names_of-none (item ∷ items) h = absurd (omega arith)

names_of-some : (items : List (List ℕ)) → 0 < length items → flat_map any_section_encoding (names_of items) ≡ 0 ∷ named_encoding name_name (joined items)
unfolding named_encoding
names_of-some [] h = absurd (omega arith)
names_of-some (item ∷ items) h = append-nil (0 ∷ size_prefixed_encoding (size_prefixed_encoding name_name ++ joined (item ∷ items)))

pub puts_no_names : (items : List (List ℕ)) (old : List ℕ) → length items ≡ 0 → Puts (names_of items) (AreEncodableNames items) old old (Ok tt)
puts_no_names items old none = record {
  ok = sym (ap (λ t. old ++ t) (names_of-none items none) ∙ append-nil old);
  was_encodable = names_encodable_none items none;
  too_long = λ _ e. cc;
}

pub puts_names : (items : List (List ℕ)) (old new : List ℕ) (result : Result (Unit {0}) Refused) → 0 < length items → length items ≤ longest
    → OnOk result (new ≡ old ++ 0 ∷ named_encoding name_name (joined items)) → OnOk result (IsEncodableNamed name_name (joined items)) → (IsEncodableNamed name_name (joined items) → result ≢ Err TooLong)
    → Puts (names_of items) (AreEncodableNames items) old new result
puts_names items old new result some few ok was_encodable too_long = record {
  ok = on_ok result _ _ ok (λ e. e ∙ ap (λ t. old ++ t) (sym (names_of-some items some)));
  was_encodable = on_ok result _ _ was_encodable (λ size. record { count = few; size = size });
  too_long = λ encodable. too_long encodable.size;
}

-- ---- the start section

one_encodable : (item : List ℕ) → HasEncodableSize item → All HasEncodableSize (item ∷ [])
one_encodable item encodable = All-push HasEncodableSize [] item (All-nil HasEncodableSize) encodable
