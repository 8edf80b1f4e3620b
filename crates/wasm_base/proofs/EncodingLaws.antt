-- This file proves that encodings encode their values, and decode to them alone.
use Rattle.wasm_base.proofs.Std.{◌≡◌, ℕ, zero, suc, ◌+◌, ◌-◌, ◌/◌, ◌%◌, ◌^◌, ◌<◌, ◌≤◌, ◌⊎◌, List, [], ◌∷◌, ◌++◌, length, Bool, true, false, refl, sym, ap, subst, ◌∙◌, arith, inl, inr, ℤ, pos, negsuc}
use Rattle.wasm_base.proofs.Std.{neg_ℤ, ◌+ℤ◌, ◌*ℤ◌, ◌≤ℤ◌, ◌<ℤ◌, IsUtf8, le_refl, cases_lt, ints, pow-suc, All-head, All-tail, All, AllZip, flat_map}
use Rattle.wasm_base.specs.{Mode, minimal, padded, AreGroups, groups_sum, IsUnsignedSize, signed_sum, IsMinimalSigned, next_group, last_group, groups_encoding, unsigned_encoding, signed_encoding}
use Rattle.wasm_base.specs.{standard_minimal, standard, builders, IsOfBuilders, Format, u32, u64, s32, s64, s33, byte, any_bytes, little_endian, tagged, members, vec, size_prefixed, name}
use Rattle.wasm_base.specs.{DecodesUniquely, DecodesUniquelyPadded, DecodesWhole, Unambiguous, UnambiguousWhole, HasEncodings, IsIncludedIn, longest, vec_encoding, IsEncodableVec}
use Rattle.wasm_base.specs.{size_prefixed_encoding, HasEncodableSize, little_endian_encoding, joined, section_encoding, IsEncodableSection, DecodesBack, IsSigned32InRange, IsSigned64InRange}
use Rattle.wasm_base.proofs.NumberLaws.{u32_unambiguous, one_group_more, last_of_one, single_low, single_high, signed_step}
use Rattle.wasm_base.proofs.NumberEncodings.{groups_encoding-last, groups_encoding-more}
use Rattle.wasm_base.proofs.FormatLaws.{any_bytes_whole, size_prefixed_unambiguous}

-- ---- an encoding that decodes

-- A minimal encoding is one in each mode of the builders' grammar.
pub encodes_in : {X : Type 0} {F : Format X} {encoding : List ℕ} {x : X} → Unambiguous F → F minimal encoding x → (mode : Mode) → IsOfBuilders mode → F mode encoding x
encodes_in f encodes minimal of = encodes
encodes_in {encoding = encoding} {x = x} f encodes padded of = f.encodings.included minimal padded tt encoding x encodes
encodes_in f encodes standard_minimal of = absurd of
encodes_in f encodes standard of = absurd of

encodes_standard : {X : Type 0} {F : Format X} {encoding : List ℕ} {x : X} → HasEncodings F → F minimal encoding x → F standard encoding x
encodes_standard {encoding = encoding} {x = x} k encodes = k.included padded standard tt encoding x (k.included minimal padded tt encoding x encodes)

-- The standard's padded mode has the encodings of every mode.
in_standard : {X : Type 0} {F : Format X} → HasEncodings F → (mode : Mode) → IsIncludedIn (F mode) (F standard)
in_standard k minimal s x h = k.included padded standard tt s x (k.included minimal padded tt s x h)
in_standard k padded s x h = k.included padded standard tt s x h
in_standard k standard_minimal s x h = k.included standard_minimal standard tt s x h
in_standard k standard s x h = h

pub decodes_uniquely : {X : Type 0} {F : Format X} {encoding : List ℕ} {x : X} → Unambiguous F → F minimal encoding x → DecodesUniquely F encoding x
decodes_uniquely {F = F} {encoding = encoding} {x = x} f encodes = record {
  encodes = encodes;
  unique = λ mode after y rest read.
      let same = f.unique standard encoding read.front after rest x y (encodes_standard {F = F} f.encodings encodes) (in_standard {F = F} f.encodings mode read.front y read.encodes) read.split in
      (sym same.0, sym same.2);
  one = λ other g. f.encodings.one builders other encoding x g encodes;
}

-- A possibly padded encoding of `x` decodes to `x` alone.
pub decodes_uniquely_padded : {X : Type 0} {F : Format X} {encoding : List ℕ} {x : X} → Unambiguous F → F padded encoding x → DecodesUniquelyPadded F encoding x
decodes_uniquely_padded {F = F} {encoding = encoding} {x = x} f encodes = record {
  encodes = encodes;
  unique = λ after y rest read. let same = f.unique padded encoding read.front after rest x y encodes read.encodes read.split in (sym same.0, sym same.2);
}

pub decodes_whole : {X : Type 0} {F : Format X} {encoding : List ℕ} {x : X} → UnambiguousWhole F → F minimal encoding x → DecodesWhole F encoding x
decodes_whole {F = F} {encoding = encoding} {x = x} f encodes = record {
  encodes = encodes;
  unique = λ mode y h. f.whole standard encoding y x (in_standard {F = F} f.encodings mode encoding y h) (encodes_standard {F = F} f.encodings encodes);
  one = λ other g. f.encodings.one builders other encoding x g encodes;
}

-- ---- unsigned numbers

-- The claim for the encoding of `n`.
abbrev IsEncodingOf : List ℕ → ℕ → Type 0
IsEncodingOf s n = AreGroups s × (groups_sum s ≡ n) × IsUnsignedSize minimal 0 s

one_more_group : (n : ℕ) → 128 ≤ n → (t : List ℕ) → IsEncodingOf t (n / 128) → IsEncodingOf ((n % 128 + 128) ∷ t) n
one_more_group n high t rest =
    let some : 0 < groups_sum t = omega (arith, rest.1) in
    let grown = one_group_more (n % 128) t (omega arith) rest.0 (last_of_one t rest.0 some rest.2) in
    (grown.0, omega (arith, grown.1, rest.1), inr grown.2)

unsigned_encoding-encodes : (more n : ℕ) → n ≤ more → IsEncodingOf (unsigned_encoding n) n
unsigned_encoding-encodes zero n h = subst (λ s. IsEncodingOf s n) (sym (groups_encoding-last false 128 n (omega arith))) (omega arith, omega arith, inl refl)
unsigned_encoding-encodes (suc more) n h =
    elim (cases_lt n 128) [
      | inl low ↦ subst (λ s. IsEncodingOf s n) (sym (groups_encoding-last false 128 n low)) (low, omega arith, inl refl)
      | inr high ↦
          subst (λ s. IsEncodingOf s n) (sym (groups_encoding-more false 128 n (omega arith) high))
          (one_more_group n high (unsigned_encoding (n / 128)) (unsigned_encoding-encodes more (n / 128) (omega arith)))
    ]

pub u32_encodes : (n : ℕ) → n < 2 ^ 32 → u32 minimal (unsigned_encoding n) n
u32_encodes n h = let t = unsigned_encoding-encodes n n (le_refl n) in record { groups = t.0; total = t.1; range = h; size = t.2 }

pub u32_in : (mode : Mode) (n : ℕ) → n < 2 ^ 32 → u32 mode (unsigned_encoding n) n
u32_in minimal n h = u32_encodes n h
u32_in padded n h = encodes_in {F = u32} u32_unambiguous (u32_encodes n h) padded tt
u32_in standard_minimal n h = let t = u32_encodes n h in record { groups = t.groups; total = t.total; range = t.range; size = t.size }
u32_in standard n h = encodes_standard {F = u32} u32_unambiguous.encodings (u32_encodes n h)

pub u64_encodes : (n : ℕ) → n < 2 ^ 64 → u64 minimal (unsigned_encoding n) n
u64_encodes n h = let t = unsigned_encoding-encodes n n (le_refl n) in record { groups = t.0; total = t.1; range = h; size = t.2 }

-- ---- signed numbers

-- The number that a natural number denotes, by its sign.
abbrev signed_value : Bool → ℕ → ℤ
signed_value false n = pos n
signed_value true n = negsuc n

-- Its low seven bits.
abbrev low_bits : Bool → ℕ → ℕ
low_bits false n = n % 128
low_bits true n = 127 - n % 128

abbrev IsSignedEncodingOf : List ℕ → ℤ → Type 0
IsSignedEncodingOf s v = AreGroups s × (signed_sum s ≡ v) × IsMinimalSigned s

low_small : (b : Bool) (n : ℕ) → low_bits b n < 128
low_small false n = omega arith
low_small true n = omega arith

halves : (b : Bool) (n : ℕ) → signed_value b n ≡ pos (low_bits b n) +ℤ pos 128 *ℤ signed_value b (n / 128)
halves false n = omega (arith, ints)
halves true n = omega (arith, ints)

next_group-low_bits : (b : Bool) (n : ℕ) → next_group b n ≡ low_bits b n + 128
next_group-low_bits false n = refl
next_group-low_bits true n = omega arith

last_group-encodes : (b : Bool) (n : ℕ) → n < 64 → IsSignedEncodingOf (last_group b n ∷ []) (signed_value b n)
last_group-encodes false n h = (omega arith, single_low n h, tt)
last_group-encodes true n h = (omega arith, omega (arith, ints, single_high (127 - n) (omega arith) (omega arith)), tt)

far : (b : Bool) (n : ℕ) → 64 ≤ n → (pos 64 ≤ℤ signed_value b n) ⊎ (signed_value b n <ℤ neg_ℤ (pos 64))
far false n h = inl (omega (arith, ints, h))
far true n h = inr (omega (arith, ints, h))

-- One more byte before the encoding of the higher bits.
grown : (b : Bool) (n : ℕ) (t : List ℕ) → 64 ≤ n → IsSignedEncodingOf t (signed_value b (n / 128)) → IsSignedEncodingOf ((low_bits b n + 128) ∷ t) (signed_value b n)
grown b n [] f h = absurd (h.0)
grown b n (c ∷ []) f h =
    ((omega arith, omega (arith, low_small b n), h.0), omega (arith, ints, low_small b n, halves b n, h.1, signed_step (low_bits b n + 128) c []), (zeros, ones))
  where
    zeros : c ≡ 0 → 64 ≤ (low_bits b n + 128) % 128
    zeros e = elim (far b n f) [
      | inl up ↦ omega (arith, ints, e, up, low_small b n, halves b n, h.1, single_low c (omega arith))
      | inr down ↦ omega (arith, ints, e, down, low_small b n, halves b n, h.1, single_low c (omega arith))
    ]

    ones : c ≡ 127 → (low_bits b n + 128) % 128 < 64
    ones e = elim (far b n f) [
      | inl up ↦ omega (arith, ints, e, up, low_small b n, halves b n, h.1, single_high c (omega arith) (omega arith))
      | inr down ↦ omega (arith, ints, e, down, low_small b n, halves b n, h.1, single_high c (omega arith) (omega arith))
    ]
grown b n (c ∷ d ∷ t) f h = ((omega arith, omega (arith, low_small b n), h.0), omega (arith, ints, low_small b n, halves b n, h.1, signed_step (low_bits b n + 128) c (d ∷ t)), h.2)

signed_encoding-encodes : (b : Bool) (more n : ℕ) → n ≤ more → IsSignedEncodingOf (groups_encoding b 64 n) (signed_value b n)
signed_encoding-encodes b zero n h = subst (λ s. IsSignedEncodingOf s (signed_value b n)) (sym (groups_encoding-last b 64 n (omega arith))) (last_group-encodes b n (omega arith))
signed_encoding-encodes b (suc more) n h =
    elim (cases_lt n 64) [
      | inl low ↦ subst (λ s. IsSignedEncodingOf s (signed_value b n)) (sym (groups_encoding-last b 64 n low)) (last_group-encodes b n low)
      | inr high ↦
          let encoding : groups_encoding b 64 n ≡ (low_bits b n + 128) ∷ groups_encoding b 64 (n / 128) = groups_encoding-more b 64 n (omega arith) high ∙ ap (λ d. d ∷ groups_encoding b 64 (n / 128)) (next_group-low_bits b n) in
          subst (λ s. IsSignedEncodingOf s (signed_value b n)) (sym encoding) (grown b n (groups_encoding b 64 (n / 128)) high (signed_encoding-encodes b more (n / 128) (omega arith)))
    ]

signed_encoding-encodes_of : (v : ℤ) → IsSignedEncodingOf (signed_encoding v) v
signed_encoding-encodes_of (pos n) = signed_encoding-encodes false n n (le_refl n)
signed_encoding-encodes_of (negsuc n) = signed_encoding-encodes true n n (le_refl n)

pub s32_encodes : (v : ℤ) → IsSigned32InRange v → s32 minimal (signed_encoding v) v
s32_encodes v h = let t = signed_encoding-encodes_of v in record { groups = t.0; total = t.1; above = h.0; below = h.1; size = t.2 }

pub s64_encodes : (v : ℤ) → IsSigned64InRange v → s64 minimal (signed_encoding v) v
s64_encodes v h = let t = signed_encoding-encodes_of v in record { groups = t.0; total = t.1; above = h.0; below = h.1; size = t.2 }

pub s33_encodes : (n : ℕ) → n < 2 ^ 32 → s33 minimal (signed_encoding (pos n)) n
s33_encodes n h = let t = signed_encoding-encodes_of (pos n) in record { groups = t.0; total = t.1; above = omega (arith, ints); below = omega (arith, ints, h); size = t.2 }

-- ---- size-prefixed bytes, names and vectors

-- Size-prefixed bytes encode, in each mode, the value that their payload encodes.
pub size_prefixed_in : {X : Type 0} (mode : Mode) (F : Format X) (content : List ℕ) (x : X) → HasEncodableSize content → F mode content x → size_prefixed F mode (size_prefixed_encoding content) x
size_prefixed_in mode F content x h g = record {
  front = unsigned_encoding (length content);
  content = content;
  joined = refl;
  size = u32_in mode (length content) (omega (arith, h));
  encodes = g;
}

pub size_prefixed_encodes : {X : Type 0} (F : Format X) (content : List ℕ) (x : X) → HasEncodableSize content → F minimal content x → size_prefixed F minimal (size_prefixed_encoding content) x
size_prefixed_encodes F content x h g = size_prefixed_in minimal F content x h g

pub name_encodes : (bytes : List ℕ) → IsUtf8 bytes → HasEncodableSize bytes → name minimal (size_prefixed_encoding bytes) bytes
name_encodes bytes utf8 h = (size_prefixed_encodes any_bytes bytes bytes h refl, utf8)

pub members_encodes : {X : Type 0} (F : Format X) (Encodable : X → Type 0) (encoding : X → List ℕ) → ((x : X) → Encodable x → F minimal (encoding x) x) → (xs : List X) → All Encodable xs → members F minimal (flat_map encoding xs) xs
members_encodes F Encodable encoding f [] h = refl
members_encodes F Encodable encoding f (x ∷ xs) h = (encoding x, flat_map encoding xs, refl, f x (All-head Encodable x xs h), members_encodes F Encodable encoding f xs (All-tail Encodable x xs h))

pub vec_encodes : {X : Type 0} (F : Format X) (Encodable : X → Type 0) (encoding : X → List ℕ) → ((x : X) → Encodable x → F minimal (encoding x) x) → (xs : List X) → IsEncodableVec Encodable xs → vec F minimal (vec_encoding encoding xs) xs
vec_encodes F Encodable encoding f xs h = record {
  front = unsigned_encoding (length xs);
  back = flat_map encoding xs;
  joined = refl;
  first = u32_encodes (length xs) (omega (arith, h.count));
  second = members_encodes F Encodable encoding f xs h.members;
}

-- ---- a tag byte, and numbers of fixed width

pub tagged_encodes : {X : Type 0} {G : ℕ → Format X} (mode : Mode) (b : ℕ) (s : List ℕ) (x : X) → G b mode s x → tagged byte G mode (b ∷ s) x
tagged_encodes mode b s x h = ((b, x), refl, record { front = b ∷ []; back = s; joined = refl; first = refl; second = h })

pub little_endian_encodes : (n v : ℕ) → v < 256 ^ n → little_endian n minimal (little_endian_encoding n v) v
little_endian_encodes zero v h = (omega (arith, h), tt, refl)
little_endian_encodes (suc n) v h =
    let rest = little_endian_encodes n (v / 256) (omega (arith, h, pow-suc 256 n)) in
    (omega (arith, rest.0), (omega arith, rest.1), ap suc rest.2)

-- ---- pieces, one for each item

pub joined_encodes : {X : Type 0} (mode : Mode) (F : Format X) (pieces : List (List ℕ)) (xs : List X) → AllZip (F mode) pieces xs → members F mode (joined pieces) xs
joined_encodes mode F [] [] h = refl
joined_encodes mode F [] (x ∷ xs) h = absurd h
joined_encodes mode F (p ∷ ps) [] h = absurd h
joined_encodes mode F (p ∷ ps) (x ∷ xs) h = (p, joined ps, refl, h.0, joined_encodes mode F ps xs h.1)

as_many_items : {X : Type 0} (R : List ℕ → X → Type 0) (pieces : List (List ℕ)) (xs : List X) → AllZip R pieces xs → length pieces ≡ length xs
as_many_items R [] [] h = refl
as_many_items R [] (x ∷ xs) h = absurd h
as_many_items R (p ∷ ps) [] h = absurd h
as_many_items R (p ∷ ps) (x ∷ xs) h = ap suc (as_many_items R ps xs h.1)

-- The number of pieces, then the pieces, are the vector of the items.
pub vec_of_pieces : {X : Type 0} (mode : Mode) (F : Format X) (pieces : List (List ℕ)) (xs : List X) → length pieces ≤ longest → AllZip (F mode) pieces xs → vec F mode (unsigned_encoding (length pieces) ++ joined pieces) xs
vec_of_pieces mode F pieces xs few h = record {
  front = unsigned_encoding (length pieces);
  back = joined pieces;
  joined = refl;
  first = subst (λ n. u32 mode (unsigned_encoding (length pieces)) n) (as_many_items (F mode) pieces xs h) (u32_in mode (length pieces) (omega (arith, few)));
  second = joined_encodes mode F pieces xs h;
}

section_encodes : {X : Type 0} (mode : Mode) (F : Format X) (pieces : List (List ℕ)) (xs : List X) → IsEncodableSection pieces → AllZip (F mode) pieces xs → size_prefixed (vec F) mode (section_encoding pieces) xs
unfolding section_encoding
section_encodes mode F pieces xs h g = size_prefixed_in mode (vec F) (unsigned_encoding (length pieces) ++ joined pieces) xs h.size (vec_of_pieces mode F pieces xs h.count g)

-- A counted section decodes alone to the items that its pieces encode, one each, minimally or
-- possibly padded.
pub section_unique : {X : Type 0} {F : Format X} → Unambiguous (size_prefixed (vec F)) → (pieces : List (List ℕ)) (xs : List X) → IsEncodableSection pieces → AllZip (F minimal) pieces xs → DecodesUniquely (size_prefixed (vec F)) (section_encoding pieces) xs
section_unique {F = F} f pieces xs h g = decodes_uniquely {F = size_prefixed (vec F)} f (section_encodes minimal F pieces xs h g)

pub section_unique_padded : {X : Type 0} {F : Format X} → Unambiguous (size_prefixed (vec F)) → (pieces : List (List ℕ)) (xs : List X) → IsEncodableSection pieces → AllZip (F padded) pieces xs → DecodesUniquelyPadded (size_prefixed (vec F)) (section_encoding pieces) xs
section_unique_padded {F = F} f pieces xs h g = decodes_uniquely_padded {F = size_prefixed (vec F)} f (section_encodes padded F pieces xs h g)

-- ---- a section of raw bytes

pub raw_section : (bytes : List ℕ) → HasEncodableSize bytes → DecodesBack (size_prefixed any_bytes) (λ said. said ≡ bytes) (size_prefixed_encoding bytes)
raw_section bytes h = record {
  for_each = λ said e. subst (λ x. DecodesUniquely (size_prefixed any_bytes) (size_prefixed_encoding bytes) x) (sym e) (decodes_uniquely {F = size_prefixed any_bytes} (size_prefixed_unambiguous {F = any_bytes} any_bytes_whole) (size_prefixed_encodes any_bytes bytes bytes h refl));
}
