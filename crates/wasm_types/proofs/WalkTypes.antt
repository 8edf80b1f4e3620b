-- This file proves that a walk over types gives an effect the minimal encodings of their components.
use Rattle.wasm_base.proofs.Words.{Grammar, builders, admitted, padded_of, ◌≡◌, ◌≢◌, ℕ, pos, ◌<◌, List, [], ◌∷◌, ◌++◌, length, Bool, true, false, refl, sym, subst, append_assoc, arith, inl, inr}
use Rattle.wasm_base.proofs.Words.{is_admitted, ints, vec_u32_unambiguous, byte_unambiguous, u32_unambiguous, decodes_same, then_decodes, mapped_decodes, mapped_rejects, such_decodes, such_none, tagged_decodes, tagged_rejects, no_choice, one_of_right, one_of_rejects, coded, Format, u32, s33, byte, mapped, such, pair, choice, impossible, tagged, vec, Decodes, Rejects}
use Rattle.wasm_base.specs.Numbers.{minimal_of, unsigned_encoding, signed_encoding}
use Rattle.wasm_base.specs.Walks.{EncodesIn, TakesBytes, Walks}
use Rattle.wasm_base.proofs.DecodingSteps.{members_start, vec_decodes, then_rejects_second}
use Rattle.wasm_base.proofs.EncodingLaws.{s33_encodes, tagged_encodes}
use Rattle.wasm_base.proofs.GrammarLaws.{minimal_in, u32_canonical, s33_both}
use Rattle.wasm_base.proofs.WalkLaws.{walked_as, mapped_walks, byte_then, take_then}
use Rattle.wasm_base.proofs.TightTypes.{val_encodes_in}
use Rattle.wasm_base.proofs.Tags.{choice_other, IsOther}
use Rattle.wasm_types.specs.declared.types.StorageType.{StorageType}
use Rattle.wasm_types.specs.declared.types.StorageType.TheVariants.{I8, I16, Val}
use Rattle.wasm_types.specs.{mutable_code, field_of, field_type, storage_encoding_in, storage_type, with_index, given_index, no_index, after_describes, after_composite, composite_of, composite_type, Composite, Sub}
use Rattle.wasm_types.specs.{sub_of, alone_of, supertypes_and, HasFinalPrefix, prefixed_sub, sub_type, group, single, group_tags, group_type, type_item}
use Rattle.wasm_types.proofs.DecodeFields.{first_of_both}
use Rattle.wasm_types.proofs.DecodeItems.{prefix_listed, prefix_standard, final_list_empty, open_decodes, final_decodes, final_none, alone_reads, sub_decodes, sub_none_after, group_decodes}
use Rattle.wasm_types.proofs.TypeLaws.{after_in, alone_encodes}
use Rattle.wasm_types.proofs.MinimalTypes.{storage_is}

-- ---- fields

pub mutable_walks : {E : Type 0} (seen : E → List ℕ → Type 0) (w : Grammar) (m : Bool) (bytes rest : List ℕ) (old new : E) → Decodes (coded mutable_code) (padded_of w) bytes m rest → TakesBytes seen (mutable_code m ∷ []) old new → Walks seen w (coded mutable_code) bytes rest old new
mutable_walks seen w m bytes rest old new h t = walked_as seen w (coded mutable_code) m bytes rest (mutable_code m ∷ []) old new h refl t

storage_encodes_in : (w : Grammar) (ty : StorageType) (s : List ℕ) → storage_type (padded_of w) s ty → storage_type (minimal_of w) (storage_encoding_in w ty) ty
storage_encodes_in w I8 s h = inl (tagged_encodes (minimal_of w) 0x78 [] I8 (refl, refl))
storage_encodes_in w I16 s h = inl (tagged_encodes (minimal_of w) 0x77 [] I16 (refl, refl))
storage_encodes_in w (Val ty) s h = inr (ty, refl, val_encodes_in w ty (storage_is (padded_of w) s (Val ty) h))

pub storage_in : (w : Grammar) → EncodesIn w storage_type (λ ty. ty) (storage_encoding_in w)
storage_in w = record { minimal_in = λ s ty h. storage_encodes_in w ty s h }

pub index_walks : {E : Type 0} (seen : E → List ℕ → Type 0) (w : Grammar) (n : ℕ) (bytes rest : List ℕ) (old new : E) → Decodes s33 (padded_of w) bytes n rest → TakesBytes seen (signed_encoding (pos n)) old new → Walks seen w s33 bytes rest old new
index_walks seen w n bytes rest old new h t = walked_as seen w s33 n bytes rest (signed_encoding (pos n)) old new h (minimal_in w {F = s33} n (signed_encoding (pos n)) s33_both (s33_encodes n (omega (arith, ints, h.encodes.below)))) t

pub field_walks : {E : Type 0} {seen : E → List ℕ → Type 0} {w : Grammar} {bytes rest : List ℕ} {old new : E} → Walks seen w (pair storage_type (coded mutable_code)) bytes rest old new → Walks seen w field_type bytes rest old new
field_walks h = mapped_walks field_of h

-- ---- tags

module _ {E X : Type 0} {seen : E → List ℕ → Type 0} {w : Grammar} {bytes rest : List ℕ} {old new : E} where
  -- The format that this tag selects.
  pub tag_walks : (G : ℕ → Format X) (tag : ℕ) {b : ℕ} → b ≡ tag → Walks seen w (G tag) bytes rest old new → Walks seen w (G b) bytes rest old new
  tag_walks G tag e h = subst (λ c. Walks seen w (G c) bytes rest old new) (sym e) h

  -- The format that any other tag selects.
  pub other_walks : (cs : List (ℕ × Format X)) (other : ℕ → Format X) {b : ℕ} → IsOther cs b → Walks seen w (other b) bytes rest old new → Walks seen w (choice cs other b) bytes rest old new
  other_walks cs other {b = b} p h = subst (λ F. Walks seen w F bytes rest old new) (sym (choice_other cs other b p)) h

-- ---- an optional index, then a value

module _ {E X : Type 0} {seen : E → List ℕ → Type 0} {w : Grammar} (tag : ℕ) (F : ℕ → Format X) (here : with_index tag F tag ≡ mapped given_index (pair u32 (tagged byte F))) {bytes rest : List ℕ} {old new : E} where
  -- The index and the next byte were put, then the value that this byte selects.
  pub given_walks : {b n next : ℕ} {middle : List ℕ} {between : E} → b ≡ tag → Decodes (pair u32 byte) (padded_of w) bytes (n, next) middle → TakesBytes seen (unsigned_encoding n ++ next ∷ []) old between → Walks seen w (F next) middle rest between new → Walks seen w (with_index tag F b) bytes rest old new
  given_walks {n = n} {next = next} {middle = middle} {between = between} e h t g =
      let parts = first_of_both h in
      let both : Walks seen w (pair u32 (tagged byte F)) bytes rest old new = record {
        value = (n, g.value);
        decoded = then_decodes parts.1 (tagged_decodes {G = F} parts.2 g.decoded);
        encoding = (unsigned_encoding n ++ next ∷ []) ++ g.encoding;
        encodes = record {
          front = unsigned_encoding n;
          back = next ∷ g.encoding;
          joined = append_assoc (unsigned_encoding n) (next ∷ []) g.encoding;
          first = u32_canonical.minimal_in w parts.1.front n parts.1.encodes;
          second = tagged_encodes {G = F} (minimal_of w) next g.encoding g.value g.encodes;
        };
        taken = take_then seen (unsigned_encoding n ++ next ∷ []) g.encoding old between new t g.taken;
      } in
      tag_walks (with_index tag F) tag e (subst (λ G. Walks seen w G bytes rest old new) (sym here) (mapped_walks given_index both))

  pub absent_walks : {b : ℕ} → b ≢ tag → Walks seen w (F b) bytes rest old new → Walks seen w (with_index tag F b) bytes rest old new
  absent_walks p h = other_walks ((tag, mapped given_index (pair u32 (tagged byte F))) ∷ []) (λ c. mapped no_index (F c)) (p, tt) (mapped_walks no_index h)

-- ---- composite types

module _ {E : Type 0} {seen : E → List ℕ → Type 0} {w : Grammar} {bytes rest : List ℕ} {old new : E} where
  pub shared_walks : {b next : ℕ} {middle : List ℕ} {between : E} → b ≡ 0x65 → Decodes byte (padded_of w) bytes next middle → TakesBytes seen (next ∷ []) old between → Walks seen w (after_describes next) middle rest between new → Walks seen w (after_composite b) bytes rest old new
  shared_walks {next = next} e h t g = tag_walks after_composite 0x65 e (mapped_walks (composite_of true) (byte_then h t after_describes g))

  pub unshared_walks : {b : ℕ} → b ≢ 0x65 → Walks seen w (after_describes b) bytes rest old new → Walks seen w (after_composite b) bytes rest old new
  unshared_walks p h = other_walks ((0x65, mapped (composite_of true) (tagged byte after_describes)) ∷ []) (λ c. mapped (composite_of false) (after_describes c)) (p, tt) (mapped_walks (composite_of false) h)

-- ---- subtypes

-- The builders' minimal encoding is that of each grammar, and each grammar decodes its own padded
-- encodings.
sub_minimal : (w : Grammar) (x : Sub) (encoding : List ℕ) → prefixed_sub builders (minimal_of w) encoding x → sub_type (minimal_of w) encoding x
sub_minimal builders x encoding g = g
sub_minimal admitted x encoding g = g

module _ {E : Type 0} {seen : E → List ℕ → Type 0} {w : Grammar} {bytes rest : List ℕ} {old new : E} where
  sub_walked : (x : Sub) (encoding : List ℕ) → Decodes sub_type (padded_of w) bytes x rest → prefixed_sub builders (minimal_of w) encoding x → TakesBytes seen encoding old new → Walks seen w sub_type bytes rest old new
  sub_walked x encoding h g t = walked_as seen w sub_type x bytes rest encoding old new h (sub_minimal w x encoding g) t

  -- An open subtype: 0x50, supertypes and a composite type.
  pub open_walks : {b : ℕ} {middle : List ℕ} {between : E} → Decodes byte (padded_of w) bytes b middle → b ≡ 0x50 → TakesBytes seen (b ∷ []) old between → Walks seen w supertypes_and middle rest between new → Walks seen w sub_type bytes rest old new
  open_walks {b = b} {between = between} h e t g =
      sub_walked (sub_of false g.value) (0x50 ∷ g.encoding)
      (sub_decodes h (open_decodes w e g.decoded))
      (tagged_encodes {G = after_in builders} (minimal_of w) 0x50 g.encoding (sub_of false g.value) (g.value, refl, g.encodes))
      (take_then seen (0x50 ∷ []) g.encoding old between new (subst (λ z. TakesBytes seen (z ∷ []) old between) e t) g.taken)

  -- A composite type alone.
  pub alone_walks : {b : ℕ} {middle : List ℕ} {between : E} → Decodes byte (padded_of w) bytes b middle → b ≢ 0x50 → b ≢ 0x4F → TakesBytes seen (b ∷ []) old between → Walks seen w (after_composite b) middle rest between new → Walks seen w sub_type bytes rest old new
  alone_walks {b = b} {between = between} h p q t g =
      sub_walked (alone_of g.value) (b ∷ g.encoding)
      (sub_decodes h (alone_reads w p q refl g.decoded))
      (alone_encodes (minimal_of w) (b ∷ g.encoding) g.value (tagged_encodes {G = after_composite} (minimal_of w) b g.encoding g.value g.encodes))
      (take_then seen (b ∷ []) g.encoding old between new t g.taken)

-- The count of the supertypes is the number that was decoded at the front.
count_is : (w : Grammar) {bytes after rest : List ℕ} {n : ℕ} {p : List ℕ × Composite} → Decodes u32 (padded_of w) bytes n after → Decodes supertypes_and (padded_of w) bytes p rest → n ≡ length p.0
count_is w h g =
    let list = first_of_both g in
    let count = first_of_both (record { front = list.1.front; split = list.1.split; encodes = list.1.encodes }) in
    (decodes_same u32_unambiguous h count.1).0

module _ {E : Type 0} {seen : E → List ℕ → Type 0} {w : Grammar} {n : ℕ} {bytes after rest : List ℕ} {old new : E} (h : Decodes u32 (padded_of w) bytes n after) where
  -- A final subtype with supertypes: 0x4F, which precedes the bytes, supertypes and a composite type.
  pub final_walks : {between : E} → 0 < n → TakesBytes seen (0x4F ∷ []) old between → Walks seen w supertypes_and bytes rest between new → Walks seen w sub_type (0x4F ∷ bytes) rest old new
  final_walks {between = between} l t g =
      let some : 0 < length g.value.0 = omega (arith, l, count_is w h g.decoded) in
      let first : Decodes byte (padded_of w) (0x4F ∷ bytes) 0x4F bytes = record { front = 0x4F ∷ []; split = refl; encodes = refl } in
      sub_walked (sub_of true g.value) (0x4F ∷ g.encoding)
      (sub_decodes first (final_decodes w refl (such_decodes (HasFinalPrefix w) g.decoded (prefix_listed w g.value.0 g.value.1 (λ z. omega (arith, some, z))))))
      (tagged_encodes {G = after_in builders} (minimal_of w) 0x4F g.encoding (sub_of true g.value) (g.value, refl, (g.encodes, some)))
      (take_then seen (0x4F ∷ []) g.encoding old between new t g.taken)

  -- A final subtype without supertypes, in the standard's grammar: the composite type alone.
  pub empty_walks : {r : Bool} → n ≡ 0 → r ≡ is_admitted w → r ≡ true → Walks seen w composite_type after rest old new → Walks seen w sub_type (0x4F ∷ bytes) rest old new
  empty_walks {r = r} e is f g =
      let none : Decodes (vec u32) (padded_of w) bytes [] after = vec_decodes u32 h (members_start u32 (padded_of w) after) (sym e) in
      let first : Decodes byte (padded_of w) (0x4F ∷ bytes) 0x4F bytes = record { front = 0x4F ∷ []; split = refl; encodes = refl } in
      sub_walked (alone_of g.value) g.encoding
      (sub_decodes first (final_decodes w refl (such_decodes (HasFinalPrefix w) (then_decodes none g.decoded) (prefix_standard w [] g.value r is f))))
      (alone_encodes (minimal_of w) g.encoding g.value g.encodes)
      g.taken

-- Without supertypes, nothing decodes in the builders' grammar.
pub empty_rejects : (w : Grammar) {n : ℕ} {r : Bool} {bytes after : List ℕ} → Decodes u32 (padded_of w) bytes n after → n ≡ 0 → r ≡ is_admitted w → r ≡ false → Rejects sub_type (padded_of w) (0x4F ∷ bytes)
empty_rejects w {r = r} {bytes = bytes} {after = after} h e is f = final_rejects (final_list_empty w [] r (vec_decodes u32 h (members_start u32 (padded_of w) after) (sym e)) is f refl)
  where
    final_rejects : Rejects (such (HasFinalPrefix w) supertypes_and) (padded_of w) bytes → Rejects sub_type (padded_of w) (0x4F ∷ bytes)
    final_rejects none = sub_none_after (record { front = 0x4F ∷ []; split = refl; encodes = refl }) (final_none w refl none)

-- No supertypes and composite type follow the byte 0x4F.
pub final_not : (w : Grammar) {bytes : List ℕ} → Rejects supertypes_and (padded_of w) bytes → Rejects sub_type (padded_of w) (0x4F ∷ bytes)
final_not w none = sub_none_after (record { front = 0x4F ∷ []; split = refl; encodes = refl }) (final_none w refl (such_none (HasFinalPrefix w) none))

-- No composite type follows the empty list of supertypes.
pub empty_not : (w : Grammar) {n : ℕ} {bytes after : List ℕ} → Decodes u32 (padded_of w) bytes n after → n ≡ 0 → Rejects composite_type (padded_of w) after → Rejects sub_type (padded_of w) (0x4F ∷ bytes)
empty_not w {after = after} h e none = final_not w (then_rejects_second vec_u32_unambiguous (vec_decodes u32 {xs = []} h (members_start u32 (padded_of w) after) (sym e)) none)

-- ---- entries

module _ {E : Type 0} {seen : E → List ℕ → Type 0} {w : Grammar} {bytes rest : List ℕ} {old new : E} where
  pub group_walks : {b : ℕ} {middle : List ℕ} {between : E} → Decodes byte (padded_of w) bytes b middle → b ≡ 0x4E → TakesBytes seen (b ∷ []) old between → Walks seen w (vec sub_type) middle rest between new → Walks seen w type_item bytes rest old new
  group_walks {between = between} h e t g =
      walked_as seen w type_item (group g.value) bytes rest (0x4E ∷ g.encoding) old new (group_decodes h e g.decoded)
      (inl (tagged_encodes {G = λ c. choice group_tags (λ d. impossible) c} (minimal_of w) 0x4E g.encoding (group g.value) (g.value, refl, g.encodes)))
      (take_then seen (0x4E ∷ []) g.encoding old between new (subst (λ z. TakesBytes seen (z ∷ []) old between) e t) g.taken)

  pub single_walks : Walks seen w sub_type bytes rest old new → Walks seen w type_item bytes rest old new
  single_walks g = walked_as seen w type_item (single g.value) bytes rest g.encoding old new (one_of_right group_type (mapped_decodes single g.decoded)) (inr (g.value, refl, g.encodes)) g.taken

-- No entry begins with a byte other than 0x4E if no subtype does.
pub single_not : (w : Grammar) {b : ℕ} {bytes middle : List ℕ} → Decodes byte (padded_of w) bytes b middle → b ≢ 0x4E → Rejects sub_type (padded_of w) bytes → Rejects type_item (padded_of w) bytes
single_not w {b = b} {middle = middle} h p none = one_of_rejects (tagged_rejects {G = λ c. choice group_tags (λ d. impossible) c} byte_unambiguous h (no_choice group_tags b middle (p, tt))) (mapped_rejects single none)
