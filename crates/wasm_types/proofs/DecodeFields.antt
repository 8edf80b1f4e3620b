-- This file proves how readers decode storage and field types.
use Rattle.wasm_base.proofs.Words.{Mode, ◌≡◌, ◌≢◌, ℕ, List, ◌++◌, Bool, true, false, refl, sym, ap, subst, ◌∙◌, append_assoc, Format, Then, byte, impossible, coded, choice, mapped, pair, Decodes}
use Rattle.wasm_base.proofs.Words.{Rejects, val_type, val_begins, IsValByte, byte_unambiguous, mapped_decodes, mapped_rejects, IsOther, tagged_decodes, tagged_none, tagged_rejects, choice_other}
use Rattle.wasm_base.proofs.Words.{fixed_decodes, code_decodes, code_none, code_unknown, no_choice, no_bytes, one_of_left, one_of_right, one_of_rejects}
use Rattle.wasm_base.specs.declared.types.ValType.{ValType}
use Rattle.wasm_types.specs.{mutable_code, storage_tags, packed_type, storage_type, field_of, field_type}
use Rattle.wasm_types.specs.declared.types.StorageType.{StorageType}
use Rattle.wasm_types.specs.declared.types.StorageType.TheVariants.{I8, I16, Val}

-- ---- one value, then another

pub first_of_both : {m : Mode} {X Y : Type 0} {F : Format X} {G : X → Format Y} {bytes rest : List ℕ} {p : X × Y} → Decodes (Then F G) m bytes p rest → (middle : List ℕ) × Decodes F m bytes p.0 middle × Decodes (G p.0) m middle p.1 rest
first_of_both {rest = rest} h =
    let s = h.encodes in
    (s.back ++ rest, record { front = s.front; split = h.split ∙ ap (λ z. z ++ rest) s.joined ∙ append_assoc s.front s.back rest; encodes = s.first }, record { front = s.back; split = refl; encodes = s.second })

-- ---- a choice of tags

-- The format that this tag selects.
pub at_tag : {m : Mode} {X : Type 0} (G : ℕ → Format X) (tag : ℕ) {b : ℕ} {bytes rest : List ℕ} {x : X} → b ≡ tag → Decodes (G tag) m bytes x rest → Decodes (G b) m bytes x rest
at_tag {m = m} G tag {bytes = bytes} {rest = rest} {x = x} e h = subst (λ c. Decodes (G c) m bytes x rest) (sym e) h

pub not_tag : {m : Mode} {X : Type 0} (G : ℕ → Format X) (tag : ℕ) {b : ℕ} {bytes : List ℕ} → b ≡ tag → Rejects (G tag) m bytes → Rejects (G b) m bytes
not_tag {m = m} G tag {bytes = bytes} e h = subst (λ c. Rejects (G c) m bytes) (sym e) h

-- The format that any other tag selects.
pub at_other : {m : Mode} {X : Type 0} (cs : List (ℕ × Format X)) (other : ℕ → Format X) {b : ℕ} {bytes rest : List ℕ} {x : X} → IsOther cs b → Decodes (other b) m bytes x rest → Decodes (choice cs other b) m bytes x rest
at_other {m = m} cs other {b = b} {bytes = bytes} {rest = rest} {x = x} p h = subst (λ F. Decodes F m bytes x rest) (sym (choice_other cs other b p)) h

pub not_other : {m : Mode} {X : Type 0} (cs : List (ℕ × Format X)) (other : ℕ → Format X) {b : ℕ} {bytes : List ℕ} → IsOther cs b → Rejects (other b) m bytes → Rejects (choice cs other b) m bytes
not_other {m = m} {X} cs other {b = b} {bytes = bytes} p h = subst (λ F. Rejects {X = X} F m bytes) (sym (choice_other cs other b p)) h

-- ---- mutability

pub unset_decodes : {m : Mode} (bytes rest : List ℕ) (b : ℕ) → Decodes byte m bytes b rest → b ≡ 0 → Decodes (coded mutable_code) m bytes false rest
unset_decodes bytes rest b h e = code_decodes mutable_code bytes rest b false h e

pub set_decodes : {m : Mode} (bytes rest : List ℕ) (b : ℕ) → Decodes byte m bytes b rest → b ≡ 1 → Decodes (coded mutable_code) m bytes true rest
set_decodes bytes rest b h e = code_decodes mutable_code bytes rest b true h e

pub mutable_none : {m : Mode} (bytes : List ℕ) → Rejects byte m bytes → Rejects (coded mutable_code) m bytes
mutable_none bytes none = code_none mutable_code bytes none

pub mutable_unknown : {m : Mode} (bytes rest : List ℕ) (b : ℕ) → Decodes byte m bytes b rest → b ≢ 0 → b ≢ 1 → Rejects (coded mutable_code) m bytes
mutable_unknown bytes rest b h p q = code_unknown mutable_code bytes rest b h (other b p q)
  where
    other : (b : ℕ) → b ≢ 0 → b ≢ 1 → (x : Bool) → b ≢ mutable_code x
    other b p q false = p
    other b p q true = q

pub ruleset mutable_steps = (unset_decodes, set_decodes, mutable_none, mutable_unknown)

-- ---- storage types

abbrev after_packed : ℕ → Format StorageType
after_packed b = choice storage_tags (λ c. impossible) b

pub storage_none : {m : Mode} (bytes : List ℕ) → Rejects byte m bytes → Rejects storage_type m bytes
storage_none bytes none = one_of_rejects (tagged_none byte after_packed bytes none) (mapped_rejects Val (no_bytes IsValByte val_type val_begins none))

pub i8_decodes : {m : Mode} (bytes rest : List ℕ) (b : ℕ) → Decodes byte m bytes b rest → b ≡ 0x78 → Decodes storage_type m bytes I8 rest
i8_decodes bytes rest b h e = one_of_left (mapped Val val_type) (tagged_decodes {G = after_packed} h (at_tag after_packed 0x78 e (fixed_decodes rest I8)))

pub i16_decodes : {m : Mode} (bytes rest : List ℕ) (b : ℕ) → Decodes byte m bytes b rest → b ≡ 0x77 → Decodes storage_type m bytes I16 rest
i16_decodes bytes rest b h e = one_of_left (mapped Val val_type) (tagged_decodes {G = after_packed} h (at_tag after_packed 0x77 e (fixed_decodes rest I16)))

pub val_decodes : {m : Mode} (bytes rest : List ℕ) (ty : ValType) → Decodes val_type m bytes ty rest → Decodes storage_type m bytes (Val ty) rest
val_decodes bytes rest ty h = one_of_right packed_type (mapped_decodes Val h)

-- If the first byte is of no packed type, only a value type can decode.
pub val_rejects : {m : Mode} (bytes rest : List ℕ) (b : ℕ) → Decodes byte m bytes b rest → b ≢ 0x78 → b ≢ 0x77 → Rejects val_type m bytes → Rejects storage_type m bytes
val_rejects bytes rest b h p q none = one_of_rejects (tagged_rejects {G = after_packed} byte_unambiguous h (no_choice storage_tags b rest (p, (q, tt)))) (mapped_rejects Val none)

pub ruleset storage_steps = (storage_none, i8_decodes, i16_decodes, val_decodes, val_rejects)

-- ---- field types

pub field_decodes : {m : Mode} (bytes rest : List ℕ) (p : StorageType × Bool) → Decodes (pair storage_type (coded mutable_code)) m bytes p rest → Decodes field_type m bytes (field_of p) rest
field_decodes bytes rest p h = mapped_decodes field_of h

pub field_none : {m : Mode} (bytes : List ℕ) → Rejects (pair storage_type (coded mutable_code)) m bytes → Rejects field_type m bytes
field_none bytes none = mapped_rejects field_of none

pub ruleset field_steps = (field_decodes, field_none)
