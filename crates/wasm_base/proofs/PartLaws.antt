-- This file proves that the encodings of an item's fields encode the fields.
use Rattle.wasm_base.proofs.Std.{◌≡◌, ℕ, List, ◌++◌, length, ◌<◌, [], ◌∷◌, Bool, true, false, Option, Some, None, IsUtf8, refl, sym, ap, subst, ◌∙◌, arith, length-append, IfSome}
use Rattle.wasm_base.specs.{Format, u32, byte, name, pair, tagged, prefixed, optional, numbered, vec, members, is_given, Mode, minimal, unsigned_encoding, size_prefixed_encoding, HasEncodableSize}
use Rattle.wasm_base.specs.{optional_encoding, Unambiguous, BeginsWith}
use Rattle.wasm_base.proofs.NumberLaws.{u32_unambiguous}
use Rattle.wasm_base.proofs.NumberEncodings.{groups_encoding-last}
use Rattle.wasm_base.proofs.EncodingLaws.{name_encodes, u32_encodes}

pub pair_in : {X Y : Type 0} (mode : Mode) (F : Format X) (G : Format Y) (front back : List ℕ) (x : X) (y : Y) → F mode front x → G mode back y → pair F G mode (front ++ back) (x, y)
pair_in mode F G front back x y h g = record { front = front; back = back; joined = refl; first = h; second = g }

pub pair_encodes : {X Y : Type 0} (F : Format X) (G : Format Y) (front back : List ℕ) (x : X) (y : Y) → F minimal front x → G minimal back y → pair F G minimal (front ++ back) (x, y)
pair_encodes F G front back x y h g = pair_in minimal F G front back x y h g

-- A name at the front of bytes that fit is encoded.
pub front_name_encodes : (bytes rest : List ℕ) → IsUtf8 bytes → HasEncodableSize (size_prefixed_encoding bytes ++ rest) → name minimal (size_prefixed_encoding bytes) bytes
front_name_encodes bytes rest utf8 encodable = name_encodes bytes utf8 (omega (arith, encodable, length-append (size_prefixed_encoding bytes) rest, length-append (unsigned_encoding (length bytes)) bytes))

pub optional_encodes : {X : Type 0} (F : Format X) (Encodable : X → Type 0) (encoding : X → List ℕ) → ((x : X) → Encodable x → F minimal (encoding x) x) → (part : Option X) → IfSome part Encodable
    → optional (is_given part) F minimal (optional_encoding encoding part) part
optional_encodes F Encodable encoding f None encodable = (refl, refl)
optional_encodes F Encodable encoding f (Some x) encodable = (x, refl, f x encodable)

-- An optional field determines its flag.
pub optional_determines : {X : Type 0} (F : Format X) (given : Bool) (mode : Mode) (s : List ℕ) (part : Option X) → optional given F mode s part → given ≡ is_given part
optional_determines F true mode s None h = absurd (cc (h.1))
optional_determines F true mode s (Some x) h = refl
optional_determines F false mode s None h = refl
optional_determines F false mode s (Some x) h = absurd (cc (h.1))

-- A numeric code that determines its value is unambiguous.
pub numbered_unambiguous : {X : Type 0} (code : X → ℕ) (decode : ℕ → X) → ((x : X) → decode (code x) ≡ x) → Unambiguous (numbered code)
numbered_unambiguous code decode back = record {
  unique = λ mode s t r q x y h g e. let a = u32_unambiguous.unique mode s t r q (code x) (code y) h g e in (sym (back x) ∙ ap decode a.0 ∙ back y, a.1, a.2);
  encodings = record {
    one = λ w s t x h g. u32_unambiguous.encodings.one w s t (code x) h g;
    included = λ m n below s x h. u32_unambiguous.encodings.included m n below s (code x) h;
    shorter = λ w s x h. u32_unambiguous.encodings.shorter w s (code x) h;
  };
}

-- A number below 128 is one byte.
pub flag_encodes : (n : ℕ) → n < 128 → u32 minimal (n ∷ []) n
flag_encodes n h = subst (λ s. u32 minimal s n) (groups_encoding-last false 0x80 n h) (u32_encodes n (omega (arith, h)))

each_encodes : (bytes : List ℕ) → members byte minimal bytes bytes
each_encodes [] = refl
each_encodes (b ∷ bytes) = (b ∷ [], bytes, refl, refl, each_encodes bytes)

-- Size-prefixed bytes are the vector of these bytes.
pub bytes_encodes : (bytes : List ℕ) → HasEncodableSize bytes → vec byte minimal (size_prefixed_encoding bytes) bytes
bytes_encodes bytes encodable = record { front = unsigned_encoding (length bytes); back = bytes; joined = refl; first = u32_encodes (length bytes) (omega (arith, encodable)); second = each_encodes bytes }

-- Fixed bytes, then an encoding of `x`, encode `x` after these bytes.
pub prefixed_encodes : {X : Type 0} (bytes : List ℕ) (F : Format X) (back : List ℕ) (x : X) → F minimal back x → prefixed bytes F minimal (bytes ++ back) x
prefixed_encodes bytes F back x h = ((tt, x), refl, record { front = bytes; back = back; joined = refl; first = (refl, refl); second = h })

-- A value after a tag of one byte has a nonempty encoding.
pub tagged_begins : {X : Type 0} {G : ℕ → Format X} → BeginsWith (λ b. Unit {0}) (tagged byte G)
tagged_begins mode s x h = (h.0.0, h.2.back, h.2.joined ∙ ap (λ z. z ++ h.2.back) h.2.first, tt)
