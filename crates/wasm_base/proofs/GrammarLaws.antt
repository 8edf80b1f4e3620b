-- This file proves of which formats the builders' minimal encodings are minimal in both grammars.
use Rattle.wasm_base.proofs.Std.{ℕ, ◌^◌, ◌<◌, List, [], ◌∷◌, length, Bool, true, false, Some, None, eqb, inl, inr, refl, subst, arith, IsUtf8}
use Rattle.wasm_base.specs.{minimal, standard_minimal, Unsigned, Signed, Format, u32, u64, s32, s64, s33, byte, raw_bytes, any_bytes, little_endian, fixed, impossible, such, when, mapped}
use Rattle.wasm_base.specs.{Then, pair, tagged, choice, prefixed, members, vec, size_prefixed, optional, one_of, coded, numbered, name, vector_format, unsigned_encoding, Grammar, builders, admitted, minimal_of, padded_of}
use Rattle.wasm_base.specs.{IsIncludedIn, EncodesMinimally, HasEncodableSize, size_prefixed_encoding, signed_encoding, IsSigned32InRange, IsSigned64InRange}
use Rattle.wasm_base.proofs.FormatLaws.{AllValues}
use Rattle.wasm_base.proofs.EncodingLaws.{u32_encodes, s32_encodes, s64_encodes, name_encodes, size_prefixed_encodes}

-- The minimal encodings of the builders' grammar are minimal in the standard's too.
pub record AreMinimalInBoth {X : Type 0} (F : Format X) : Type 0 where
  pub same : IsIncludedIn (F minimal) (F standard_minimal)

-- An encoding that is minimal in the builders' grammar is minimal in each.
pub minimal_in : {X : Type 0} (w : Grammar) {F : Format X} (x : X) (encoding : List ℕ) → AreMinimalInBoth F → F minimal encoding x → F (minimal_of w) encoding x
minimal_in builders x encoding k h = h
minimal_in admitted x encoding k h = k.same encoding x h

-- ---- numbers

pub unsigned_both : (bits : ℕ) → AreMinimalInBoth (λ mode. Unsigned mode bits)
unsigned_both bits = record { same = λ s x h. record { groups = h.groups; total = h.total; range = h.range; size = h.size } }

pub signed_both : (bits : ℕ) → AreMinimalInBoth (λ mode. Signed mode bits)
signed_both bits = record { same = λ s x h. record { groups = h.groups; total = h.total; above = h.above; below = h.below; size = h.size } }

pub u32_both : AreMinimalInBoth u32
u32_both = unsigned_both 32

pub u64_both : AreMinimalInBoth u64
u64_both = unsigned_both 64

pub s32_both : AreMinimalInBoth s32
s32_both = signed_both 32

pub s64_both : AreMinimalInBoth s64
s64_both = signed_both 64

pub s33_both : AreMinimalInBoth s33
s33_both = record { same = λ s x h. record { groups = h.groups; total = h.total; above = h.above; below = h.below; size = h.size } }

-- ---- bytes

pub byte_both : AreMinimalInBoth byte
byte_both = record { same = λ s x h. h }

pub raw_bytes_both : (n : ℕ) → AreMinimalInBoth (raw_bytes n)
raw_bytes_both n = record { same = λ s x h. h }

pub any_bytes_both : AreMinimalInBoth any_bytes
any_bytes_both = record { same = λ s x h. h }

pub little_endian_both : (n : ℕ) → AreMinimalInBoth (little_endian n)
little_endian_both n = record { same = λ s x h. h }

pub vector_both : AreMinimalInBoth vector_format
vector_both = record { same = λ s x h. h }

pub fixed_both : {X : Type 0} (bytes : List ℕ) (v : X) → AreMinimalInBoth (fixed bytes v)
fixed_both bytes v = record { same = λ s x h. h }

pub impossible_both : {X : Type 0} → AreMinimalInBoth (impossible {X = X})
impossible_both = record { same = λ s x h. h }

pub coded_both : {X : Type 0} (code : X → ℕ) → AreMinimalInBoth (coded code)
coded_both code = record { same = λ s x h. h }

pub numbered_both : {X : Type 0} (code : X → ℕ) → AreMinimalInBoth (numbered code)
numbered_both code = let both : AreMinimalInBoth u32 = u32_both in record { same = λ s x h. both.same s (code x) h }

-- ---- combinators

pub such_both : {X : Type 0} (P : X → Type 0) {F : Format X} → AreMinimalInBoth F → AreMinimalInBoth (such P F)
such_both P {F} k = record { same = λ s x h. (k.same s x h.0, h.1) }

pub when_both : {X : Type 0} (test : Bool) {F G : Format X} → AreMinimalInBoth F → AreMinimalInBoth G → AreMinimalInBoth (when test F G)
when_both true {F} {G} k l = k
when_both false {F} {G} k l = l

pub mapped_both : {X Y : Type 0} (f : X → Y) {F : Format X} → AreMinimalInBoth F → AreMinimalInBoth (mapped f F)
mapped_both f {F} k = record { same = λ s y h. (h.0, h.1, k.same s h.0 h.2) }

pub then_both : {X Y : Type 0} {F : Format X} {G : X → Format Y} → AreMinimalInBoth F → ((x : X) → AreMinimalInBoth (G x)) → AreMinimalInBoth (Then F G)
then_both {F} {G} k l = record { same = λ s x h. record { front = h.front; back = h.back; joined = h.joined; first = k.same h.front x.0 h.first; second = (l x.0).same h.back x.1 h.second } }

pub pair_both : {X Y : Type 0} {F : Format X} {G : Format Y} → AreMinimalInBoth F → AreMinimalInBoth G → AreMinimalInBoth (pair F G)
pair_both {F} {G} k l = then_both k (λ x. l)

pub tagged_both : {X Y : Type 0} {F : Format X} {G : X → Format Y} → AreMinimalInBoth F → ((x : X) → AreMinimalInBoth (G x)) → AreMinimalInBoth (tagged F G)
tagged_both {F} {G} k l = mapped_both (λ x. x.1) (then_both k l)

pub prefixed_both : {X : Type 0} (bytes : List ℕ) {F : Format X} → AreMinimalInBoth F → AreMinimalInBoth (prefixed bytes F)
prefixed_both bytes {F} k = tagged_both (fixed_both bytes (tt {0})) (λ u. k)

-- The same of all formats that the tags select.
abbrev pub AllMinimalInBoth : {X : Type 0} → List (ℕ × Format X) → Type 0
AllMinimalInBoth [] = Unit {0}
AllMinimalInBoth (c ∷ cs) = AreMinimalInBoth c.1 × AllMinimalInBoth cs

pub choice_both : {X : Type 0} (cs : List (ℕ × Format X)) (other : ℕ → Format X) → AllMinimalInBoth cs → ((b : ℕ) → AreMinimalInBoth (other b)) → (b : ℕ) → AreMinimalInBoth (choice cs other b)
choice_both [] other all k b = k b
choice_both (c ∷ cs) other all k b = when_both (eqb b c.0) all.0 (choice_both cs other all.1 k b)

-- A tag byte, and the value whose format the tag selects.
pub choices_both : {X : Type 0} (cs : List (ℕ × Format X)) → AllMinimalInBoth cs → AreMinimalInBoth (tagged byte (choice cs (λ b. impossible)))
choices_both cs all = tagged_both byte_both (choice_both cs (λ b. impossible) all (λ b. impossible_both))

pub one_of_both : {X : Type 0} {F G : Format X} → AreMinimalInBoth F → AreMinimalInBoth G → AreMinimalInBoth (one_of F G)
one_of_both {X} {F} {G} k l = record { same = same }
  where
    same : IsIncludedIn (one_of F G minimal) (one_of F G standard_minimal)
    same s x (inl h) = inl (k.same s x h)
    same s x (inr h) = inr (l.same s x h)

pub optional_both : {X : Type 0} (flag : Bool) {F : Format X} → AreMinimalInBoth F → AreMinimalInBoth (optional flag F)
optional_both flag {F} k = when_both flag (mapped_both Some k) (fixed_both [] None)

pub members_both : {X : Type 0} {F : Format X} → AreMinimalInBoth F → AreMinimalInBoth (members F)
members_both {X} {F} k = record { same = same }
  where
    same : IsIncludedIn (members F minimal) (members F standard_minimal)
    same s [] h = h
    same s (x ∷ xs) h = (h.0, h.1, h.2, k.same h.0 x h.3, same h.1 xs h.4)

pub vec_both : {X : Type 0} {F : Format X} → AreMinimalInBoth F → AreMinimalInBoth (vec F)
vec_both {X} {F} k = let both : AreMinimalInBoth (Then u32 (λ n. members F)) = then_both u32_both (λ n. members_both k) in record { same = λ s xs h. both.same s (length xs, xs) h }

pub size_prefixed_both : {X : Type 0} {F : Format X} → AreMinimalInBoth F → AreMinimalInBoth (size_prefixed F)
size_prefixed_both {F} k = let number : AreMinimalInBoth u32 = u32_both in record { same = λ s x h. record { front = h.front; content = h.content; joined = h.joined; size = number.same h.front (length h.content) h.size; encodes = k.same h.content x h.encodes } }

pub name_both : AreMinimalInBoth name
name_both = such_both IsUtf8 (size_prefixed_both any_bytes_both)

-- ---- encodings

-- All decoded values have the property, and the encoding of each such value is minimal in the
-- builders' grammar, so in both.
pub canonical_by : {T X : Type 0} {F : Format X} (view : T → X) (encoding : T → List ℕ) (Q : X → Type 0) → AllValues Q F → ((x : T) → Q (view x) → F minimal (encoding x) (view x)) → AreMinimalInBoth F → EncodesMinimally F view encoding
canonical_by view encoding Q all encodes k = record { minimal_in = λ w s x h. minimal_in w (view x) (encoding x) k (encodes x (all (padded_of w) s (view x) h)) }

pub u32_canonical : EncodesMinimally u32 (λ n. n) unsigned_encoding
u32_canonical = canonical_by (λ n. n) unsigned_encoding (λ n. n < 2 ^ 32) (λ mode s n h. h.range) u32_encodes u32_both

pub s32_canonical : EncodesMinimally s32 (λ n. n) signed_encoding
s32_canonical = canonical_by (λ n. n) signed_encoding IsSigned32InRange (λ mode s n h. (h.above, h.below)) s32_encodes s32_both

pub s64_canonical : EncodesMinimally s64 (λ n. n) signed_encoding
s64_canonical = canonical_by (λ n. n) signed_encoding IsSigned64InRange (λ mode s n h. (h.above, h.below)) s64_encodes s64_both

pub byte_canonical : EncodesMinimally byte (λ b. b) (λ b. b ∷ [])
byte_canonical = canonical_by (λ b. b) (λ b. b ∷ []) (λ b. Unit {0}) (λ mode s b h. tt) (λ b h. refl) byte_both

-- A name is UTF-8, and its length is below 2^32.
abbrev IsName : List ℕ → Type 0
IsName bytes = IsUtf8 bytes × HasEncodableSize bytes

name_is : AllValues IsName name
name_is mode s bytes h = (h.1, subst HasEncodableSize h.0.encodes (omega (arith, h.0.size.range)))

-- The encoding of a decoded name is minimal.
pub name_canonical : EncodesMinimally name (λ n. n) size_prefixed_encoding
name_canonical = canonical_by (λ n. n) size_prefixed_encoding IsName name_is (λ n h. name_encodes n h.0 h.1) name_both

-- The length of size-prefixed bytes is below 2^32.
bytes_are : AllValues HasEncodableSize (size_prefixed any_bytes)
bytes_are mode s bytes h = subst HasEncodableSize h.encodes (omega (arith, h.size.range))

-- The encoding of decoded size-prefixed bytes is minimal.
pub bytes_canonical : EncodesMinimally (size_prefixed any_bytes) (λ b. b) size_prefixed_encoding
bytes_canonical = canonical_by (λ b. b) size_prefixed_encoding HasEncodableSize bytes_are (λ b h. size_prefixed_encodes any_bytes b b h refl) (size_prefixed_both any_bytes_both)
