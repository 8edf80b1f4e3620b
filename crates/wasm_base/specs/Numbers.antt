-- This file defines LEB128, the encoding of numbers: groups of seven bits, one in each byte, the
-- least significant group first. Core specification, Binary Format, Values, Integers.
use Rattle.std.specs.Prelude.{◌≡◌, ℕ, zero, suc, Bool, true, false, negsuc, ◌+◌, ◌-◌, ◌*◌, ◌/◌, ◌%◌, ◌^◌, ◌<◌, ◌≤◌, ◌⊎◌, List, [], ◌∷◌, length, ℤ, pos, neg_ℤ, ◌-ℤ◌, ◌≤ℤ◌, ◌<ℤ◌, nat_lt, if◌then◌else◌}

-- The mode of an encoding. In the builders' grammar `minimal` is minimal LEB128 and `padded` may be
-- padded; in the standard's grammar `standard_minimal` and `standard` are these two.
pub data Mode : Type 0 where
  minimal : Mode
  padded : Mode
  standard_minimal : Mode
  standard : Mode

-- The two grammars: the encodings that builders write, and all that the standard admits.
pub data Grammar : Type 0 where
  builders : Grammar
  admitted : Grammar

-- The mode of minimal LEB128 in each grammar.
abbrev pub minimal_of : Grammar → Mode
minimal_of builders = minimal
minimal_of admitted = standard_minimal

-- The mode of possibly padded LEB128 in each grammar.
abbrev pub padded_of : Grammar → Mode
padded_of builders = padded
padded_of admitted = standard

-- Whether a grammar has all that the standard admits.
abbrev pub is_admitted : Grammar → Bool
is_admitted builders = false
is_admitted admitted = true

-- The pairs of modes for which a format promises that the second admits every encoding of the
-- first.
abbrev pub Below : Mode → Mode → Type 0
Below minimal padded = Unit {0}
Below standard_minimal standard = Unit {0}
Below padded standard = Unit {0}
Below _ _ = ⊥

-- A mode of the builders' grammar.
abbrev pub IsOfBuilders : Mode → Type 0
IsOfBuilders minimal = Unit {0}
IsOfBuilders padded = Unit {0}
IsOfBuilders _ = ⊥

-- The bytes are LEB128 groups: bit 7 is set in every byte except the last.
abbrev pub AreGroups : List ℕ → Type 0
AreGroups [] = ⊥
AreGroups (b ∷ []) = b < 0x80
AreGroups (b ∷ c ∷ bs) = (0x80 ≤ b) × (b < 0x100) × AreGroups (c ∷ bs)

-- The sum of the low seven bits of each byte: those at offset i have weight 128^i.
abbrev pub groups_sum : List ℕ → ℕ
groups_sum [] = 0
groups_sum (b ∷ bs) = b % 128 + 128 * groups_sum bs

-- The last of the bytes, and 0 if there is none.
abbrev pub last_byte : List ℕ → ℕ
last_byte [] = 0
last_byte (b ∷ []) = b
last_byte (b ∷ c ∷ bs) = last_byte (c ∷ bs)

-- The most bytes that an encoding of this many bits has: 5 for 32 and 33 bits, 10 for 64.
abbrev pub byte_limit : ℕ → ℕ
byte_limit bits = (bits + 6) / 7

-- The length of an unsigned encoding. Minimal: one byte, or a last byte that is not 00. Padded: at
-- most `byte_limit` bytes.
abbrev pub IsUnsignedSize : Mode → ℕ → List ℕ → Type 0
IsUnsignedSize minimal bits s = (length s ≡ 1) ⊎ (0 < last_byte s)
IsUnsignedSize padded bits s = length s ≤ byte_limit bits
IsUnsignedSize standard_minimal bits s = (length s ≡ 1) ⊎ (0 < last_byte s)
IsUnsignedSize standard bits s = length s ≤ byte_limit bits

-- Unsigned LEB128: the bytes `s` encode the number `v` of at most this many bits.
pub record Unsigned (mode : Mode) (bits : ℕ) (s : List ℕ) (v : ℕ) : Type 0 where
  pub groups : AreGroups s
  pub total : groups_sum s ≡ v
  pub range : v < 2 ^ bits
  pub size : IsUnsignedSize mode bits s

-- The signed sum in two's complement: bit 6 of the last byte is the sign.
abbrev pub signed_sum : List ℕ → ℤ
signed_sum s = if nat_lt (last_byte s) 0x40 then pos (groups_sum s) else (pos (groups_sum s) -ℤ pos (128 ^ length s))

-- The last byte is needed: it is 00 only after a byte with bit 6 set, and 7F only after one with
-- bit 6 clear.
abbrev pub IsMinimalSigned : List ℕ → Type 0
IsMinimalSigned (b ∷ c ∷ []) = (c ≡ 0x00 → 0x40 ≤ b % 128) × (c ≡ 0x7F → b % 128 < 0x40)
IsMinimalSigned (b ∷ c ∷ d ∷ bs) = IsMinimalSigned (c ∷ d ∷ bs)
IsMinimalSigned _ = Unit {0}

-- The length of a signed encoding. Minimal: the last byte is needed. Padded: at most `byte_limit`
-- bytes.
abbrev pub IsSignedSize : Mode → ℕ → List ℕ → Type 0
IsSignedSize minimal bits s = IsMinimalSigned s
IsSignedSize padded bits s = length s ≤ byte_limit bits
IsSignedSize standard_minimal bits s = IsMinimalSigned s
IsSignedSize standard bits s = length s ≤ byte_limit bits

-- Signed LEB128: the bytes `s` encode the number `v` of this many bits, in two's complement.
pub record Signed (mode : Mode) (bits : ℕ) (s : List ℕ) (v : ℤ) : Type 0 where
  pub groups : AreGroups s
  pub total : signed_sum s ≡ v
  pub above : neg_ℤ (pos (2 ^ (bits - 1))) ≤ℤ v
  pub below : v <ℤ pos (2 ^ (bits - 1))
  pub size : IsSignedSize mode bits s

-- ---- the bytes that are encoded

-- Groups encode a natural number `n`, which means itself, or `-n - 1` if `negative`.

-- A group that is not the last: the low seven bits, with bit 7 set.
abbrev pub next_group : Bool → ℕ → ℕ
next_group false n = n % 128 + 0x80
next_group true n = 0xFF - n % 128

-- The last group.
abbrev pub last_group : Bool → ℕ → ℕ
last_group false n = n
last_group true n = 0x7F - n

-- The groups of `n`, at most `more` of them after the first. A number below `limit` is the last
-- group.
unfoldable pub groups_of : Bool → ℕ → ℕ → ℕ → List ℕ
groups_of negative limit zero n = last_group negative n ∷ []
groups_of negative limit (suc more) n =
    elim (nat_lt n limit) [
      | true ↦ last_group negative n ∷ []
      | false ↦ next_group negative n ∷ groups_of negative limit more (n / 128)
    ]

-- The groups of `n`. The second `n` only bounds the number of groups.
unfoldable pub groups_encoding : Bool → ℕ → ℕ → List ℕ
groups_encoding negative limit n = groups_of negative limit n n

-- The encoding of an unsigned number.
abbrev pub unsigned_encoding : ℕ → List ℕ
unsigned_encoding n = groups_encoding false 0x80 n

-- The encoding of a signed number, which has the sign in bit 6 of its last group.
abbrev pub signed_encoding : ℤ → List ℕ
signed_encoding (pos n) = groups_encoding false 0x40 n
signed_encoding (negsuc n) = groups_encoding true 0x40 n
