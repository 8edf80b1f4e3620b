-- This file defines the groups of seven bits at the front of bytes that unsigned and signed LEB128
-- have in common.
use Rattle.std.specs.Prelude.{◌≡◌, ℕ, ◌≤◌, ◌^◌, List, length, ℤ, pos, ◌-ℤ◌, nat_lt, if◌then◌else◌}
use Rattle.wasm_base.specs.Numbers.{padded, AreGroups, groups_sum, last_byte}
use Rattle.wasm_base.specs.Formats.{Format}
use Rattle.wasm_base.specs.Decoding.{Decodes}

-- Groups of seven bits, at most `limit` of them.
abbrev pub groups : ℕ → Format (List ℕ)
groups limit mode s x = (s ≡ x) × AreGroups s × (length s ≤ limit)

-- The bytes begin with LEB128 groups, followed by `rest`: their sum, 128 to the power of their
-- number, and the last group.
pub record HasGroups (limit : ℕ) (bytes : List ℕ) (sum power last : ℕ) (rest : List ℕ) : Type 0 where
  pub front : List ℕ
  pub read : Decodes (groups limit) padded bytes front rest
  pub total : groups_sum front ≡ sum
  pub count : 128 ^ length front ≡ power
  pub end : last_byte front ≡ last

-- The signed number that groups encode in two's complement: bit 6 of the last group is the sign.
abbrev pub signed_of : ℕ → ℕ → ℕ → ℤ
signed_of sum power last = if nat_lt last 0x40 then pos sum else (pos sum -ℤ pos power)
