-- This file defines the result of `dz_shorten`.
use Rattle.std.specs.Prelude.{◌≡◌, ◌≢◌, ℕ, List, [], Some, None, ◌⊎◌}
use Rattle.wasm_base.specs.Words.{padded, Rejects}
use Rattle.wasm_base.specs.declared.fault.ReadFault.{ReadFault}
use Rattle.wasm_base.specs.declared.fault.ReadFault.TheVariants.{Memory}
use Rattle.wasm_reader.specs.Words.{kind_numbered, section, Shortens}
use Rattle.wasm_reader.specs.declared.kinds.SectionKind.{SectionKind}
use Rattle.wasm_c.specs.Assembled.{Gives}
use Rattle.wasm_c.specs.Listing.{fault_number}
use Rattle.wasm_c.specs.declared.TheConstants.{NO_ANSWER}

-- The bytes begin with a section of the kind, and the call returns its minimal encoding.
pub record Shortened (number : ℕ) (bytes old new : List ℕ) (taken cause n : ℕ) : Type 0 where
  pub kind : SectionKind
  pub numbered : kind_numbered number ≡ Some kind
  pub text : List ℕ
  pub shortens : Shortens kind bytes taken [] text
  pub gives : Gives text old new n
  pub no_cause : cause ≡ 0

-- No kind has the number; or the bytes do not begin with a section of the kind, or an allocation
-- failed.
abbrev pub IsWhy : ℕ → List ℕ → ℕ → Type 0
IsWhy number bytes cause =
    ((cause ≡ 9) × (kind_numbered number ≡ None))
    ⊎ ((kind : SectionKind) × (fault : ReadFault) × (kind_numbered number ≡ Some kind) × (cause ≡ fault_number fault) × (fault ≢ Memory → Rejects (section kind) padded bytes))

-- The call returns no section, and writes nothing.
pub record Refuses (number : ℕ) (bytes old new : List ℕ) (taken cause n : ℕ) : Type 0 where
  pub answer : n ≡ NO_ANSWER
  pub kept : new ≡ old
  pub none_taken : taken ≡ 0
  pub why : IsWhy number bytes cause

-- The result of a call with a section of a kind: an error or its minimal encoding.
abbrev pub Outcome : ℕ → List ℕ → List ℕ → List ℕ → ℕ → ℕ → ℕ → Type 0
Outcome number bytes old new taken cause n = Refuses number bytes old new taken cause n ⊎ Shortened number bytes old new taken cause n
