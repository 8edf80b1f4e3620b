-- This file defines the results of workloads that decode.
use Rattle.std.specs.Prelude.{◌≡◌, ℕ, List, length}
use Rattle.std.specs.List.{flat_map}
use Rattle.wasm_base.specs.Words.{padded}
use Rattle.wasm_code.specs.Words.{Body, body}
use Rattle.wasm_reader.specs.Words.{Bodies, Takes}
use Rattle.wasm_reader.specs.declared.kinds.SectionKind.TheVariants as kinds

-- The number of instructions of all bodies together.
abbrev pub instructions_in : List Body → ℕ
instructions_in bodies = length (flat_map (λ b. b.code) bodies)

-- The bytes begin with a code section whose bodies have this many instructions.
pub record HasRead (bytes : List ℕ) (n : ℕ) : Type 0 where
  pub bodies : List Body
  pub taken : ℕ
  pub takes : Takes kinds.Bodies bytes (Bodies bodies) taken
  pub counted : n ≡ instructions_in bodies

-- The bytes are a body with this many instructions.
pub record HasWalked (bytes : List ℕ) (n : ℕ) : Type 0 where
  pub walked : Body
  pub encodes : body padded bytes walked
  pub counted : n ≡ length walked.code
