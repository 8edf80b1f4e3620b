-- This file defines the results of workloads that encode.
use Rattle.std.specs.Prelude.{◌≡◌, ℕ, ◌+◌, ◌*◌, ◌<◌, ◌≤◌, ◌∷◌, [], List, ◌++◌, length, drop, map, Result, IfOk, OnErr, if◌then◌else◌, ◌⊎◌, nat_le}
use Rattle.wasm_base.specs.Words.{header, unsigned_encoding, joined, section_encoding}
use Rattle.wasm_base.specs.Stores.{pieces_model}
use Rattle.wasm_custom.specs.Words.{named_encoding, subsection_encoding, list_encoding, name_name}
use Rattle.wasm_bench.specs.declared.answers.TheConstants.{NO_ANSWER}
use Rattle.wasm_bench.specs.declared.answers.Fault.{Fault}

-- The old bytes with these bytes at their front, if they are long enough, and the old bytes
-- otherwise.
abbrev pub written : List ℕ → List ℕ → List ℕ
written bytes old = if nat_le (length bytes) (length old) then bytes ++ drop (length bytes) old else old

-- The result is the number of bytes, which are copied if the buffer is large enough.
pub record Gives (bytes old new : List ℕ) (n : ℕ) : Type 0 where
  pub count : n ≡ length bytes
  pub copied : new ≡ written bytes old

-- The result of each phase for a section of this id and encoding, whose entries have these bytes.
pub record HasAnswer (id : ℕ) (content encoding : List ℕ) (phase : ℕ) (old new : List ℕ) (n : ℕ) : Type 0 where
  pub built : phase ≡ 0 → (n ≡ length content) × (new ≡ old)
  pub appended : phase ≡ 1 → Gives (id ∷ encoding) old new n
  pub finished : phase ≡ 2 → Gives (header ++ (id ∷ encoding)) old new n
  pub known : phase ≤ 2

-- The same for a section of counted entries.
abbrev pub HasCounted : ℕ → List (List ℕ) → ℕ → List ℕ → List ℕ → ℕ → Type 0
HasCounted id pieces phase old new n = HasAnswer id (joined pieces) (section_encoding pieces) phase old new n

-- The workload returns the result of the section, or an error and writes nothing.
pub record Answers (id : ℕ) (content encoding : List ℕ) (phase : ℕ) (old new : List ℕ) (result : Result ℕ Fault) : Type 0 where
  pub ok : IfOk result (λ n. HasAnswer id content encoding phase old new n)
  pub err : OnErr result (new ≡ old)

-- The workload has no result and writes nothing, or has this result.
abbrev pub Outcome : List ℕ → List ℕ → ℕ → Type 0 → Type 0
Outcome old new n Answer = ((n ≡ NO_ANSWER) × (new ≡ old)) ⊎ Answer

-- The result of a function section with these type indices.
abbrev pub FunctionsAnswer : List ℕ → ℕ → List ℕ → List ℕ → ℕ → Type 0
FunctionsAnswer types phase old new n = HasCounted 3 (map unsigned_encoding types) phase old new n

-- The result of a section of this id with this number of entries.
pub record CountedAnswer (id count phase : ℕ) (old new : List ℕ) (n : ℕ) : Type 0 where
  pub pieces : List (List ℕ)
  pub counted : length pieces ≡ count
  pub has : HasCounted id pieces phase old new n

-- The number of segments is `bytes` divided by `segment`, rounded up.
pub record IsSplit (bytes segment segments : ℕ) : Type 0 where
  pub enough : bytes ≤ segments * segment
  pub not_more : segments * segment < bytes + segment

-- The result of a data section with one segment for each `segment` bytes, or a part of them.
pub record DataAnswer (bytes segment phase : ℕ) (old new : List ℕ) (n : ℕ) : Type 0 where
  pub some : 0 < segment
  pub pieces : List (List ℕ)
  pub split : IsSplit bytes segment (length pieces)
  pub has : HasCounted 11 pieces phase old new n

-- The result of a name section with this number of function names.
pub record NamesAnswer (count phase : ℕ) (old new : List ℕ) (n : ℕ) : Type 0 where
  pub names : List (List ℕ)
  pub counted : length names ≡ count
  pub has : HasAnswer 0 (joined (subsection_encoding 1 (list_encoding (pieces_model.joins names)) ∷ [])) (named_encoding name_name (joined (subsection_encoding 1 (list_encoding (pieces_model.joins names)) ∷ []))) phase old new n
