-- This file defines function bodies, their locals, and the calls that build them. Core
-- specification, Binary Format, Modules, Code Section.
use Rattle.std.specs.Prelude.{◌≡◌, ◌≢◌, ℕ, ◌^◌, ◌<◌, ◌≤◌, List, [], ◌∷◌, ◌++◌, length, replicate, Result, Err, IfOk, OnOk, OnErr, Option, ⊤}
use Rattle.std.specs.Iterator.{Count, Drains, Yields, size}
use Rattle.std.specs.List.{All}
use Rattle.std.specs.declared.vec.Vec.{Vec}
use Rattle.wasm_base.specs.Words.{minimal, padded, unsigned_encoding, Format, u32, mapped, pair, members, vec, longest, vec_encoding, val_encoding, val_type, IsVal}
use Rattle.wasm_base.specs.declared.types.ValType.{ValType}
use Rattle.wasm_base.specs.declared.refused.Refused.{Refused}
use Rattle.wasm_base.specs.declared.refused.Refused.TheVariants.{TooLong}
use Rattle.wasm_insn.specs.declared.instruction.Instruction.{Instruction}
use Rattle.wasm_insn.specs.Words.{Plain, instruction, table, instruction_encoding, IsEncodableInstruction, IsWellFormedInstruction}
use Rattle.wasm_code.specs.Expressions.{normal_row}

-- ---- locals

-- A run: a count of locals of one type.
abbrev pub Run : Type 0
Run = ℕ × ValType

-- The encoding of a run: its count and its type.
abbrev pub run_encoding : Run → List ℕ
run_encoding run = unsigned_encoding run.0 ++ val_encoding run.1

-- The encoding of the locals of a body: the vector of its runs.
abbrev pub locals_encoding : List Run → List ℕ
locals_encoding runs = vec_encoding run_encoding runs

-- The numbers of the run are below 2^32, as in every run that code builds.
abbrev pub IsRun : Run → Type 0
IsRun run = (run.0 < 2 ^ 32) × IsVal run.1

-- The types of the locals, one by one.
abbrev pub expand : List Run → List ValType
expand [] = []
expand (run ∷ runs) = replicate run.0 run.1 ++ expand runs

-- The runs are canonical: each count is at least 1, and no two neighbours have the same type.
abbrev pub IsRuns : List Run → Type 0
IsRuns [] = ⊤
IsRuns (run ∷ []) = 1 ≤ run.0
IsRuns (run ∷ next ∷ runs) = (1 ≤ run.0) × (run.1 ≢ next.1) × IsRuns (next ∷ runs)

-- The count of the run is at most 2^32 - 1.
abbrev pub IsCounted : Run → Type 0
IsCounted run = run.0 ≤ longest

-- The number of runs, and the count of each, are at most 2^32 - 1.
pub record AreEncodableRuns (runs : List Run) : Type 0 where
  pub count : length runs ≤ longest
  pub counts : All IsCounted runs

-- These are the canonical runs of the types, and the only ones.
pub record AreRunsOf (types : List ValType) (runs : List Run) : Type 0 where
  pub are_runs : IsRuns runs
  pub expanded : expand runs ≡ types
  pub only : (others : List Run) → IsRuns others → expand others ≡ types → others ≡ runs

-- The new runs have one more local of this type, and are canonical if the old ones are.
pub record MoreRuns (type : ValType) (old new : List Run) : Type 0 where
  pub runs : IsRuns old → IsRuns new
  pub expanded : expand new ≡ expand old ++ type ∷ []

-- The last run has this type, and its count is at least 2^32 - 1.
pub record IsFull (type : ValType) (runs : List Run) : Type 0 where
  pub others : List Run
  pub count : ℕ
  pub last : runs ≡ others ++ (count, type) ∷ []
  pub full : longest ≤ count

-- ---- bodies

-- A function body: the runs of its locals, and its instructions.
pub record Body : Type 0 where
  pub runs : List Run
  pub code : List Plain

-- The body of these runs and instructions.
abbrev pub body_of : List Run × List Plain → Body
body_of p = record { runs = p.0; code = p.1 }

-- A function body without its size: the vector of runs, then instructions up to the last byte. The
-- last instruction may be any, not only `end`.
abbrev pub body : Format Body
body = mapped body_of (pair (vec (pair u32 val_type)) (members (instruction table)))

-- The raw body is the minimal encoding of this body.
pub record IsWellFormedBody (bytes : List ℕ) (x : Body) : Type 0 where
  pub encodes : body minimal bytes x

-- The raw body is a possibly padded encoding of this body.
pub record IsPaddedBody (bytes : List ℕ) (x : Body) : Type 0 where
  pub encodes : body padded bytes x

-- A body with more instructions after its own.
abbrev pub and_then : Body → List Plain → Body
and_then x more = record { runs = x.runs; code = x.code ++ more }

-- The bytes gain the encoding of `i`. If `i` is well-formed and the old bytes minimally encode a
-- body, the new bytes encode it with the normal form of `i` appended.
pub record Grows {A : Type 0} (i : Instruction A) (old new : List ℕ) : Type 0 where
  pub encoding : new ≡ old ++ instruction_encoding i
  pub plain : IsWellFormedInstruction i → (x : Body) → IsWellFormedBody old x → IsWellFormedBody new (and_then x (normal_row i ∷ []))

-- The bytes gain `more`. If the old bytes minimally encode a body and `more` minimally encodes
-- instructions, the new bytes encode the body with these appended.
pub record GrowsBy (more old new : List ℕ) : Type 0 where
  pub bytes : new ≡ old ++ more
  pub plain : (x : Body) (is : List Plain) → IsWellFormedBody old x → members (instruction table) minimal more is → IsWellFormedBody new (and_then x is)

-- ---- calls

-- The body gains the encoding of the instruction, or the call returns an error and changes nothing.
pub record AddsInstruction {A : Type 0} (i : Instruction A) (old new : List ℕ) (result : Result (Unit {0}) Refused) : Type 0 where
  pub ok : OnOk result (Grows i old new)
  pub err : OnErr result (new ≡ old)
  pub was_encodable : OnOk result (IsEncodableInstruction i)
  pub too_long : IsEncodableInstruction i → result ≢ Err TooLong

-- The raw body has these runs and no instructions. If the runs are in range and at most 2^32 - 1,
-- it is the minimal encoding of that body.
pub record HasLocals (runs : List Run) (bytes : List ℕ) : Type 0 where
  pub encoding : bytes ≡ locals_encoding runs
  pub plain : length runs ≤ longest → All IsRun runs → IsWellFormedBody bytes (record { runs = runs; code = [] })

-- The new function has the runs that the iterator yields. If the iterator reports more than
-- 2^32 - 1 runs, the call returns `TooLong`.
pub record BeginsWithRuns {U S : Type 0} (becomes : U → S → Type 0) (gives : S → Option Run → S → Type 0) (remaining : S → Count) (elements : U) (result : Result (List ℕ) Refused) : Type 0 where
  pub ok : IfOk result (λ bytes. (it : S) × (runs : List Run) × becomes elements it × Drains gives it runs × (length runs ≤ longest) × HasLocals runs bytes)
  pub too_long : ((it : S) → becomes elements it → size (remaining it) ≤ longest) → result ≢ Err TooLong
  pub too_many : ((it : S) → becomes elements it → longest < size (remaining it)) → result ≡ Err TooLong

-- The vector has the canonical runs of the types that the iterator yields. If the runs of the types
-- fit, the call never returns `TooLong`.
pub record GathersRuns {U S A : Type 0} (becomes : U → S → Type 0) (gives : S → Option ValType → S → Type 0) (elements : U) (result : Result (Vec Run A) Refused) : Type 0 where
  pub ok : IfOk result (λ runs. (it : S) × (types : List ValType) × becomes elements it × Drains gives it types × AreRunsOf types runs.items × All IsCounted runs.items)
  pub too_long : ((it left : S) (types : List ValType) (runs : List Run) → becomes elements it → Yields gives it types left → AreRunsOf types runs → AreEncodableRuns runs) → result ≢ Err TooLong

-- The new function has the canonical runs of the types that the iterator yields. If the runs of the
-- types fit, the call never returns `TooLong`.
pub record BeginsWithTypes {U S : Type 0} (becomes : U → S → Type 0) (gives : S → Option ValType → S → Type 0) (elements : U) (result : Result (List ℕ) Refused) : Type 0 where
  pub ok : IfOk result (λ bytes. (it : S) × (types : List ValType) × becomes elements it × Drains gives it types × (runs : List Run) × AreRunsOf types runs × AreEncodableRuns runs × HasLocals runs bytes)
  pub too_long : ((it left : S) (types : List ValType) (runs : List Run) → becomes elements it → Yields gives it types left → AreRunsOf types runs → AreEncodableRuns runs) → result ≢ Err TooLong
