-- This file defines modules whose bodies begin with inserted instructions.
use Rattle.std.specs.Prelude.{◌≡◌, ◌⊎◌, ℕ, zero, suc, List, [], ◌∷◌, ◌++◌, Bool, true, false, Option, Some, None, cond, ◌||◌}
use Rattle.std.specs.List.{AllZip}
use Rattle.wasm_base.specs.Words.{Format, standard, vec, size_prefixed, members, wasm_module, DecodesWhole, number_of}
use Rattle.wasm_base.specs.declared.section_id.SectionId.TheVariants as ids
use Rattle.wasm_code.specs.Words.{Body, body}
use Rattle.wasm_insn.specs.Words.{Plain, instruction, table, same_op}
use Rattle.wasm_insn.specs.declared.op.Op.{Op}
use Rattle.wasm_insn.specs.declared.op.Op.TheVariants.{Byte}
use Rattle.wasm_reader.specs.Outlines.{HasSections, Section}
use Rattle.wasm_remap.specs.Inserted.{between}
use Rattle.wasm_remap.specs.Places.{IsFound, lacks}

-- ---- closed instructions

-- Whether the opcode is one of these bytes.
abbrev pub is_among : List ℕ → Op → Bool
is_among [] op = false
is_among (b ∷ bytes) op = same_op op (Byte b) || is_among bytes op

-- How many blocks are open behind an instruction, and nothing if none is open in front of one that
-- ends or divides a block. `block`, `loop`, `if`, `try` and `try_table` open one. `end` and
-- `delegate` end one. `else`, `catch` and `catch_all` divide one.
abbrev pub open_after : Op → ℕ → Option ℕ
open_after op zero = cond (is_among (0x02 ∷ 0x03 ∷ 0x04 ∷ 0x06 ∷ 0x1F ∷ []) op) (Some 1) (cond (is_among (0x0B ∷ 0x18 ∷ 0x05 ∷ 0x07 ∷ 0x19 ∷ []) op) None (Some 0))
open_after op (suc n) = cond (is_among (0x02 ∷ 0x03 ∷ 0x04 ∷ 0x06 ∷ 0x1F ∷ []) op) (Some (suc (suc n))) (cond (is_among (0x0B ∷ 0x18 ∷ []) op) (Some n) (Some (suc n)))

-- Each block that the instructions open is ended by them, in order, if this many are open before.
abbrev pub IsClosedBehind : Option ℕ → List Plain → Type 0
IsClosedBehind None is = ⊥
IsClosedBehind (Some n) [] = n ≡ 0
IsClosedBehind (Some n) (i ∷ is) = IsClosedBehind (open_after i.op n) is

-- Each block that the instructions open is ended by them, and no other.
abbrev pub IsClosed : List Plain → Type 0
IsClosed = IsClosedBehind (Some 0)

-- ---- bodies

-- The body with these instructions before its own.
abbrev pub begun_body : List Plain → Body → Body
begun_body code x = record { runs = x.runs; code = code ++ x.code }

-- What a function makes of each item, one after the other. It depends on the number of the item, which
-- is counted from `n`.
abbrev pub each_from : {X : Type 0} → (ℕ → X → List X) → ℕ → List X → List X
each_from f n [] = []
each_from f n (x ∷ xs) = f n x ++ each_from f (suc n) xs

-- The bytes gain an encoding of these instructions.
pub record GainsCode (code : List Plain) (old new : List ℕ) : Type 0 where
  pub encoding : List ℕ
  pub added : new ≡ old ++ encoding
  pub encodes : members (instruction table) standard encoding code

-- The new bytes are the locals, an encoding of these instructions, and the old ones.
pub record IsBegun (locals : List ℕ) (code : List Plain) (old new : List ℕ) : Type 0 where
  pub added : List ℕ
  pub is : new ≡ locals ++ (added ++ old)
  pub encodes : members (instruction table) standard added code

-- The entries of a code section encode these bodies, one each.
abbrev pub EncodeBodies : List (List ℕ) → List Body → Type 0
EncodeBodies entries bodies = AllZip (size_prefixed body standard) entries bodies

-- The code section gains these bodies.
pub record AddsBodies (bodies : List Body) (old new : List (List ℕ)) : Type 0 where
  pub entries : List (List ℕ)
  pub is : new ≡ old ++ entries
  pub encodes : EncodeBodies entries bodies

-- ---- modules

-- The payload of the first code section has what a change makes of each body.
pub record EditsBodies (f : ℕ → Body → List Body) (olds : List Section) (edited : List ℕ) : Type 0 where
  pub before : List Section
  pub section : Section
  pub after : List Section
  pub found : IsFound (number_of ids.Code) before section after olds
  pub payload : List ℕ
  pub bodies : (xs : List Body) → vec (size_prefixed body) standard section.payload xs → vec (size_prefixed body) standard payload (each_from f 0 xs)
  pub decodes : DecodesWhole wasm_module edited (between before (number_of ids.Code) payload after)

-- The bytes are a module, and the edited bytes are a module that has what a change makes of each body.
-- A module without code stays.
pub record EditsCode (f : ℕ → Body → List Body) (bytes edited : List ℕ) : Type 0 where
  pub olds : List Section
  pub has : HasSections bytes olds
  pub are : EditsBodies f olds edited ⊎ (lacks (number_of ids.Code) olds × (edited ≡ bytes))

-- Each body begins with these instructions.
abbrev pub InsertsCode : (ℕ → List Plain) → List ℕ → List ℕ → Type 0
InsertsCode code = EditsCode (λ n x. begun_body (code n) x ∷ [])
