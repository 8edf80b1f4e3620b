-- This file proves how the steps of the visitor of instructions decode all of the bytes: lemmas that
-- a caller's proof cites.
use Rattle.wasm_base.proofs.Words.{Mode, ◌≡◌, ◌≢◌, ◌∙◌, ℕ, List, [], ◌∷◌, ◌++◌, Option, Some, None, Result, Ok, Err, ap, subst, map-id, RejectsWhole, members, Decodes, Rejects, HasMembers, members_begun, members_continued}
use Rattle.wasm_base.proofs.Words.{members_fail, members_done}
use Rattle.wasm_base.specs.Faults.{Failure}
use Rattle.wasm_insn.proofs.Words.{Plain, instruction, table, unique, any_begins}
use Rattle.wasm_code.specs.{Walking, ahead, GivesInstruction, GivesFailure, NextInstruction}
use Rattle.wasm_code.specs.declared.walk.Decoded.{Decoded}

-- What `next` says of a call that returned an instruction, `None`, or an error.
module _ (m : Mode) (before after : Walking) {result : Result (Option Decoded) Failure} where
  pub walk_gives : {next : Option Decoded} {it : Decoded} → result ≡ Ok next → next ≡ Some it → NextInstruction m before result after → GivesInstruction (instruction table) m before it after
  walk_gives e f h = subst (λ r. NextInstruction m before r after) (e ∙ ap Ok f) h

  pub walk_ends : {next : Option Decoded} → result ≡ Ok next → next ≡ None → NextInstruction m before result after → ahead before ≡ []
  walk_ends e f h = (subst (λ r. NextInstruction m before r after) (e ∙ ap Ok f) h).0

  pub walk_fails : {error : Failure} → result ≡ Err error → NextInstruction m before result after → GivesFailure (instruction table) m before error after × (ahead before ≢ [])
  walk_fails e h = subst (λ r. NextInstruction m before r after) e h

-- The visitor has visited these instructions from `start` on, and `rest` remains.
abbrev pub HasWalked : Mode → List ℕ → List Plain → List ℕ → Type 0
HasWalked m start seen rest = HasMembers (instruction table) m (λ i. i) start seen rest

pub begun : {m : Mode} (start : List ℕ) → HasWalked m start [] start
begun start = members_begun (instruction table) (λ i. i) start

-- If an instruction decodes from bytes, they are not empty.
some_bytes : {m : Mode} {bytes rest : List ℕ} {i : Plain} → Decodes (instruction table) m bytes i rest → bytes ≢ []
some_bytes {m = m} {rest = rest} {i = i} h e =
    let b = any_begins m h.front i h.encodes in
    absurd (cc (e, h.split, ap (λ z. z ++ rest) b.2))

-- `next` returns an instruction.
pub continues : {m : Mode} {start rest after : List ℕ} {i : Plain} (seen : List Plain) → HasWalked m start seen rest → Decodes (instruction table) m rest i after → HasWalked m start (seen ++ i ∷ []) after
continues {start = start} {rest = rest} {after = after} {i = i} seen walked h = members_continued (instruction table) (λ i. i) start unique rest after seen i walked (some_bytes h) h

-- `next` returns `None`.
pub ended : {m : Mode} {start rest : List ℕ} (seen : List Plain) → HasWalked m start seen rest → rest ≡ [] → members (instruction table) m start seen
ended {m = m} {start = start} {rest = rest} seen walked e = subst (λ xs. members (instruction table) m start xs) (map-id seen) (members_done (instruction table) (λ i. i) start rest seen walked e)

-- `next` returns an error other than `Memory`.
pub stopped : {m : Mode} {start rest : List ℕ} (seen : List Plain) → HasWalked m start seen rest → rest ≢ [] → Rejects (instruction table) m rest → RejectsWhole (members (instruction table)) m start
stopped {start = start} {rest = rest} seen walked some none = members_fail (instruction table) (λ i. i) start rest seen walked some none
