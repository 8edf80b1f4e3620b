-- This file defines the iterator over the members of a vector.
use Rattle.std.specs.Prelude.{◌≡◌, ◌≢◌, ℕ, ◌+◌, List, Option, Some, None, Result, Ok, Err}
use Rattle.wasm_base.specs.Words.{Format, Mode, Decodes, Rejects}
use Rattle.wasm_base.specs.Faults.{Failure}
use Rattle.wasm_base.specs.declared.fault.ReadFault.TheVariants.{Memory}

-- The state of the iterator: the number of members that are left, and the bytes from the next on.
pub record VisitingMembers : Type 0 where
  pub left : ℕ
  pub rest : List ℕ

-- The iterator returned this member: it is at the front of the old bytes, and the new ones follow
-- it.
pub record GivesMember {T X : Type 0} (F : Format X) (view : T → X) (mode : Mode) (old : VisitingMembers) (member : T) (new : VisitingMembers) : Type 0 where
  pub decodes : Decodes F mode old.rest (view member) new.rest
  pub left : old.left ≡ new.left + 1

-- The iterator returned this error, and has ended. For every cause except `Memory`, no member is at
-- the front. For `Memory`, decoding a member may request memory.
pub record EndsMembers {X : Type 0} (MayAllocate : Type 0) (F : Format X) (mode : Mode) (old : VisitingMembers) (e : Failure) (new : VisitingMembers) : Type 0 where
  pub some : old.left ≢ 0
  pub none : e.cause ≢ Memory → Rejects F mode old.rest
  pub no_memory : e.cause ≡ Memory → MayAllocate
  pub ended : (new.left ≡ 0) × (new.rest ≡ old.rest)

-- The result of `next`: `None` if no member is left, a member, or an error.
abbrev pub NextMember : {T X : Type 0} → Type 0 → Format X → (T → X) → Mode → VisitingMembers → Option (Result T Failure) → VisitingMembers → Type 0
NextMember MayAllocate F view mode old None new = (old.left ≡ 0) × (new ≡ old)
NextMember MayAllocate F view mode old (Some (Ok member)) new = GivesMember F view mode old member new
NextMember MayAllocate F view mode old (Some (Err e)) new = EndsMembers MayAllocate F mode old e new
