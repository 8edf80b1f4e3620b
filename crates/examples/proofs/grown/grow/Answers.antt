use Rattle.examples.proofs.Common.{List, ℕ, [], ◌∷◌, Result, Ok, Err, OnOk, Refused, Body, IsWellFormedBody, AddsInstruction, and_then, normal_row, adds_instruction, HasSmallAlignments}
use Rattle.examples.proofs.Common.{IsWellFormedWhereAligned, Instruction}
use Rattle.examples.proofs.grown.grow.Goals as goal

grown : {A : Type 0} {i : Instruction A} {old new : List ℕ} {result : Result (Unit {0}) Refused} → IsWellFormedWhereAligned i → AddsInstruction i old new result
    → OnOk result (HasSmallAlignments i → (x : Body) → IsWellFormedBody old x → IsWellFormedBody new (and_then x (normal_row i ∷ [])))
grown {result = Ok u} range added = λ small x body. adds_instruction body added.ok (range.plain small added.was_encodable)
grown {result = Err e} range added = tt

pub returns : goal.returns
returns g c = grown c.plain_instruction.ensures c.instruction.ensures
