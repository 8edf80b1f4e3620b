-- This file proves how a body gains the instructions of operations, one after another.
use Rattle.wasm_base.proofs.Words.{◌≡◌, ℕ, ◌+◌, ◌<◌, List, [], ◌∷◌, ◌++◌, length, take, get_or, Result, Ok, Err, sym, ap, subst, ◌∙◌, append_assoc, append-nil, flat_map, OnOk, map-append, take_more}
use Rattle.wasm_base.proofs.Words.{flat_map_more}
use Rattle.std.specs.declared.alloc.Global.{Global}
use Rattle.wasm_base.specs.declared.refused.Refused.{Refused}
use Rattle.wasm_code.proofs.Words.{AddsInstruction, IsWellFormedBody, and_then}
use Rattle.wasm_insn.proofs.Words.{IsWellFormedInstruction}
use Rattle.wasm_insn.specs.declared.instruction.Instruction.{Instruction}
use Rattle.examples.specs.Bodies.{row}
use Rattle.examples.specs.Lowering.{instruction_of, rows_of, GainsOperations}
use Rattle.examples.specs.declared.lowering.Operation.{Operation}

-- No operations.
pub gains_none : {bytes : List ℕ} → GainsOperations [] bytes bytes
gains_none {bytes = bytes} = record { plain = λ x encodes. subst (λ s. IsWellFormedBody bytes (record { runs = x.runs; code = s })) (sym (append-nil x.code)) encodes }

-- One operation, which a call adds.
pub gains_one : {i : Instruction Global} {old new : List ℕ} {result : Result (Unit {0}) Refused} (operation : Operation) → AddsInstruction i old new result → i ≡ instruction_of operation → IsWellFormedInstruction i
    → OnOk result (GainsOperations (operation ∷ []) old new)
gains_one {new = new} {result = Ok u} operation added same plain = record { plain = λ x encodes. subst (λ j. IsWellFormedBody new (and_then x (row j ∷ []))) same (added.ok.plain plain x encodes) }
gains_one {result = Err e} operation added same plain = tt

-- Some operations, then others.
pub gains_more : {first second : List Operation} {old between new : List ℕ} → GainsOperations first old between → GainsOperations second between new → GainsOperations (first ++ second) old new
gains_more {first = first} {second = second} {new = new} g h = record {
  plain = λ x encodes.
      subst (λ s. IsWellFormedBody new (record { runs = x.runs; code = s }))
      (append_assoc x.code (rows_of first) (rows_of second) ∙ ap (λ s. x.code ++ s) (sym (map-append _ first second)))
      (h.plain (and_then x (rows_of first)) (g.plain x encodes));
}

-- The operations of one more member of a list.
pub gains_member : {X : Type 0} (f : X → List Operation) (xs : List X) (i : ℕ) (x : X) {old between new : List ℕ} → i < length xs → x ≡ get_or xs i x
    → GainsOperations (flat_map f (take i xs)) old between → GainsOperations (f x) between new → GainsOperations (flat_map f (take (i + 1) xs)) old new
gains_member f xs i x {old = old} {new = new} low is g h =
    subst (λ s. GainsOperations s old new) (flat_map_more f [] (take i xs) x ∙ ap (λ y. flat_map f (take i xs ++ y ∷ [])) is ∙ ap (flat_map f) (sym (take_more xs i x low))) (gains_more g h)

-- Some operations, then others, by a fallible call.
pub gains_last : {first : List Operation} {old between : List ℕ} (second : List Operation) (new : List ℕ) (result : Result (Unit {0}) Refused) → GainsOperations first old between → OnOk result (GainsOperations second between new)
    → OnOk result (GainsOperations (first ++ second) old new)
gains_last second new (Ok u) g h = gains_more g h
gains_last second new (Err e) g h = tt
