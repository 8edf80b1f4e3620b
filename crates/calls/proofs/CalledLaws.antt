-- This file proves how calls are counted, and what one step over the members of a vector gives.
use Rattle.wasm_base.proofs.Words.{Mode, Format, ◌≡◌, ℕ, ◌+◌, List, [], ◌∷◌, ◌++◌, Some, Result, Ok, Err, true, false, sym, subst, arith}
use Rattle.std.specs.Prelude.{cond, count_by}
use Rattle.std.proofs.lemmas.List.Sums.{sum_by-append, sum_by-cons}
use Rattle.wasm_base.specs.Faults.{Failure}
use Rattle.wasm_insn.proofs.Words.{Plain}
use Rattle.wasm_code.specs.Members.{VisitingMembers, NextMember, GivesMember, EndsMembers}
use Rattle.calls.specs.Called.{is_call}

module _ (function : ℕ) (is : List Plain) (i : Plain) where
  -- The number of calls with one instruction more.
  calls_with : count_by (is_call function) (is ++ i ∷ []) ≡ count_by (is_call function) is + cond (is_call function i) 1 0
  calls_with =
      let one : Plain → ℕ = λ j. cond (is_call function j) 1 0 in
      omega (arith, sum_by-append one is (i ∷ []), sum_by-cons one i [])

  pub calls_and_call : true ≡ is_call function i → count_by (is_call function) (is ++ i ∷ []) ≡ count_by (is_call function) is + 1
  calls_and_call e = subst (λ b. count_by (is_call function) (is ++ i ∷ []) ≡ count_by (is_call function) is + cond b 1 0) (sym e) calls_with

  pub calls_and_other : false ≡ is_call function i → count_by (is_call function) (is ++ i ∷ []) ≡ count_by (is_call function) is
  calls_and_other e = omega (arith, subst (λ b. count_by (is_call function) (is ++ i ∷ []) ≡ count_by (is_call function) is + cond b 1 0) (sym e) calls_with)

-- The results of `next` over the members of a vector.
module _ {T X : Type 0} (P : Type 0) {F : Format X} (view : T → X) {m : Mode} {old new : VisitingMembers} {r : Result T Failure} where
  pub gives_member : {x : T} → NextMember P F view m old (Some r) new → r ≡ Ok x → GivesMember F view m old x new
  gives_member h e = subst (λ z. NextMember P F view m old (Some z) new) e h

  pub ends_members : {f : Failure} → NextMember P F view m old (Some r) new → r ≡ Err f → EndsMembers P F m old f new
  ends_members h e = subst (λ z. NextMember P F view m old (Some z) new) e h
