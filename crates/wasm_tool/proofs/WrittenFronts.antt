-- This file proves what a writer has gained after some calls of `write`.
use Rattle.std.proofs.Common.{◌≡◌, ◌∙◌, ℕ, List, [], ◌++◌, ◌-◌, length, take, drop, refl, sym, ap, subst, arith, Result, Ok, append_assoc, append-nil, take-append-drop}
use Rattle.std.specs.Prelude.{Option}
use Rattle.std.proofs.lemmas.List.{take_all, length-drop}
use Rattle.std.proofs.Math.Seq.{take-append_seam}
use Rattle.std.proofs.KnownBytes.{Appends-nil, Appends-trans, Appends-kept}
use Rattle.std.specs.Io.KnownBytes.{Appends, Keeps, WriteAppends}
use Rattle.wasm_tool.specs.Program.{GainsFront}

-- The writer has gained these bytes except the rest.
pub record HasWritten (a b : Option (List ℕ)) (bytes rest : List ℕ) : Type 0 where
  pub front : List ℕ
  pub split : bytes ≡ front ++ rest
  pub gained : Appends a b front

pub none_written : (a : Option (List ℕ)) (bytes : List ℕ) → HasWritten a a bytes bytes
none_written a bytes = record { front = []; split = refl; gained = Appends-nil a }

pub more_written : (a b c : Option (List ℕ)) (bytes rest : List ℕ) (count : ℕ) → HasWritten a b bytes rest → Appends b c (take count rest) → HasWritten a c bytes (take (length rest - count) (drop count rest))
more_written a b c bytes rest count h g =
    let all = take_all (length rest - count) (drop count rest) (omega (arith, length-drop count rest)) in
    record {
      front = h.front ++ take count rest;
      split = h.split ∙ ap (λ z. h.front ++ z) (sym (take-append-drop count rest)) ∙ sym (append_assoc h.front (take count rest) (drop count rest)) ∙ ap (λ z. (h.front ++ take count rest) ++ z) (sym all);
      gained = Appends-trans a b c h.front (take count rest) h.gained g;
    }

pub of_ok : {E : Type 0} (b c : Option (List ℕ)) (rest : List ℕ) (r : Result ℕ E) (n count : ℕ) → WriteAppends b c r rest → r ≡ Ok n → count ≡ n → Appends b c (take count rest)
of_ok b c rest r n count w is e = subst (λ k. Appends b c (take k rest)) (sym e) (subst (λ q. WriteAppends b c q rest) is w)

pub of_error : (b c : Option (List ℕ)) (rest : List ℕ) (count : ℕ) → Keeps b c → count ≡ 0 → Appends b c (take count rest)
of_error b c rest count k e = subst (λ k. Appends b c (take k rest)) (sym e) (Appends-kept b b c [] (Appends-nil b) k)

pub all_written : (a b : Option (List ℕ)) (bytes rest : List ℕ) → HasWritten a b bytes rest → rest ≡ [] → Appends a b bytes
all_written a b bytes rest h e = subst (Appends a b) (sym (h.split ∙ ap (λ z. h.front ++ z) e ∙ append-nil h.front)) h.gained

pub front_written : (a b : Option (List ℕ)) (bytes rest : List ℕ) → HasWritten a b bytes rest → GainsFront a b bytes
front_written a b bytes rest h = record { count = length h.front; gained = subst (Appends a b) (sym (ap (take (length h.front)) h.split ∙ take-append_seam h.front rest)) h.gained }

-- Nothing is gained.
pub none_gained : (a : Option (List ℕ)) (bytes : List ℕ) → GainsFront a a bytes
none_gained a bytes = record { count = 0; gained = Appends-nil a }

pub ruleset front_steps = (none_written, all_written)
