-- This file proves the steps of the loop that maps the immediates of an instruction.
use Rattle.std.proofs.Common.{◌≡◌, ℕ, List, map, take, drop, ◌+◌, ◌<◌, ◌++◌, ◌∷◌, [], ◌≤◌, length, slice_set, slice_index_or, arith, ap, ap₂, sym, ◌∙◌}
use Rattle.std.proofs.lemmas.List.{take_more_set, take_all, drop_all, drop_more, drop-set-lt, map-append, append_assoc, append-nil}
use Rattle.wasm_insn.specs.Views.{argument_view}
use Rattle.wasm_insn.specs.declared.arguments.Arg.{Arg}
use Rattle.wasm_remap.specs.Instructions.{remapped_argument, remapped_arguments, spaces_after}
use Rattle.wasm_remap.specs.Mapping.{Mapping}
use Rattle.wasm_remap.specs.Spaces.{Spaces}
use Rattle.wasm_remap.proofs.EachLaws.{tails}

-- The first `k` immediates are mapped, and the others, whose numbers are in the spaces `s`, are not
-- yet.
pub record HasMapped {A : Type 0} (m : Mapping) (all : Spaces) (old now : List (Arg A)) (k : ℕ) (s : Spaces) : Type 0 where
  pub others : drop k now ≡ drop k old
  pub mapped : remapped_arguments m all (map argument_view old) ≡ map argument_view (take k now) ++ remapped_arguments m s (map argument_view (drop k now))

pub argument_step : {A : Type 0} (m : Mapping) (all : Spaces) (old now : List (Arg A)) (k : ℕ) (s after : Spaces) (x d : Arg A)
    → k < length now → HasMapped m all old now k s → argument_view x ≡ remapped_argument m s (argument_view (slice_index_or now k d)) → after ≡ spaces_after (argument_view (slice_index_or now k d)) s
    → HasMapped m all old (slice_set now k x) (k + 1) after
argument_step m all old now k s after x d lt h v e =
    let rest = drop (k + 1) now in
    let y = slice_index_or now k d in
    let done = map argument_view (take k now) in
    let set : drop (k + 1) (slice_set now k x) ≡ rest = drop-set-lt (k + 1) now k x (omega arith) in
    let first : map argument_view (take (k + 1) (slice_set now k x)) ≡ done ++ argument_view x ∷ [] = ap (map argument_view) (take_more_set now k x lt) ∙ map-append argument_view (take k now) (x ∷ []) in
    let ahead : remapped_arguments m all (map argument_view old) ≡ done ++ remapped_arguments m s (map argument_view (y ∷ rest)) = h.mapped ∙ ap (λ z. done ++ remapped_arguments m s (map argument_view z)) (drop_more now k d lt) in
    let split : done ++ remapped_arguments m s (map argument_view (y ∷ rest)) ≡ (done ++ argument_view x ∷ []) ++ remapped_arguments m after (map argument_view rest) =
    ap₂ (λ z w. done ++ z ∷ remapped_arguments m w (map argument_view rest)) (sym v) (sym e) ∙ sym (append_assoc done (argument_view x ∷ []) (remapped_arguments m after (map argument_view rest))) in
    record {
      others = set ∙ tails now old k d lt h.others;
      mapped = ahead ∙ split ∙ ap₂ (λ z w. z ++ remapped_arguments m after (map argument_view w)) (sym first) (sym set);
    }

pub arguments_done : {A : Type 0} (m : Mapping) (all : Spaces) (old now : List (Arg A)) (k : ℕ) (s : Spaces) → HasMapped m all old now k s → length now ≤ k → map argument_view now ≡ remapped_arguments m all (map argument_view old)
arguments_done m all old now k s h l = sym (h.mapped ∙ ap₂ (λ a b. map argument_view a ++ remapped_arguments m s (map argument_view b)) (take_all k now l) (drop_all k now l) ∙ append-nil (map argument_view now))
