-- This file proves that mapping items in place, or the first numbers of pairs, commutes with a view.
use Rattle.std.proofs.Common.{Result, Ok, Err, ◌≡◌, ℕ, List, [], ◌∷◌, ◌++◌, length, map, take, refl, sym, ap, ◌∙◌, Option, Bor}
use Rattle.std.proofs.lemmas.List.{map-id, take_at}
use Rattle.std.specs.Prelude.{IfOk, OnOk}
use Rattle.std.specs.declared.vec.Vec.{Vec}
use Rattle.wasm_custom.specs.Names.{names_view, inside_view}
use Rattle.wasm_remap.specs.Mapping.{Mapping, mapped_first}
use Rattle.wasm_remap.specs.declared.spaces.IndexSpace.{IndexSpace}

viewed : {X Y : Type 0} (m : Mapping) (space : Option IndexSpace) (g : X → Y) (xs : List (ℕ × X)) → map (λ p. (p.0, g p.1)) (map (mapped_first m space) xs) ≡ map (mapped_first m space) (map (λ p. (p.0, g p.1)) xs)
viewed m space g [] = refl
viewed m space g (x ∷ xs) = ap (λ z. (mapped_first m space (x.0, g x.1)) ∷ z) (viewed m space g xs)

-- A name map.
pub names_mapped : (m : Mapping) (space : Option IndexSpace) (old new : List (ℕ × Bor (List ℕ))) → new ≡ map (mapped_first m space) old → names_view new ≡ map (mapped_first m space) (names_view old)
names_mapped m space old new e = ap names_view e ∙ viewed m space (λ n. n.now) old

-- An indirect name map.
pub maps_mapped : {A : Type 0} (m : Mapping) (space : Option IndexSpace) (old new : List (ℕ × Vec (ℕ × Bor (List ℕ)) A)) → new ≡ map (mapped_first m space) old → map inside_view new ≡ map (mapped_first m space) (map inside_view old)
maps_mapped m space old new e = ap (map inside_view) e ∙ viewed m space (λ v. names_view v.items) old

-- The first items of a buffer were changed in place, and written back.
pub viewed_back : {X Y : Type 0} (view : X → Y) (f : List Y → List Y) (new rest : List X) {now items : List X} {n : ℕ} → length new ≡ n → map view new ≡ f (map view now) → now ≡ items → map view (take n (new ++ rest)) ≡ f (map view items)
viewed_back view f new rest {n = n} l e at = ap (map view) (take_at new rest n l) ∙ e ∙ ap (λ z. f (map view z)) at

-- The same of items that are their own values.
pub written_back : {X : Type 0} (f : List X → List X) (new rest : List X) {now items : List X} {n : ℕ} → length new ≡ n → map (λ x. x) new ≡ f (map (λ x. x) now) → now ≡ items → take n (new ++ rest) ≡ f items
written_back f new rest {now = now} {n = n} l e at = take_at new rest n l ∙ sym (map-id new) ∙ e ∙ ap f (map-id now ∙ at)

-- What follows from the promise of a call that succeeded.
pub on_ok : {X E : Type 0} {P Q : Type 0} (r : Result X E) → (P → Q) → OnOk r P → OnOk r Q
on_ok (Ok x) f p = f p
on_ok (Err e) f p = tt

-- The same of the value that it returned.
pub if_ok_more : {X E : Type 0} {P Q : X → Type 0} (r : Result X E) → ((x : X) → P x → Q x) → IfOk r P → IfOk r Q
if_ok_more (Ok x) f p = f x p
if_ok_more (Err e) f p = tt
