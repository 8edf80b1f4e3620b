-- This file proves the number of imported entities of an index space.
use Rattle.wasm_base.proofs.Words.{◌≡◌, ℕ, ◌+◌, ◌<◌, ◌≤◌, List, [], ◌∷◌, ◌++◌, Bool, cond, length, get_or, map, take, drop, take-append-drop, refl, sym, ap, ◌∙◌, arith, take_more, map-append}
use Rattle.std.specs.List.{count_by, fold}
use Rattle.wasm_sections.specs.Imports.{ImportItem}
use Rattle.wasm_remap.specs.Imported.{imported, imported_from}
use Rattle.wasm_remap.specs.declared.spaces.IndexSpace.{IndexSpace}

pub imported_join : (space : IndexSpace) (first more : List ImportItem) → imported space (first ++ more) ≡ imported space first + imported space more
imported_join space [] more = omega arith
imported_join space (i ∷ first) more =
    let e = imported_join space first more in
    omega (arith, e)

-- The entries of a list, and one more.
pub imported_more : {T : Type 0} (space : IndexSpace) (view : T → ImportItem) (xs : List T) (i : ℕ) (x : T) → i < length xs → x ≡ get_or xs i x → imported space (map view (take (i + 1) xs)) ≡ imported space (map view (take i xs)) + imported_from space (view x).imported
imported_more space view xs i x low e =
    let f = ap (λ l. imported space (map view l)) (take_more xs i x low) ∙ ap (imported space) (map-append view (take i xs) (get_or xs i x ∷ [])) ∙ imported_join space (map view (take i xs)) (view (get_or xs i x) ∷ [])
    ∙ ap (λ y. imported space (map view (take i xs)) + (imported_from space (view y).imported + 0)) (sym e) in
    omega (arith, f)

-- Some entries of a list import no more than all of them.
pub imported_prefix : {T : Type 0} (space : IndexSpace) (view : T → ImportItem) (xs : List T) (k : ℕ) → imported space (map view (take k xs)) ≤ imported space (map view xs)
imported_prefix space view xs k =
    let split = ap (λ l. imported space (map view l)) (sym (take-append-drop k xs)) ∙ ap (imported space) (map-append view (take k xs) (drop k xs)) ∙ imported_join space (map view (take k xs)) (map view (drop k xs)) in
    omega (arith, split)

images_from : {T X : Type 0} (p : X → Bool) (view : T → X) (xs : List T) (n : ℕ) → fold (λ a x. a + cond (p (view x)) 1 0) n xs ≡ fold (λ a x. a + cond (p x) 1 0) n (map view xs)
images_from p view [] n = refl
images_from p view (x ∷ xs) n = images_from p view xs (n + cond (p (view x)) 1 0)

-- A count over the images of a list.
pub counted_images : {T X : Type 0} (p : X → Bool) (view : T → X) (xs : List T) → count_by (λ x. p (view x)) xs ≡ count_by p (map view xs)
counted_images p view xs = images_from p view xs 0
