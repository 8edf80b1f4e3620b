-- This file proves the encodings of lists from the views of their members.
use Rattle.wasm_base.proofs.Words.{◌≡◌, ℕ, ◌++◌, List, [], ◌∷◌, map, length, ap, sym, subst, ◌∙◌, Result, arith, length-map, All-nil, All-cons, All-head, All-tail, All-map, flat_map-map, All}
use Rattle.wasm_base.proofs.Words.{flat_map, on_ok, Appends, unsigned_encoding, vec_encoding, IsEncodableVec}
use Rattle.std.specs.declared.vec.Vec.{Vec}
use Rattle.wasm_base.specs.declared.refused.Refused.{Refused}

module _ {X Y : Type 0} (encoding : Y → List ℕ) (Encodable : Y → Type 0) (view : X → Y) where
  pub viewed_encoding : {xs seen : List X} → xs ≡ seen → vec_encoding (λ x. encoding (view x)) xs ≡ vec_encoding encoding (map view seen)
  viewed_encoding {xs} {seen} e =
      ap (λ ys. vec_encoding (λ x. encoding (view x)) ys) e
      ∙ ap (λ n. unsigned_encoding n ++ flat_map (λ x. encoding (view x)) seen) (sym (length-map seen view))
      ∙ ap (λ s. unsigned_encoding (length (map view seen)) ++ s) (sym (flat_map-map encoding view seen))

  each_encodable : (xs : List X) → All Encodable (map view xs) → All (λ x. Encodable (view x)) xs
  each_encodable [] h = All-nil (λ x. Encodable (view x))
  each_encodable (x ∷ xs) h = All-cons (λ x. Encodable (view x)) x xs (All-head Encodable (view x) (map view xs) h) (each_encodable xs (All-tail Encodable (view x) (map view xs) h))

  pub viewed_encodable : {xs seen : List X} → xs ≡ seen → IsEncodableVec (λ x. Encodable (view x)) xs → IsEncodableVec Encodable (map view seen)
  viewed_encodable {xs} {seen} e h = subst (λ ys. IsEncodableVec Encodable (map view ys)) e record { count = omega (arith, h.count, length-map xs view); members = All-map Encodable view xs h.members }

  pub encodable_viewed : {xs seen : List X} → xs ≡ seen → IsEncodableVec Encodable (map view seen) → IsEncodableVec (λ x. Encodable (view x)) xs
  encodable_viewed {xs} {seen} e h = subst (λ ys. IsEncodableVec (λ x. Encodable (view x)) ys) (sym e) record { count = omega (arith, h.count, length-map seen view); members = each_encodable seen h.members }

-- The effect of a call, for an equal encoding that fits exactly if the other does.
pub appends_same : {A : Type 0} {encoding same : List ℕ} {Encodable Same : Type 0} {old new : Vec ℕ A} {result : Result (Unit {0}) Refused} → Appends encoding Encodable old new result → encoding ≡ same → (Encodable → Same) → (Same → Encodable)
    → Appends same Same old new result
appends_same {Encodable = Encodable} {Same = Same} {old = old} {new = new} {result = result} h e to from =
    subst (λ t. Appends t Same old new result) e record {
      ok = h.ok;
      err = h.err;
      was_encodable = on_ok result Encodable Same h.was_encodable to;
      too_long = λ s. h.too_long (from s);
      spare = λ s. h.spare (from s);
      capacity = h.capacity;
    }
