-- This file proves that a format without a value, then one with a value, is unambiguous.
use Rattle.wasm_base.proofs.Std.{ℕ, List, ◌++◌, refl}
use Rattle.wasm_base.specs.{Format, just, after, Mode, Unambiguous, UnambiguousWhole}
use Rattle.wasm_base.proofs.FormatLaws.{mapped_whole, pair_whole}

pub just_unambiguous : {X : Type 0} (x : X) {F : Format X} → Unambiguous F → Unambiguous (just x F)
just_unambiguous x {F} f = record {
  unique = λ mode s t r q u v h g e. let a = f.unique mode s t r q x x h g e in (refl, a.1, a.2);
  encodings = record {
    one = λ w s t u h g. f.encodings.one w s t x h g;
    included = λ m n below s u h. f.encodings.included m n below s x h;
    shorter = λ w s u h. f.encodings.shorter w s x h;
  };
}

pub after_whole : {X Y : Type 0} (x : X) {F : Format X} {G : Format Y} → Unambiguous F → UnambiguousWhole G → UnambiguousWhole (after x F G)
after_whole x {F} {G} f g = mapped_whole (λ p. p.1) (λ x y e. λ i. (tt, e i)) (pair_whole (just_unambiguous x f) g)

pub after_encodes : {X Y : Type 0} (mode : Mode) (x : X) (F : Format X) (G : Format Y) (front back : List ℕ) (y : Y) → F mode front x → G mode back y → after x F G mode (front ++ back) y
after_encodes mode x F G front back y h g = ((tt, y), refl, record { front = front; back = back; joined = refl; first = h; second = g })
