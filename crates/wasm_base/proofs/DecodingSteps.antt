-- This file proves that the steps of a reader decode the whole, or show that it does not decode.
use Rattle.wasm_base.proofs.Std.{◌≡◌, ℕ, ◌<◌, ◌≤◌, List, [], ◌∷◌, ◌++◌, length, take, drop, slice_index_or, suc, ◌-◌, refl, sym, ap, subst, ◌∙◌, append_assoc, append-nil, arith, take-append-drop}
use Rattle.wasm_base.proofs.Std.{length-take-le, take_all}
use Rattle.std.proofs.lemmas.List.{length-append}
use Rattle.wasm_base.specs.{Mode, Format, u32, byte, Then, mapped, such, members, vec, size_prefixed, Unambiguous, Decodes, Rejects}
use Rattle.wasm_base.proofs.NumberLaws.{u32_unambiguous}

-- If a format decodes the same bytes twice, the values and the suffixes are equal.
pub decodes_same : {X : Type 0} {F : Format X} {mode : Mode} {bytes : List ℕ} {x y : X} {r q : List ℕ} → Unambiguous F → Decodes F mode bytes x r → Decodes F mode bytes y q → (x ≡ y) × (r ≡ q)
decodes_same {mode = mode} {x = x} {y = y} {r = r} {q = q} k h g =
    let a = k.unique mode h.front g.front r q x y h.encodes g.encodes (sym h.split ∙ g.split) in
    (a.0, a.2)

-- ---- one after another

pub then_decodes : {X Y : Type 0} {F : Format X} {G : X → Format Y} {mode : Mode} {bytes rest last : List ℕ} {x : X} {y : Y} → Decodes F mode bytes x rest → Decodes (G x) mode rest y last → Decodes (Then F G) mode bytes (x, y) last
then_decodes {last = last} h g = record { front = h.front ++ g.front; split = h.split ∙ ap (λ z. h.front ++ z) g.split ∙ sym (append_assoc h.front g.front last); encodes = record { front = h.front; back = g.front; joined = refl; first = h.encodes; second = g.encodes } }

first_of_both : {X Y : Type 0} {F : Format X} {G : X → Format Y} {mode : Mode} {bytes rest : List ℕ} {p : X × Y} → Decodes (Then F G) mode bytes p rest → (middle : List ℕ) × Decodes F mode bytes p.0 middle × Decodes (G p.0) mode middle p.1 rest
first_of_both {rest = rest} h =
    let s = h.encodes in
    (s.back ++ rest, record { front = s.front; split = h.split ∙ ap (λ z. z ++ rest) s.joined ∙ append_assoc s.front s.back rest; encodes = s.first }, record { front = s.back; split = refl; encodes = s.second })

pub then_rejects_first : {X Y : Type 0} {F : Format X} {G : X → Format Y} {mode : Mode} {bytes : List ℕ} → Rejects F mode bytes → Rejects (Then F G) mode bytes
then_rejects_first h = record { none = λ p rest g. let a = first_of_both g in h.none p.0 a.0 a.1 }

pub then_rejects_second : {X Y : Type 0} {F : Format X} {G : X → Format Y} {mode : Mode} {bytes rest : List ℕ} {x : X} → Unambiguous F → Decodes F mode bytes x rest → Rejects (G x) mode rest → Rejects (Then F G) mode bytes
then_rejects_second {G = G} {mode = mode} {rest = rest} k h none = record {
  none = λ p last g.
      let a = first_of_both g in
      let same = decodes_same k h a.1 in
      none.none p.1 last (subst (λ z. Decodes (G z) mode rest p.1 last) (sym same.0) (subst (λ z. Decodes (G p.0) mode z p.1 last) (sym same.1) a.2));
}

-- ---- images and restrictions

pub mapped_decodes : {X Y : Type 0} (f : X → Y) {F : Format X} {mode : Mode} {bytes rest : List ℕ} {x : X} → Decodes F mode bytes x rest → Decodes (mapped f F) mode bytes (f x) rest
mapped_decodes f {x = x} h = record { front = h.front; split = h.split; encodes = (x, refl, h.encodes) }

pub mapped_rejects : {X Y : Type 0} (f : X → Y) {F : Format X} {mode : Mode} {bytes : List ℕ} → Rejects F mode bytes → Rejects (mapped f F) mode bytes
mapped_rejects f h = record { none = λ y rest g. h.none g.encodes.0 rest (record { front = g.front; split = g.split; encodes = g.encodes.2 }) }

pub such_rejects : {X : Type 0} (P : X → Type 0) {F : Format X} {mode : Mode} {bytes rest : List ℕ} {x : X} → Unambiguous F → Decodes F mode bytes x rest → (P x → ⊥) → Rejects (such P F) mode bytes
such_rejects P k h fails = record { none = λ y last g. fails (subst P (sym (decodes_same k h (record { front = g.front; split = g.split; encodes = g.encodes.0 })).0) g.encodes.1) }

-- ---- a loop over members

pub members_start : {X : Type 0} (F : Format X) (mode : Mode) (bytes : List ℕ) → Decodes (members F) mode bytes [] bytes
members_start F mode bytes = record { front = []; split = refl; encodes = refl }

pub members_push : {X : Type 0} (F : Format X) (mode : Mode) (s t : List ℕ) (xs : List X) (x : X) → members F mode s xs → F mode t x → members F mode (s ++ t) (xs ++ x ∷ [])
members_push F mode s t [] x h g = (t, [], ap (λ z. z ++ t) h ∙ sym (append-nil t), g, refl)
members_push F mode s t (y ∷ xs) x h g = (h.0, h.1 ++ t, ap (λ z. z ++ t) h.2 ∙ append_assoc h.0 h.1 t, h.3, members_push F mode h.1 t xs x h.4 g)

pub members_step : {X : Type 0} (F : Format X) {mode : Mode} {bytes rest last : List ℕ} {xs : List X} {x : X} → Decodes (members F) mode bytes xs rest → Decodes F mode rest x last → Decodes (members F) mode bytes (xs ++ x ∷ []) last
members_step F {mode = mode} {last = last} {xs = xs} {x = x} h g = record { front = h.front ++ g.front; split = h.split ∙ ap (λ z. h.front ++ z) g.split ∙ sym (append_assoc h.front g.front last); encodes = members_push F mode h.front g.front xs x h.encodes g.encodes }

pub vec_decodes : {X : Type 0} (F : Format X) {mode : Mode} {bytes rest last : List ℕ} {n : ℕ} {xs : List X} → Decodes u32 mode bytes n rest → Decodes (members F) mode rest xs last → length xs ≡ n → Decodes (vec F) mode bytes xs last
vec_decodes F {mode = mode} {last = last} {xs = xs} h g l = record { front = h.front ++ g.front; split = h.split ∙ ap (λ z. h.front ++ z) g.split ∙ sym (append_assoc h.front g.front last); encodes = record { front = h.front; back = g.front; joined = refl; first = subst (λ z. u32 mode h.front z) (sym l) h.encodes; second = g.encodes } }

next_member : {X : Type 0} (F : Format X) → Unambiguous F → (mode : Mode) (s t last q : List ℕ) (xs ys : List X) → members F mode s xs → members F mode t ys → s ++ last ≡ t ++ q → length xs < length ys → (y : X) × (rest : List ℕ) × Decodes F mode last y rest
next_member F k mode s t last q xs [] h g e l = absurd (omega arith)
next_member F k mode s t last q [] (y ∷ ys) h g e l = (y, g.1 ++ q, record { front = g.0; split = subst (λ z. z ++ last ≡ t ++ q) h e ∙ ap (λ z. z ++ q) g.2 ∙ append_assoc g.0 g.1 q; encodes = g.3 })
next_member F k mode s t last q (x ∷ xs) (y ∷ ys) h g e l =
    let a = k.unique mode h.0 g.0 (h.1 ++ last) (g.1 ++ q) x y h.3 g.3 (sym (append_assoc h.0 h.1 last) ∙ ap (λ z. z ++ last) (sym h.2) ∙ e ∙ ap (λ z. z ++ q) g.2 ∙ append_assoc g.0 g.1 q) in
    next_member F k mode h.1 g.1 last q xs ys h.4 g.4 a.2 (omega arith)

pub vec_rejects : {X : Type 0} {F : Format X} {mode : Mode} {bytes rest last : List ℕ} {n : ℕ} (xs : List X) → Unambiguous F → Decodes u32 mode bytes n rest → Decodes (members F) mode rest xs last → length xs < n → Rejects F mode last → Rejects (vec F) mode bytes
vec_rejects {F = F} {mode = mode} {bytes = bytes} {last = last} xs k h g l none = record {
  none = λ ys q r.
      let s = r.encodes in
      let count : Decodes u32 mode bytes (length ys) (s.back ++ q) = record { front = s.front; split = r.split ∙ ap (λ z. z ++ q) s.joined ∙ append_assoc s.front s.back q; encodes = s.first } in
      let same = decodes_same u32_unambiguous h count in
      let next = next_member F k mode g.front s.back last q xs ys g.encodes s.second (sym g.split ∙ same.1) (omega (arith, same.0)) in
      none.none next.0 next.1 next.2;
}

-- ---- size-prefixed bytes

pub size_prefixed_decodes : {X : Type 0} {F : Format X} {mode : Mode} {bytes rest : List ℕ} {n : ℕ} {x : X} → Decodes u32 mode bytes n rest → n ≤ length rest → F mode (take n rest) x → Decodes (size_prefixed F) mode bytes x (drop n rest)
size_prefixed_decodes {mode = mode} {rest = rest} {n = n} h l g = record {
  front = h.front ++ take n rest;
  split = h.split ∙ ap (λ z. h.front ++ z) (sym (take-append-drop n rest)) ∙ sym (append_assoc h.front (take n rest) (drop n rest));
  encodes = record { front = h.front; content = take n rest; joined = refl; size = subst (λ z. u32 mode h.front z) (sym (length-take-le n rest l)) h.encodes; encodes = g };
}

sized : {X : Type 0} {F : Format X} {mode : Mode} {bytes rest last : List ℕ} {n : ℕ} {x : X} → Decodes u32 mode bytes n rest → Decodes (size_prefixed F) mode bytes x last → (content : List ℕ) × (rest ≡ content ++ last) × (length content ≡ n) × F mode content x
sized {mode = mode} {bytes = bytes} {last = last} h g =
    let s = g.encodes in
    let size : Decodes u32 mode bytes (length s.content) (s.content ++ last) = record { front = s.front; split = g.split ∙ ap (λ z. z ++ last) s.joined ∙ append_assoc s.front s.content last; encodes = s.size } in
    let same = decodes_same u32_unambiguous h size in
    (s.content, same.1, sym same.0, s.encodes)

pub size_prefixed_rejects_size : {X : Type 0} {F : Format X} {mode : Mode} {bytes : List ℕ} → Rejects u32 mode bytes → Rejects (size_prefixed F) mode bytes
size_prefixed_rejects_size h = record { none = λ x last g. h.none (length g.encodes.content) (g.encodes.content ++ last) (record { front = g.encodes.front; split = g.split ∙ ap (λ z. z ++ last) g.encodes.joined ∙ append_assoc g.encodes.front g.encodes.content last; encodes = g.encodes.size }) }

pub size_prefixed_rejects_short : {X : Type 0} {F : Format X} {mode : Mode} {bytes rest : List ℕ} {n : ℕ} → Decodes u32 mode bytes n rest → length rest < n → Rejects (size_prefixed F) mode bytes
size_prefixed_rejects_short h l = record { none = λ x last g. let f = sized h g in omega (arith, ap length f.1, length-append f.0 last, f.2) }

pub such_decodes : {X : Type 0} (P : X → Type 0) {F : Format X} {mode : Mode} {bytes rest : List ℕ} {x : X} → Decodes F mode bytes x rest → P x → Decodes (such P F) mode bytes x rest
such_decodes P h p = record { front = h.front; split = h.split; encodes = (h.encodes, p) }

pub such_none : {X : Type 0} (P : X → Type 0) {F : Format X} {mode : Mode} {bytes : List ℕ} → Rejects F mode bytes → Rejects (such P F) mode bytes
such_none P none = record { none = λ x rest h. none.none x rest (record { front = h.front; split = h.split; encodes = h.encodes.0 }) }

-- ---- one byte

-- The front and the suffix, as a slice pattern splits the bytes.
pub front_and_rest : (bytes : List ℕ) → 1 ≤ length bytes → bytes ≡ slice_index_or bytes 0 0 ∷ take (length bytes - 1) (drop 1 bytes)
front_and_rest [] l = absurd (omega arith)
front_and_rest (b ∷ rest) l = ap (λ z. b ∷ z) (sym (take_all (suc (length rest) - 1) rest (omega arith)))

pub byte_decodes : {m : Mode} (bytes : List ℕ) → 1 ≤ length bytes → Decodes byte m bytes (slice_index_or bytes 0 0) (take (length bytes - 1) (drop 1 bytes))
byte_decodes bytes l = record { front = slice_index_or bytes 0 0 ∷ []; split = front_and_rest bytes l; encodes = refl }

pub byte_rejects : {m : Mode} (bytes : List ℕ) → bytes ≡ [] → Rejects byte m bytes
byte_rejects {m = m} bytes e = record { none = λ x rest h. nil bytes e x rest h }
  where
    nil : (bytes : List ℕ) → bytes ≡ [] → (x : ℕ) (rest : List ℕ) → Decodes byte m bytes x rest → ⊥
    nil bytes e x rest h = cc (e, h.split, ap (λ z. z ++ rest) h.encodes)

pub ruleset steps = (byte_decodes, byte_rejects, then_decodes, then_rejects_first, then_rejects_second)
