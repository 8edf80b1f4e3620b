-- This file proves where the pieces of one buffer begin and end.
use Rattle.wasm_base.proofs.Std.{◌≡◌, ℕ, ◌+◌, ◌-◌, ◌<◌, ◌≤◌, List, [], ◌∷◌, ◌++◌, length, take, drop, get_or, refl, sym, ap, ◌∙◌, arith, append_assoc, subst, append-nil, length-append, Some, zero}
use Rattle.wasm_base.proofs.Std.{suc, take-append_seam, drop-append_seam, drop-append-add, slice_get}
use Rattle.wasm_base.specs.{joined, ends_from, cut_from, IsCut}

-- Cutting the joined pieces at their ends gives the pieces.
pub cut_joined : (from : ℕ) (ps : List (List ℕ)) → cut_from from (ends_from from ps) (joined ps) ≡ ps
cut_joined from [] = refl
cut_joined from (p ∷ ps) =
    let n : from + length p - from ≡ length p = omega arith in
    rw (n, take-append_seam p (joined ps), drop-append_seam p (joined ps), cut_joined (from + length p) ps)

pub length_cut : (from : ℕ) (ends bytes : List ℕ) → length (cut_from from ends bytes) ≡ length ends
length_cut from [] bytes = refl
length_cut from (e ∷ es) bytes = ap suc (length_cut e es (drop (e - from) bytes))

pub joined_push : (ps : List (List ℕ)) (p : List ℕ) → joined (ps ++ p ∷ []) ≡ joined ps ++ p
joined_push [] p = append-nil p
joined_push (q ∷ qs) p = rw (joined_push qs p, append_assoc)

pub ends_push : (from : ℕ) (ps : List (List ℕ)) (p : List ℕ) → ends_from from (ps ++ p ∷ []) ≡ ends_from from ps ++ (from + length (joined ps) + length p) ∷ []
ends_push from [] p = ap (λ n. (n + length p) ∷ []) (omega arith)
ends_push from (q ∷ qs) p =
    let n : from + length q + length (joined qs) ≡ from + length (q ++ joined qs) = omega (arith, length-append q (joined qs)) in
    ap (λ es. (from + length q) ∷ es) (ends_push (from + length q) qs p ∙ ap (λ m. ends_from (from + length q) qs ++ (m + length p) ∷ []) n)

-- A new entry and its end add one piece.
pub cut_push : (bytes ends : List ℕ) (entry : List ℕ) (end : ℕ) → IsCut bytes ends → end ≡ length bytes + length entry → cut_from 0 (ends ++ end ∷ []) (bytes ++ entry) ≡ cut_from 0 ends bytes ++ entry ∷ []
cut_push bytes ends entry end h e =
    let ps : List (List ℕ) = cut_from 0 ends bytes in
    let b : bytes ++ entry ≡ joined (ps ++ entry ∷ []) = ap (λ x. x ++ entry) h.bytes_joined ∙ sym (joined_push ps entry) in
    let l : end ≡ 0 + length (joined ps) + length entry = omega (arith, ap length h.bytes_joined) in
    let s : ends ++ end ∷ [] ≡ ends_from 0 (ps ++ entry ∷ []) = ap (λ x. x ++ end ∷ []) h.ends_placed ∙ ap (λ n. ends_from 0 ps ++ n ∷ []) l ∙ sym (ends_push 0 ps entry) in
    ap (λ x. cut_from 0 x (bytes ++ entry)) s ∙ ap (λ x. cut_from 0 (ends_from 0 (ps ++ entry ∷ [])) x) b ∙ cut_joined 0 (ps ++ entry ∷ [])

pub IsCut_push : (bytes ends : List ℕ) (entry : List ℕ) (end : ℕ) → IsCut bytes ends → end ≡ length bytes + length entry → IsCut (bytes ++ entry) (ends ++ end ∷ [])
IsCut_push bytes ends entry end h e =
    let ps : List (List ℕ) = cut_from 0 ends bytes in
    let l : end ≡ 0 + length (joined ps) + length entry = omega (arith, ap length h.bytes_joined) in
    record {
      bytes_joined = ap (λ x. x ++ entry) h.bytes_joined ∙ sym (joined_push ps entry) ∙ ap joined (sym (cut_push bytes ends entry end h e));
      ends_placed = ap (λ x. x ++ end ∷ []) h.ends_placed ∙ ap (λ n. ends_from 0 ps ++ n ∷ []) l ∙ sym (ends_push 0 ps entry) ∙ ap (ends_from 0) (sym (cut_push bytes ends entry end h e));
    }

-- The piece at index `i` is the bytes from `start` to `end`.
pub record IsPieceAt (from : ℕ) (ps : List (List ℕ)) (i start end : ℕ) : Type 0 where
  pub after : from ≤ start
  pub forward : start ≤ end
  pub inside : end ≤ from + length (joined ps)
  pub piece : slice_get ps i ≡ Some (take (end - start) (drop (start - from) (joined ps)))

pub record IsPieceIn (bytes ends : List ℕ) (i start end : ℕ) : Type 0 where
  pub forward : start ≤ end
  pub inside : end ≤ length bytes
  pub piece : slice_get (cut_from 0 ends bytes) i ≡ Some (take (end - start) (drop start bytes))

pub piece_at : (from : ℕ) (ps : List (List ℕ)) (i : ℕ) → i < length ps → IsPieceAt from ps i (get_or (from ∷ ends_from from ps) i 0) (get_or (ends_from from ps) i 0)
piece_at from [] i h = absurd (omega arith)
piece_at from (p ∷ ps) zero h =
    record {
      after = omega arith;
      forward = omega arith;
      inside = omega (arith, length-append p (joined ps));
      piece = let n : from + length p - from ≡ length p = omega arith in
          let z : from - from ≡ 0 = omega arith in
          rw (n, z, take-append_seam p (joined ps));
    }
piece_at from (p ∷ ps) (suc i) h =
    let rest = piece_at (from + length p) ps i (omega arith) in
    let start : ℕ = get_or ((from + length p) ∷ ends_from (from + length p) ps) i 0 in
    let end : ℕ = get_or (ends_from (from + length p) ps) i 0 in
    record {
      after = omega (arith, rest.after);
      forward = rest.forward;
      inside = omega (arith, rest.inside, length-append p (joined ps));
      piece = let d : start - from ≡ length p + (start - (from + length p)) = omega (arith, rest.after) in
          let e : drop (start - from) (p ++ joined ps) ≡ drop (start - (from + length p)) (joined ps) = ap (λ n. drop n (p ++ joined ps)) d ∙ drop-append-add p (joined ps) (start - (from + length p)) in
          rw e rest.piece;
    }

-- The entry at index `i` is in the buffer between its start and its end.
pub piece_of : (bytes ends : List ℕ) (i : ℕ) → IsCut bytes ends → i < length ends → IsPieceIn bytes ends i (get_or (0 ∷ ends) i 0) (get_or ends i 0)
piece_of bytes ends i h below =
    let ps : List (List ℕ) = cut_from 0 ends bytes in
    let at : IsPieceAt 0 ps i (get_or (0 ∷ ends_from 0 ps) i 0) (get_or (ends_from 0 ps) i 0) = piece_at 0 ps i (omega (arith, length_cut 0 ends bytes)) in
    let at' : IsPieceAt 0 ps i (get_or (0 ∷ ends) i 0) (get_or ends i 0) = subst (λ es. IsPieceAt 0 ps i (get_or (0 ∷ es) i 0) (get_or es i 0)) (sym h.ends_placed) at in
    record {
      forward = at'.forward;
      inside = omega (arith, at'.inside, ap length h.bytes_joined);
      piece = let z : get_or (0 ∷ ends) i 0 - 0 ≡ get_or (0 ∷ ends) i 0 = omega arith in
          rw (z, ← h.bytes_joined) at at'.piece;
    }
