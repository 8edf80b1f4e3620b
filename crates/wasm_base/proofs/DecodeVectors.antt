-- This file proves a loop that decodes members.
use Rattle.wasm_base.proofs.Std.{◌≡◌, ℕ, ◌<◌, List, [], ◌∷◌, ◌++◌, length, map, sym, ap, subst, ◌∙◌, append_assoc, map-append, length-map}
use Rattle.wasm_base.specs.{Mode, Format, u32, members, vec, Unambiguous, Decodes, Rejects}
use Rattle.wasm_base.proofs.DecodingSteps.{members_start, members_step, vec_decodes, vec_rejects}

pub vec_rejects_count : {m : Mode} {X : Type 0} (F : Format X) (bytes : List ℕ) → Rejects u32 m bytes → Rejects (vec F) m bytes
vec_rejects_count F bytes h = record {
  none = λ xs rest g. h.none (length xs) (g.encodes.back ++ rest) (record { front = g.encodes.front; split = g.split ∙ ap (λ z. z ++ rest) g.encodes.joined ∙ append_assoc g.encodes.front g.encodes.back rest; encodes = g.encodes.first });
}

-- The members that the loop has decoded so far, as views, and the remaining bytes.
pub record HasRead {T X : Type 0} (F : Format X) (m : Mode) (view : T → X) (bytes : List ℕ) (items : List T) (rest : List ℕ) : Type 0 where
  pub so_far : Decodes (members F) m bytes (map view items) rest

pub loop_start : {T X : Type 0} (F : Format X) (m : Mode) (view : T → X) (bytes : List ℕ) → HasRead F m view bytes [] bytes
loop_start F m view bytes = record { so_far = members_start F m bytes }

pub loop_step : {m : Mode} {T X : Type 0} (F : Format X) (view : T → X) (bytes rest last : List ℕ) (items : List T) (x : T) → HasRead F m view bytes items rest → Decodes F m rest (view x) last → HasRead F m view bytes (items ++ x ∷ []) last
loop_step {m = m} F view bytes rest last items x h g = record { so_far = subst (λ z. Decodes (members F) m bytes z last) (sym (map-append view items (x ∷ []))) (members_step F h.so_far g) }

pub loop_rejects : {m : Mode} {T X : Type 0} (F : Format X) (view : T → X) (bytes start rest : List ℕ) (items : List T) (n taken : ℕ) → Unambiguous F → Decodes u32 m bytes n start → HasRead F m view start items rest → length items ≡ taken → taken < n → Rejects F m rest → Rejects (vec F) m bytes
loop_rejects F view bytes start rest items n taken k count h e l none = vec_rejects (map view items) k count h.so_far (subst (λ z. z < n) (sym (length-map items view ∙ e)) l) none

pub loop_decodes : {m : Mode} {T X : Type 0} (F : Format X) (view : T → X) (bytes start rest : List ℕ) (items : List T) (n : ℕ) → Decodes u32 m bytes n start → HasRead F m view start items rest → length items ≡ n → Decodes (vec F) m bytes (map view items) rest
loop_decodes F view bytes start rest items n count h e = vec_decodes F count h.so_far (length-map items view ∙ e)

pub ruleset vec_steps = (vec_rejects_count, loop_start, loop_step, loop_decodes, loop_rejects)
