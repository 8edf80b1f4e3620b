-- This file proves how readers decode instructions up to the last byte and up to `end`, and bodies.
use Rattle.wasm_base.proofs.Words.{Mode, ◌≡◌, ◌≢◌, ℕ, ◌≤◌, ◌-◌, List, [], ◌∷◌, ◌++◌, length, map, take, drop, slice_index_or, Bool, true, false, refl, sym, ap, subst, ◌∙◌, append_assoc, append-nil}
use Rattle.wasm_base.proofs.Words.{ne_eqb, byte_unambiguous, map-append, map-id, Format, byte, members, ended, pair, vec, u32, such, when, mapped, fixed, val_type, Unambiguous, BeginsWith, Decodes}
use Rattle.wasm_base.proofs.Words.{Rejects, Continues, RejectsWhole, decodes_same, such_decodes, front_and_rest}
use Rattle.wasm_base.specs.declared.types.ValType.{ValType}
use Rattle.wasm_insn.specs.declared.op.Op.{Op}
use Rattle.wasm_insn.proofs.Words.{Plain, instruction, same_op, is_prefix, op_after, table}
use Rattle.wasm_insn.specs.declared.op.Op.TheVariants.{Byte, Prefixed}
use Rattle.wasm_code.specs.{IsNoEnd, body}
use Rattle.wasm_code.proofs.BodyLaws.{runs_unambiguous}

-- ---- members up to a stop byte

abbrev pub HasEnded : {T X : Type 0} → ℕ → Format X → Mode → (T → X) → List ℕ → List T → List ℕ → Type 0
HasEnded stop F m view bytes items rest = Continues m (ended stop F) bytes (ended stop F) rest (λ ys. map view items ++ ys)

module _ {T X : Type 0} (stop : ℕ) (F : Format X) (view : T → X) (bytes : List ℕ) where
  pub ended_start : {m : Mode} → HasEnded stop F m view bytes [] bytes
  ended_start = record { found = λ ys last h. h; none = λ n. n }

  pub ended_step : {m : Mode} → Unambiguous F → (b : ℕ) (rest tail after : List ℕ) (items : List T) (x : T) → HasEnded stop F m view bytes items rest → rest ≡ b ∷ tail → b ≢ stop → Decodes F m rest (view x) after → HasEnded stop F m view bytes (items ++ x ∷ []) after
  ended_step {m = m} f b rest tail after items x go e other g = record {
    found = λ ys last h.
        subst (λ z. Decodes (ended stop F) m bytes z last) (sym (ap (λ z. z ++ ys) (map-append view items (x ∷ [])) ∙ append_assoc (map view items) (view x ∷ []) ys))
        (go.found (view x ∷ ys) last (record { front = g.front ++ h.front; split = g.split ∙ ap (λ z. g.front ++ z) h.split ∙ sym (append_assoc g.front h.front last); encodes = (g.front, h.front, refl, g.encodes, h.encodes) }));
    none = λ n. go.none (record { none = none n });
  }
    where
      none : Rejects (ended stop F) m after → (ys : List X) (last : List ℕ) → Decodes (ended stop F) m rest ys last → ⊥
      none n [] last h = other (first (sym e ∙ h.split ∙ ap (λ z. z ++ last) h.encodes))
        where
          first : b ∷ tail ≡ stop ∷ last → b ≡ stop
          first e = cc e
      none n (y ∷ ys) last h =
          let s = h.encodes in
          let same = decodes_same f g (record { front = s.0; split = h.split ∙ ap (λ z. z ++ last) s.2 ∙ append_assoc s.0 s.1 last; encodes = s.3 }) in
          n.none ys last (record { front = s.1; split = same.1; encodes = s.4 })

  pub ended_fail : {m : Mode} (b : ℕ) (rest tail : List ℕ) (items : List T) → HasEnded stop F m view bytes items rest → rest ≡ b ∷ tail → b ≢ stop → Rejects F m rest → Rejects (ended stop F) m bytes
  ended_fail {m = m} b rest tail items go e other n = go.none (record { none = none })
    where
      none : (ys : List X) (last : List ℕ) → Decodes (ended stop F) m rest ys last → ⊥
      none [] last h = other (first (sym e ∙ h.split ∙ ap (λ z. z ++ last) h.encodes))
        where
          first : b ∷ tail ≡ stop ∷ last → b ≡ stop
          first e = cc e
      none (y ∷ ys) last h =
          let s = h.encodes in
          n.none y (s.1 ++ last) (record { front = s.0; split = h.split ∙ ap (λ z. z ++ last) s.2 ∙ append_assoc s.0 s.1 last; encodes = s.3 })

  pub ended_done : {m : Mode} (rest after : List ℕ) (items : List T) → HasEnded stop F m view bytes items rest → rest ≡ stop ∷ after → Decodes (ended stop F) m bytes (map view items) after
  ended_done {m = m} rest after items go e =
      let none : List X = [] in
      subst (λ z. Decodes (ended stop F) m bytes z after) (append-nil (map view items)) (go.found [] after (record { front = stop ∷ []; split = e; encodes = refl }))

  pub ended_short : {m : Mode} → BeginsWith (λ b. Unit {0}) F → (rest : List ℕ) (items : List T) → HasEnded stop F m view bytes items rest → rest ≡ [] → Rejects (ended stop F) m bytes
  ended_short {m = m} begins rest items go e = go.none (record { none = none })
    where
      none : (ys : List X) (last : List ℕ) → Decodes (ended stop F) m rest ys last → ⊥
      none [] last h = absurd (cc (e, h.split, ap (λ z. z ++ last) h.encodes))
      none (y ∷ ys) last h =
          let s = h.encodes in
          let b = begins m s.0 y s.3 in
          absurd (cc (e, h.split, ap (λ z. z ++ last) s.2, ap (λ z. z ++ s.1 ++ last) b.2))

-- ---- the instruction `end`

byte_after : (m : Mode) (c d : ℕ) (s : List ℕ) (op : Op) → op_after c m s op → op ≡ Byte d → c ≡ d
byte_after m c d s op h e = go (is_prefix c) h
  where
    go : (test : Bool) → when test (mapped (Prefixed c) u32) (fixed [] (Byte c)) m s op → c ≡ d
    go true k = absurd (cc (k.1, e))
    go false k = let same : Byte c ≡ Byte d = sym k.1 ∙ e in cc same

-- An instruction that begins with another byte than 0B is not `end`.
pub not_end : {m : Mode} (bytes tail rest : List ℕ) (b : ℕ) (i : Plain) → bytes ≡ b ∷ tail → b ≢ 0x0B → Decodes (instruction table) m bytes i rest → Decodes (such IsNoEnd (instruction table)) m bytes i rest
not_end {m = m} bytes tail rest b i e other h = such_decodes IsNoEnd h (is_other i.op (λ op. other (byte_of op)))
  where
    is_other : (op : Op) → (op ≡ Byte 0x0B → ⊥) → same_op op (Byte 0x0B) ≡ false
    is_other (Byte c) p = ne_eqb c 0x0B (λ f. p (ap Byte f))
    is_other (Prefixed p n) q = refl

    byte_of : i.op ≡ Byte 0x0B → b ≡ 0x0B
    byte_of f =
        let op = h.encodes.2.first in
        let first : Decodes byte m bytes op.0.0 _ = record { front = op.0.0 ∷ []; split = h.split ∙ ap (λ z. z ++ rest) (h.encodes.2.joined ∙ ap (λ z. z ++ h.encodes.2.back) (op.2.joined ∙ ap (λ z. z ++ op.2.back) op.2.first)); encodes = refl } in
        let given : Decodes byte m bytes b tail = record { front = b ∷ []; split = e; encodes = refl } in
        (decodes_same byte_unambiguous given first).0 ∙ byte_after m op.0.0 0x0B op.2.back op.0.1 op.2.second (op.1 ∙ ap (λ i. i.op) h.encodes.1 ∙ f)

-- ---- bodies

pub body_fills : {m : Mode} (bytes rest : List ℕ) (runs : List (ℕ × ValType)) (code : List Plain) → Decodes (vec (pair u32 val_type)) m bytes runs rest → members (instruction table) m rest code → body m bytes (record { runs = runs; code = code })
body_fills bytes rest runs code h g = ((runs, code), refl, record { front = h.front; back = rest; joined = h.split; first = h.encodes; second = g })

pub body_no_runs : {m : Mode} (bytes : List ℕ) → Rejects (vec (pair u32 val_type)) m bytes → RejectsWhole body m bytes
body_no_runs bytes n = record { none = λ x h. n.none h.0.0 h.2.back (record { front = h.2.front; split = h.2.joined; encodes = h.2.first }) }

pub body_no_code : {m : Mode} (bytes rest : List ℕ) (runs : List (ℕ × ValType)) → Decodes (vec (pair u32 val_type)) m bytes runs rest → RejectsWhole (members (instruction table)) m rest → RejectsWhole body m bytes
body_no_code {m = m} bytes rest runs h n = record {
  none = λ x g.
      let same = decodes_same runs_unambiguous h (record { front = g.2.front; split = g.2.joined; encodes = g.2.first }) in
      n.none g.0.1 (subst (λ z. members (instruction table) m z g.0.1) (sym same.1) g.2.second);
}

-- The runs as a reader views them.
pub body_fills_viewed : {m : Mode} (bytes rest : List ℕ) (runs : List (ℕ × ValType)) (code : List Plain) → Decodes (vec (pair u32 val_type)) m bytes (map (λ r. (r.0, r.1)) runs) rest → members (instruction table) m rest code → body m bytes (record { runs = runs; code = code })
body_fills_viewed {m = m} bytes rest runs code h g = body_fills bytes rest runs code (subst (λ z. Decodes (vec (pair u32 val_type)) m bytes z rest) (map-id runs) h) g

pub ruleset body_steps = (body_no_runs, body_no_code)

pub front_is : (stop : ℕ) (bytes : List ℕ) → 1 ≤ length bytes → slice_index_or bytes 0 0 ≡ stop → bytes ≡ stop ∷ take (length bytes - 1) (drop 1 bytes)
front_is stop bytes l e = front_and_rest bytes l ∙ ap (λ z. z ∷ take (length bytes - 1) (drop 1 bytes)) e
