-- This file proves how readers decode size-prefixed bytes and names.
use Rattle.wasm_base.proofs.Std.{◌≡◌, ℕ, ◌<◌, ◌≤◌, List, [], ◌∷◌, length, take, drop, refl, sym, subst, IsUtf8, arith}
use Rattle.wasm_base.specs.{Mode, RejectsWhole, Format, u32, size_prefixed, any_bytes, name, Decodes, Rejects}
use Rattle.wasm_base.proofs.BaseLaws.{size_prefixed_bytes_unambiguous}
use Rattle.wasm_base.proofs.DecodingSteps.{size_prefixed_decodes, size_prefixed_rejects_size, size_prefixed_rejects_short, decodes_same, such_rejects, such_decodes, such_none}

-- ---- any bytes

pub bytes_read : {m : Mode} (bytes rest content after : List ℕ) (n : ℕ) → Decodes u32 m bytes n rest → n ≤ length rest → content ≡ take n rest → after ≡ drop n rest → Decodes (size_prefixed any_bytes) m bytes content after
bytes_read {m = m} bytes rest content after n h l c d = subst (λ z. Decodes (size_prefixed any_bytes) m bytes content z) (sym d) (size_prefixed_decodes h l (sym c))

pub bytes_no_size : {m : Mode} (bytes : List ℕ) → Rejects u32 m bytes → Rejects (size_prefixed any_bytes) m bytes
bytes_no_size bytes none = size_prefixed_rejects_size none

pub bytes_short : {m : Mode} (bytes rest : List ℕ) (n : ℕ) → Decodes u32 m bytes n rest → length rest < n → Rejects (size_prefixed any_bytes) m bytes
bytes_short bytes rest n h l = size_prefixed_rejects_short h l

pub ruleset size_prefixed_steps = (bytes_read, bytes_no_size, bytes_short)

-- ---- a value that the payload as a whole encodes

pub filled_decodes : {m : Mode} {X : Type 0} (F : Format X) (bytes content rest : List ℕ) (x : X) → Decodes (size_prefixed any_bytes) m bytes content rest → F m content x → Decodes (size_prefixed F) m bytes x rest
filled_decodes {m = m} F bytes content rest x h g =
    let f = h.encodes in
    record { front = h.front; split = h.split; encodes = record { front = f.front; content = f.content; joined = f.joined; size = f.size; encodes = subst (λ z. F m z x) (sym f.encodes) g } }

any_size_prefixed : {m : Mode} {X : Type 0} (F : Format X) (bytes rest : List ℕ) (x : X) → (h : Decodes (size_prefixed F) m bytes x rest) → Decodes (size_prefixed any_bytes) m bytes h.encodes.content rest
any_size_prefixed F bytes rest x h =
    let f = h.encodes in
    record { front = h.front; split = h.split; encodes = record { front = f.front; content = f.content; joined = f.joined; size = f.size; encodes = refl } }

pub filled_none : {m : Mode} {X : Type 0} (F : Format X) (bytes : List ℕ) → Rejects (size_prefixed any_bytes) m bytes → Rejects (size_prefixed F) m bytes
filled_none F bytes n = record { none = λ x rest h. n.none h.encodes.content rest (any_size_prefixed F bytes rest x h) }

pub filled_rejects : {m : Mode} {X : Type 0} (F : Format X) (bytes content rest : List ℕ) → Decodes (size_prefixed any_bytes) m bytes content rest → RejectsWhole F m content → Rejects (size_prefixed F) m bytes
filled_rejects {m = m} F bytes content rest h n = record {
  none = λ x last g. n.none x (subst (λ z. F m z x) (sym (decodes_same size_prefixed_bytes_unambiguous h (any_size_prefixed F bytes last x g)).0) g.encodes.encodes);
}

pub ruleset filled_steps = (filled_decodes, filled_none, filled_rejects)

pub none_left : {X : Type 0} (xs : List X) → length xs ≡ 0 → xs ≡ []
none_left [] e = refl
none_left (x ∷ xs) e = absurd (omega arith)

-- ---- names

pub name_decodes : {m : Mode} (bytes encoding rest : List ℕ) → Decodes (size_prefixed any_bytes) m bytes encoding rest → IsUtf8 encoding → Decodes name m bytes encoding rest
name_decodes bytes encoding rest h u = such_decodes IsUtf8 h u

pub name_none : {m : Mode} (bytes : List ℕ) → Rejects (size_prefixed any_bytes) m bytes → Rejects name m bytes
name_none bytes none = such_none IsUtf8 none

pub name_faulty : {m : Mode} (bytes encoding rest : List ℕ) → Decodes (size_prefixed any_bytes) m bytes encoding rest → (IsUtf8 encoding → ⊥) → Rejects name m bytes
name_faulty bytes encoding rest h u = such_rejects IsUtf8 size_prefixed_bytes_unambiguous h u

pub ruleset name_steps = (name_none, name_decodes, name_faulty)
