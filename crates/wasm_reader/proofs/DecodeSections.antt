-- This file proves how the reader decodes the content of a section.
use Rattle.wasm_reader.specs.{Contents, content, section, TakesIn}
use Rattle.wasm_reader.specs.declared.kinds.SectionKind.{SectionKind}
use Rattle.wasm_base.proofs.Words.{◌≡◌, ℕ, ◌≤◌, ◌+◌, List, length, drop, sym, ap, subst, ◌∙◌, arith, drop_at, RejectsWhole, Mode, Grammar, padded_of, Format, any_bytes, size_prefixed, Decodes, Rejects, filled_decodes}
use Rattle.wasm_base.proofs.Words.{filled_none, filled_rejects}
use Rattle.std.proofs.lemmas.List.{length-append}

-- ---- sections

pub shorter : {X : Type 0} {F : Format X} {m : Mode} {bytes rest : List ℕ} {x : X} → Decodes F m bytes x rest → length rest ≤ length bytes
shorter {rest = rest} h = omega (arith, ap length h.split, length-append h.front rest)

-- The number of bytes used is the number that do not remain.
pub taken : {X : Type 0} {F : Format X} {m : Mode} (bytes rest : List ℕ) (x : X) (n : ℕ) → Decodes F m bytes x rest → n + length rest ≡ length bytes → Decodes F m bytes x (drop n bytes)
taken {F = F} {m = m} bytes rest x n h e = subst (λ z. Decodes F m bytes x z) (sym (ap (drop n) h.split ∙ drop_at h.front rest n (omega (arith, e, ap length h.split, length-append h.front rest)))) h

pub takes : (w : Grammar) (kind : SectionKind) (bytes sized rest : List ℕ) (x : Contents) (n : ℕ) → Decodes (size_prefixed any_bytes) (padded_of w) bytes sized rest → content kind (padded_of w) sized x → n + length rest ≡ length bytes → TakesIn w kind bytes x n
takes w kind bytes sized rest x n h g e = record { within = omega (arith, e); decodes = taken bytes rest x n (filled_decodes (content kind) bytes sized rest x h g) e }

pub section_none : {m : Mode} (kind : SectionKind) (bytes : List ℕ) → Rejects (size_prefixed any_bytes) m bytes → Rejects (section kind) m bytes
section_none kind bytes n = filled_none (content kind) bytes n

pub section_rejects : {m : Mode} (kind : SectionKind) (bytes sized rest : List ℕ) → Decodes (size_prefixed any_bytes) m bytes sized rest → RejectsWhole (content kind) m sized → Rejects (section kind) m bytes
section_rejects kind bytes sized rest h n = filled_rejects (content kind) bytes sized rest h n

pub ruleset section_steps = (takes)
