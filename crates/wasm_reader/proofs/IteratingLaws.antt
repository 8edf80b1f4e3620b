-- This file proves how the iterators over sections and over bodies advance.
use Rattle.wasm_base.proofs.Words.{◌≡◌, ◌≢◌, ℕ, ◌+◌, ◌-◌, ◌<◌, ◌≤◌, List, [], ◌∷◌, ◌++◌, length, take, drop, Some, Result, Ok, Err, refl, sym, ap, subst, ◌∙◌, arith, drop_at, drop-drop, drop_all}
use Rattle.wasm_base.proofs.Words.{length-drop, length-take-le, padded, any_bytes, any_section, byte, size_prefixed, header, Decodes, Rejects}
use Rattle.std.proofs.lemmas.List.{length-append}
use Rattle.wasm_base.specs.declared.fault.ReadFault.TheVariants.{Memory}
use Rattle.wasm_reader.specs.{Section, IsSection, bytes_of}
use Rattle.wasm_reader.specs.Iterating.{Iterating, Located, ahead, GivesSection, GivesError, NextSection}
use Rattle.wasm_reader.specs.declared.read_error.ReadError.{ReadError}
use Rattle.wasm_reader.proofs.DecodeOutlines.{one_section}

-- ---- offsets

-- The suffix after a front of the bytes at an offset begins at the offset that its length implies.
pub follows : (bytes front rest : List ℕ) (offset : ℕ) → offset ≤ length bytes → drop offset bytes ≡ front ++ rest → drop (length bytes - length rest) bytes ≡ rest
follows bytes front rest offset l e =
    let long : length (drop offset bytes) ≡ length front + length rest = ap length e ∙ length-append front rest in
    let at : length bytes - length rest ≡ offset + length front = omega (arith, l, long, length-drop offset bytes) in
    ap (λ n. drop n bytes) at ∙ sym (drop-drop (length front) offset bytes) ∙ ap (drop (length front)) e ∙ drop_at front rest (length front) refl

-- No bytes are ahead of an offset in the bytes before it.
pub none_after : (bytes : List ℕ) (offset : ℕ) → offset ≤ length bytes → drop offset (take offset bytes) ≡ []
none_after bytes offset l = drop_all offset (take offset bytes) (omega (arith, length-take-le offset bytes l))

-- The sections begin after the header.
pub begin_sections : (bytes rest : List ℕ) → bytes ≡ header ++ rest → drop (length bytes - length rest) bytes ≡ rest
begin_sections bytes rest e = follows bytes header rest 0 (omega arith) e

-- ---- steps

module _ (bytes rest : List ℕ) (offset : ℕ) (s : Section) where
  pub gives_section : IsSection s → drop offset bytes ≡ bytes_of s ++ rest → GivesSection (record { bytes = bytes; offset = offset }) (record { offset = offset; section = s }) (record { bytes = bytes; offset = offset + length (bytes_of s) })
  gives_section i e = record {
    is_section = i;
    offset = refl;
    split = e ∙ ap (λ z. bytes_of s ++ z) (sym (sym (drop-drop (length (bytes_of s)) offset bytes) ∙ ap (drop (length (bytes_of s))) e ∙ drop_at (bytes_of s) rest (length (bytes_of s)) refl));
    after = refl;
    bytes = refl;
  }

  -- The section ends within the module.
  pub ends_within : offset ≤ length bytes → drop offset bytes ≡ bytes_of s ++ rest → offset + length (bytes_of s) ≤ length bytes
  ends_within l e = omega (arith, l, length-drop offset bytes, ap length e, length-append (bytes_of s) rest)

pub gives_error : (bytes : List ℕ) (offset : ℕ) (e : ReadError) → (e.cause ≢ Memory → Rejects any_section padded (drop offset bytes)) → e.cause ≢ Memory → drop offset bytes ≢ [] → offset ≤ e.offset → e.offset ≤ length bytes → GivesError (record { bytes = bytes; offset = offset }) e (record { bytes = take offset bytes; offset = offset })
gives_error bytes offset e none memory more from within = record { none = none; no_memory = memory; more = more; from = from; within = within; ended = none_after bytes offset (omega (arith, from, within)); stays = refl }

-- A result of `next` that is a section, or an error.
pub next_section : {old new : Iterating} {r : Result Located ReadError} {s : Located} → r ≡ Ok s → NextSection old (Some r) new → GivesSection old s new
next_section {old = old} {new = new} e h = subst (λ z. NextSection old (Some z) new) e h

pub next_error : {old new : Iterating} {r : Result Located ReadError} {e : ReadError} → r ≡ Err e → NextSection old (Some r) new → GivesError old e new
next_error {old = old} {new = new} e h = subst (λ z. NextSection old (Some z) new) e h

-- Fewer bytes are ahead after a section.
pub section_shrinks : {old new : Iterating} {s : Located} → GivesSection old s new → length (ahead new) < length (ahead old)
section_shrinks {new = new} {s = s} g = omega (arith, ap length g.split, length-append (bytes_of s.section) (ahead new))

pub error_shrinks : {old new : Iterating} {e : ReadError} → GivesError old e new → length (ahead new) < length (ahead old)
error_shrinks {old = old} g = omega (arith, ap length g.ended, some_long (ahead old) g.more)
  where
    some_long : (xs : List ℕ) → xs ≢ [] → 0 < length xs
    some_long [] p = absurd (p refl)
    some_long (x ∷ xs) p = omega arith

-- ---- a section at the front

module _ {old new : Iterating} {s : Located} (g : GivesSection old s new) where
  pub id_ahead : Decodes byte padded (ahead old) s.section.id (s.section.sized ++ ahead new)
  id_ahead = record { front = s.section.id ∷ []; split = g.split; encodes = refl }

  -- The next section, as an id and any payload.
  pub section_ahead : Decodes any_section padded (ahead old) (s.section.id, s.section.payload) (ahead new)
  section_ahead = record { front = bytes_of s.section; split = g.split; encodes = one_section s.section g.is_section }

  pub payload_ahead : Decodes (size_prefixed any_bytes) padded (s.section.sized ++ ahead new) s.section.payload (ahead new)
  payload_ahead = record { front = s.section.sized; split = refl; encodes = g.is_section.contains }

  pub more_ahead : ahead old ≢ []
  more_ahead e = omega (arith, ap length (sym g.split ∙ e))

-- After a section, the offset and the bytes ahead end where they did.
pub end_stays : {old new : Iterating} {s : Located} → GivesSection old s new → new.offset + length (ahead new) ≡ old.offset + length (ahead old)
end_stays {new = new} {s = s} g = omega (arith, g.offset, g.after, ap length g.split, length-append (bytes_of s.section) (ahead new))
