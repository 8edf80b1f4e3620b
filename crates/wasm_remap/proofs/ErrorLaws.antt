-- This file proves why calls that edit a module fail.
use Rattle.wasm_base.proofs.Words.{◌≡◌, ◌≢◌, ◌⊎◌, ℕ, ◌^◌, ◌<◌, List, ◌++◌, length, flat_map, header, Bool, true, false, cond, inl, inr, refl, sym, ap, subst, ◌∙◌, Rejects, RejectsWhole, padded, standard, any_section, size_prefixed, vec, wasm_module}
use Rattle.wasm_code.specs.Words.{body}
use Rattle.std.specs.Prelude.{Result, Ok, Err, IfErr, IsErrAnd}
use Rattle.std.proofs.lemmas.Bool.{false≢true}
use Rattle.wasm_base.specs.declared.fault.ReadFault.TheVariants as faults
use Rattle.wasm_base.specs.declared.refused.Refused.{Refused}
use Rattle.wasm_base.specs.declared.refused.Refused.TheVariants as refusals
use Rattle.wasm_reader.specs.Iterating.{GivesError, GivesSection, Iterating, Located, ahead}
use Rattle.wasm_reader.specs.Kinds.{Contents, content}
use Rattle.wasm_reader.specs.Outlines.{HasSections, bytes_of}
use Rattle.wasm_reader.specs.Shortening.{contains_offsets}
use Rattle.wasm_reader.specs.Words.{Section, section_kind_of}
use Rattle.wasm_reader.specs.declared.read_error.ReadError.{ReadError}
use Rattle.wasm_reader.specs.declared.whole.Offsets.{Offsets}
use Rattle.wasm_reader.specs.declared.whole.Offsets.TheVariants.{Refuse}
use Rattle.wasm_reader.proofs.DecodeOutlines.{any_of, no_header, no_module, sections_read}
use Rattle.wasm_remap.specs.Errors.{ExplainsBodies, ExplainsBody, ExplainsChange, ExplainsContent, ExplainsInsert, ExplainsItems, ExplainsJoin, ExplainsModule, HasFirst, HasSection, AreTooMany, IsTooLong, error_of, is_memory}
use Rattle.wasm_remap.specs.Mapping.{ComesFrom}
use Rattle.wasm_remap.specs.declared.insert.Position.{Position}
use Rattle.wasm_remap.specs.declared.indexed.RemapError.{RemapError}
use Rattle.wasm_remap.specs.declared.indexed.RemapError.TheVariants as errors
use Rattle.wasm_remap.specs.declared.spaces.IndexSpace.{IndexSpace}
use Rattle.wasm_remap.specs.Places.{IsFound, sections_in}
use Rattle.wasm_remap.proofs.ModuleLaws.{HasChanged}
use Rattle.wasm_remap.proofs.PlaceLaws.{HasListed}

-- ---- results

-- A call returns this error.
pub fails_with : {T E : Type 0} (Why : E → Type 0) (r : Result T E) (y : E) → IsErrAnd r (λ x. x ≡ y) → Why y → IfErr r Why
fails_with Why (Ok x) y h p = tt
fails_with Why (Err e) y h p = subst Why (sym h) p

-- What follows from the error of a call.
pub if_err_more : {T E : Type 0} {P Q : E → Type 0} (r : Result T E) → ((e : E) → P e → Q e) → IfErr r P → IfErr r Q
if_err_more (Ok x) f p = tt
if_err_more (Err e) f p = f e p

-- ---- the errors of the reader

-- The cause is not a failed allocation, or the error is `Memory`.
pub read_explained : {E : Type 0} (Why : RemapError E → Type 0) (fault : ReadError) → Why (errors.Refused refusals.Memory) → (fault.cause ≢ faults.Memory → Why (errors.Read fault)) → Why (error_of fault)
read_explained {E = E} Why fault memory read = go (is_memory fault.cause) refl
  where
    go : (b : Bool) → is_memory fault.cause ≡ b → Why (cond b (errors.Refused refusals.Memory) (errors.Read fault))
    go true e = memory
    go false e = read (λ m. absurd (false≢true (sym e ∙ ap is_memory m)))

-- ---- items

pub comes_explained : {E : Type 0} (f : Contents → Contents) (rejects : IndexSpace → ℕ → E → Type 0) (x : Contents) (e : RemapError E) → ComesFrom rejects e → ExplainsItems f rejects x e
comes_explained f rejects x (errors.Read fault) h = h
comes_explained f rejects x (errors.Refused refused) h = λ n. absurd (n h)
comes_explained f rejects x (errors.Index e) h = h
comes_explained f rejects x (errors.Offsets offset) h = h

-- A call that appends fails with `TooLong` only for items without an encoding.
pub too_long_explained : {Has : Type 0} (refused : Refused) → (Has → refused ≢ refusals.TooLong) → refused ≢ refusals.Memory → Has → ⊥
too_long_explained refusals.Memory h n has = n refl
too_long_explained refusals.TooLong h n has = h has refl

pub items_explained : {E : Type 0} (f : Contents → Contents) (rejects : IndexSpace → ℕ → E → Type 0) (s : Section) (x : Contents) (e : RemapError E) → content (section_kind_of s) standard s.payload x → ExplainsItems f rejects x e → ExplainsContent f rejects s e
items_explained f rejects s x (errors.Read fault) d h = absurd h
items_explained f rejects s x (errors.Refused refused) d h = λ n. (x, d, h n)
items_explained f rejects s x (errors.Index e) d h = h
items_explained f rejects s x (errors.Offsets offset) d h = h

-- ---- bodies

-- A body of a code section that does not decode.
pub bodies_explained : {E : Type 0} {bytes payload : List ℕ} (e : RemapError E) → (RejectsWhole body standard bytes → RejectsWhole (vec (size_prefixed body)) standard payload) → ExplainsBody bytes e → ExplainsBodies payload e
bodies_explained (errors.Read fault) f h = f h
bodies_explained (errors.Refused refused) f h = h
bodies_explained (errors.Index e) f h = h
bodies_explained (errors.Offsets offset) f h = h

-- ---- modules

module _ {E : Type 0} (R : Section → List ℕ → Type 0) (Why : Section → RemapError E → Type 0) where
  -- The change of a section fails.
  pub change_explained : (s : Section) (e : RemapError E) → Why s e → ExplainsChange R Why s e
  change_explained s (errors.Read fault) h = h
  change_explained s (errors.Refused refused) h = λ n. inl h
  change_explained s (errors.Index e) h = h
  change_explained s (errors.Offsets offset) h = h

  -- The changed section is too long.
  pub long_explained : (s : Section) (payload : List ℕ) (refused : Refused) → R s payload → (length payload < 2 ^ 32 → refused ≢ refusals.TooLong) → ExplainsChange R Why s (errors.Refused refused)
  long_explained s payload refused r h = λ n. inr (payload, r, too_long_explained refused h n)

  -- A section of a module fails.
  pub section_explained : (offsets : Offsets) (bytes : List ℕ) (s : Section) (e : RemapError E) → ((offset : ℕ) → Why s (errors.Offsets offset) → ⊥) → HasSection bytes s → contains_offsets s.name ≡ false → ExplainsChange R Why s e → ExplainsModule (ExplainsChange R Why) offsets bytes e
  section_explained offsets bytes s (errors.Read fault) none has kept h = inr (s, has, kept, h)
  section_explained offsets bytes s (errors.Refused refused) none has kept h = λ n. (s, has, kept, h)
  section_explained offsets bytes s (errors.Index e) none has kept h = (s, has, kept, h)
  section_explained offsets bytes s (errors.Offsets offset) none has kept h = absurd (none offset h)

  -- The bytes are no module.
  pub no_module_explained : (offsets : Offsets) (bytes : List ℕ) (fault : ReadError) → (fault.cause ≢ faults.Memory → RejectsWhole wasm_module padded bytes) → ExplainsModule (ExplainsChange R Why) offsets bytes (error_of fault)
  no_module_explained offsets bytes fault h = read_explained (ExplainsModule (ExplainsChange R Why) offsets bytes) fault (λ n. absurd (n refl)) (λ n. inl (h n))

-- The same of more changed sections.
pub explains_each : {E : Type 0} {R Q : Section → List ℕ → Type 0} (Why : Section → RemapError E → Type 0) (offsets : Offsets) (bytes : List ℕ) → ((s : Section) (payload : List ℕ) → R s payload → Q s payload) → (e : RemapError E) → ExplainsModule (ExplainsChange R Why) offsets bytes e → ExplainsModule (ExplainsChange Q Why) offsets bytes e
explains_each Why offsets bytes f (errors.Read fault) (inl h) = inl h
explains_each Why offsets bytes f (errors.Read fault) (inr h) = inr h
explains_each {R = R} {Q = Q} Why offsets bytes f (errors.Refused refused) h = λ n. let k = h n in (k.0, k.1, k.2, λ m. go k.0 (k.3 m))
  where
    go : (s : Section) → Why s (errors.Refused refused) ⊎ ((payload : List ℕ) × R s payload × (length payload < 2 ^ 32 → ⊥)) → Why s (errors.Refused refused) ⊎ ((payload : List ℕ) × Q s payload × (length payload < 2 ^ 32 → ⊥))
    go s (inl w) = inl w
    go s (inr w) = inr (w.0, f s w.0 w.1, w.2)
explains_each Why offsets bytes f (errors.Index e) h = h
explains_each Why offsets bytes f (errors.Offsets offset) h = h

-- The section that the iterator returns is one of the module.
pub has_section : (bytes : List ℕ) {R : Section → List ℕ → Type 0} {offsets : Offsets} {start new : List ℕ} {old after : Iterating} {s : Located} → bytes ≡ header ++ start → HasChanged R offsets start (ahead old) new → GivesSection old s after → HasSection bytes s.section
has_section bytes {old = old} {after = after} {s = s} e h g =
    record { before = h.olds; after = ahead after; joined = e ∙ ap (λ z. header ++ z) (h.joined ∙ ap (λ z. flat_map bytes_of h.olds ++ z) g.split); each = h.each; is_section = g.is_section }

-- No section follows those that were read.
pub changed_malformed : (bytes : List ℕ) {R : Section → List ℕ → Type 0} {offsets : Offsets} {start new : List ℕ} {old after : Iterating} {e : ReadError} → bytes ≡ header ++ start → HasChanged R offsets start (ahead old) new → GivesError old e after → e.cause ≢ faults.Memory → RejectsWhole wasm_module padded bytes
changed_malformed bytes {start = start} {old = old} at h g n = no_module bytes start (ahead old) _ at (sections_read start (ahead old) h.olds h.each h.joined) g.more (g.none n)

-- The same of a list of sections.
pub listed_malformed : (bytes : List ℕ) {start : List ℕ} {list : List Located} {old after : Iterating} {e : ReadError} → bytes ≡ header ++ start → HasListed start (ahead old) list → GivesError old e after → e.cause ≢ faults.Memory → RejectsWhole wasm_module padded bytes
listed_malformed bytes {start = start} {list = list} {old = old} at h g n = no_module bytes start (ahead old) _ at (sections_read start (ahead old) (sections_in list) h.each h.joined) g.more (g.none n)

-- ---- inserted sections

-- The first section of an id.
pub first_of : {id : ℕ} {bytes : List ℕ} {before after : List Section} {s : Section} (all : List Section) {P : Section → Type 0} → IsFound id before s after all → HasSections bytes all → P s → HasFirst id bytes P
first_of {before = before} {after = after} {s = s} all found has p = record { olds = all; has = has; before = before; section = s; after = after; found = found; property = p }

-- The members of a section are not joined with those of the first old one.
pub join_explained : {E : Type 0} (p : Position) (id : ℕ) (Encodable : Type 0) (new bytes : List ℕ) (s : Section) (e : RemapError E) → ((P : Section → Type 0) → P s → HasFirst id bytes P) → ExplainsJoin Encodable new s.payload e → ExplainsInsert p id Encodable new bytes e
join_explained p id Encodable new bytes s (errors.Read fault) first h = inr (first _ h)
join_explained p id Encodable new bytes s (errors.Refused refused) first h = λ n. go (h n)
  where
    go : (Encodable → ⊥) ⊎ AreTooMany new s.payload → (Encodable → ⊥) ⊎ HasFirst id bytes (λ s. AreTooMany new s.payload ⊎ IsTooLong p new s.payload)
    go (inl k) = inl k
    go (inr k) = inr (first _ (inl k))
join_explained p id Encodable new bytes s (errors.Index e) first h = h
join_explained p id Encodable new bytes s (errors.Offsets offset) first h = h
