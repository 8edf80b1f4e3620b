-- This file proves that a module without its custom sections decodes to the others, and how errors
-- propagate.
use Rattle.wasm_base.proofs.Words.{◌≡◌, ◌≢◌, ℕ, List, [], ◌∷◌, ◌++◌, length, Bool, true, false, if◌then◌else◌, ◌==◌, Result, Ok, Err, refl, sym, ap, subst, ◌∙◌, ne_eqb}
use Rattle.wasm_base.proofs.Words.{append-nil, padded, any_section, header, members, wasm_module, Decodes, DecodesWhole, DecodesOneMore, members_start, members_step, whole_decodes}
use Rattle.std.proofs.Common.{IfErr, IsErrAnd}
use Rattle.wasm_base.specs.declared.fault.ReadFault.TheVariants.{Memory}
use Rattle.wasm_reader.specs.declared.read_error.ReadError.{ReadError}
use Rattle.wasm_sections.proofs.Words.{prefixed_decodes}
use Rattle.examples.specs.Stripped.{not_custom, IsStripped}

-- The sections from `start` on, up to `rest`; the new bytes are a module of those that are not
-- custom.
pub record HasStripped (start rest new : List ℕ) : Type 0 where
  pub sections : List (ℕ × List ℕ)
  pub read : Decodes (members any_section) padded start sections rest
  pub kept : DecodesWhole wasm_module new (not_custom sections)

pub stripped_start : (start new : List ℕ) → DecodesWhole wasm_module new [] → HasStripped start start new
stripped_start start new h = record { sections = []; read = members_start any_section padded start; kept = h }

if_more : {X : Type 0} (b : Bool) (x : X) (xs ys : List X) → (if b then xs ++ ys else x ∷ (xs ++ ys)) ≡ (if b then xs else x ∷ xs) ++ ys
if_more true x xs ys = refl
if_more false x xs ys = refl

not_custom_more : (sections more : List (ℕ × List ℕ)) → not_custom (sections ++ more) ≡ not_custom sections ++ not_custom more
not_custom_more [] more = refl
not_custom_more (s ∷ sections) more = ap (λ z. if s.0 == 0 then z else s ∷ z) (not_custom_more sections more) ∙ if_more (s.0 == 0) s (not_custom sections) (not_custom more)

-- A custom section is left out.
pub stripped_custom : {start rest after new : List ℕ} {id : ℕ} {payload : List ℕ} → HasStripped start rest new → id ≡ 0 → Decodes any_section padded rest (id, payload) after → HasStripped start after new
stripped_custom {new = new} {id = id} {payload = payload} h e g = record {
  sections = h.sections ++ (id, payload) ∷ [];
  read = members_step any_section h.read g;
  kept = subst (λ z. DecodesWhole wasm_module new z) (sym (not_custom_more h.sections ((id, payload) ∷ []) ∙ ap (λ z. not_custom h.sections ++ z) none ∙ append-nil (not_custom h.sections))) h.kept;
}
  where
    none : not_custom ((id, payload) ∷ []) ≡ []
    none = ap (λ z. not_custom ((z, payload) ∷ [])) e

-- Another section is kept.
pub stripped_kept : {start rest after old new : List ℕ} {id : ℕ} {payload : List ℕ} → HasStripped start rest old → id ≢ 0 → Decodes any_section padded rest (id, payload) after → DecodesOneMore (λ q. q ≡ payload) id old new → HasStripped start after new
stripped_kept {new = new} {id = id} {payload = payload} h other g more = record {
  sections = h.sections ++ (id, payload) ∷ [];
  read = members_step any_section h.read g;
  kept = subst (λ z. DecodesWhole wasm_module new z) (sym (not_custom_more h.sections ((id, payload) ∷ []) ∙ ap (λ z. not_custom h.sections ++ z) one)) (more.for_each (not_custom h.sections) payload h.kept refl);
}
  where
    one : not_custom ((id, payload) ∷ []) ≡ (id, payload) ∷ []
    one = ap (λ b. if b then [] else (id, payload) ∷ []) (ne_eqb id 0 other)

pub stripped_done : (bytes : List ℕ) {start rest new : List ℕ} → bytes ≡ header ++ start → HasStripped start rest new → rest ≡ [] → IsStripped bytes new
stripped_done bytes {rest = rest} e h l = record {
  sections = h.sections;
  read = whole_decodes wasm_module bytes rest h.sections (prefixed_decodes header (members any_section) e h.read) (ap length l);
  kept = h.kept;
}

-- The cause of an error implies the same when a call propagates the error.
pub error_stays : {T P : Type 0} (r : Result T ReadError) (e : ReadError) → IsErrAnd r (λ y. y ≡ e) → (e.cause ≢ Memory → P) → IfErr r (λ y. y.cause ≢ Memory → P)
error_stays (Ok x) e h p = elim h [ ]
error_stays (Err y) e h p = λ n. p (λ k. n (ap (λ z. z.cause) h ∙ k))
