-- This file proves the result of the readers at a known section: lemmas that a caller's proof
-- cites.
use Rattle.wasm_base.proofs.Words.{◌≡◌, ℕ, ◌≤◌, List, [], ◌++◌, length, refl, sym, ap, subst, ◌∙◌, append-nil, Format, size_prefixed, mapped, wasm_module, GainsDecoding, GainsDecodingPadded, minimal}
use Rattle.wasm_base.proofs.Words.{padded, builders, Decodes, Rejects}
use Rattle.wasm_reader.specs.{Contents, section, Takes, Shortens, ShortensModule, Explains, IsMemory, IsIdempotent}
use Rattle.wasm_reader.specs.declared.kinds.SectionKind.{SectionKind}
use Rattle.wasm_reader.specs.declared.whole.Offsets.{Offsets}
use Rattle.wasm_reader.specs.declared.whole.ModuleFault.{ModuleFault}
use Rattle.wasm_reader.proofs.MinimalSections.{section_unambiguous}

-- ---- encoded sections

-- A buffer that was empty and gained a section encodes it minimally. The constructor of `Contents`
-- is an argument, as in `written Tables`.
pub written : {X : Type 0} {F : Format X} (say : X → Contents) {old new : List ℕ} {x : X} → old ≡ [] → GainsDecoding (size_prefixed F) x old new → size_prefixed (mapped say F) minimal new (say x)
written {F = F} say {x = x} e g =
    let s = g.unique.encodes in
    subst (λ z. size_prefixed (mapped say F) minimal z (say x)) (sym (g.added ∙ ap (λ z. z ++ g.encoding) e))
    (record { front = s.front; content = s.content; joined = s.joined; size = s.size; encodes = (x, refl, s.encodes) })

-- A buffer that was empty and gained a possibly padded section begins with it.
pub written_padded : {X : Type 0} {F : Format X} (say : X → Contents) {old new : List ℕ} {x : X} → old ≡ [] → GainsDecodingPadded (size_prefixed F) x old new → Decodes (size_prefixed (mapped say F)) padded new (say x) []
written_padded {F = F} say {new = new} {x = x} e g =
    let s = g.unique.encodes in
    let encodes = subst (λ z. size_prefixed (mapped say F) padded z (say x)) (sym (g.added ∙ ap (λ z. z ++ g.encoding) e)) (record { front = s.front; content = s.content; joined = s.joined; size = s.size; encodes = (x, refl, s.encodes) }) in
    record { front = new; split = sym (append-nil new); encodes = encodes }

-- ---- bytes that begin with a section of any kind, possibly padded

-- The reader returns these items.
pub decodes_padded : {kind : SectionKind} {bytes rest : List ℕ} {x y : Contents} {n : ℕ} → Takes kind bytes y n → Decodes (section kind) padded bytes x rest → y ≡ x
decodes_padded {kind = kind} h r =
    ((section_unambiguous kind).unique padded h.decodes.front r.front _ _ _ _ h.decodes.encodes r.encodes (sym h.decodes.split ∙ r.split)).0

-- The reader returns no error except `Memory`.
pub padded_not_rejected : (kind : SectionKind) {bytes rest : List ℕ} {x : Contents} → Rejects (section kind) padded bytes → Decodes (section kind) padded bytes x rest → ⊥
padded_not_rejected kind {rest = rest} {x = x} n r = n.none x rest r

-- The minimizer appends the minimal encoding of these items.
pub shortens_padded : {kind : SectionKind} {padded_bytes rest bytes : List ℕ} {x : Contents} {n : ℕ} {old new : List ℕ} → Shortens kind padded_bytes n old new → Decodes (section kind) padded padded_bytes x rest → section kind minimal bytes x → new ≡ old ++ bytes
shortens_padded {kind = kind} {bytes = bytes} {x = x} {old = old} h r s =
    h.appended ∙ ap (λ t. old ++ t) ((section_unambiguous kind).encodings.one builders h.encoding bytes x (subst (λ z. section kind minimal h.encoding z) (decodes_padded h.takes r) h.encodes) s)

-- ---- a minimally encoded section of any kind, as `written` states for a buffer

at_front : (kind : SectionKind) {bytes : List ℕ} {x : Contents} → section kind minimal bytes x → Decodes (section kind) padded bytes x []
at_front kind {bytes = bytes} {x = x} s = record { front = bytes; split = sym (append-nil bytes); encodes = (section_unambiguous kind).encodings.included minimal padded tt bytes x s }

-- The reader returns the items that were added.
pub decodes_written : {kind : SectionKind} {bytes : List ℕ} {x y : Contents} {n : ℕ} → Takes kind bytes y n → section kind minimal bytes x → y ≡ x
decodes_written {kind = kind} h s = decodes_padded h (at_front kind s)

-- The reader returns no error except `Memory`.
pub written_not_rejected : (kind : SectionKind) {bytes : List ℕ} {x : Contents} → Rejects (section kind) padded bytes → section kind minimal bytes x → ⊥
written_not_rejected kind n s = padded_not_rejected kind n (at_front kind s)

-- The minimizer appends the section itself.
pub shortens_written : {kind : SectionKind} {bytes : List ℕ} {x : Contents} {n : ℕ} {old new : List ℕ} → Shortens kind bytes n old new → section kind minimal bytes x → new ≡ old ++ bytes
shortens_written {kind = kind} h s = shortens_padded h (at_front kind s) s

-- ---- modules

-- Minimized into an empty buffer, the module is the buffer, and is no longer.
pub module_comes : {offsets : Offsets} {bytes old new : List ℕ} {kept : ℕ} → old ≡ [] → (h : ShortensModule offsets bytes kept old new) → (sections : List (ℕ × List ℕ)) × wasm_module padded new sections
module_comes e h = (h.sections, subst (λ z. wasm_module padded z h.sections) (sym (h.appended ∙ ap (λ z. z ++ h.encoding) e)) h.read)

pub module_no_longer : {offsets : Offsets} {bytes old new : List ℕ} {kept : ℕ} → old ≡ [] → ShortensModule offsets bytes kept old new → length new ≤ length bytes
module_no_longer {bytes = bytes} e h = subst (λ z. length z ≤ length bytes) (sym (h.appended ∙ ap (λ z. z ++ h.encoding) e)) h.shorter

-- A minimized module is minimized to itself, by the law of minimized modules.
pub module_stays : {offsets : Offsets} {bytes old new other next : List ℕ} {kept more : ℕ} → IsIdempotent → old ≡ [] → other ≡ [] → ShortensModule offsets bytes kept old new → ShortensModule offsets new more other next → next ≡ new
module_stays {offsets = offsets} {bytes = bytes} {new = new} {next = next} {kept = kept} {more = more} law e f h g =
    law.again offsets bytes [] [] new next kept more (subst (λ z. ShortensModule offsets bytes kept z new) e h) (subst (λ z. ShortensModule offsets new more z next) f g)

-- Only `Memory` makes that fail.
pub module_accepted : {offsets : Offsets} {bytes old new : List ℕ} {kept : ℕ} (fault : ModuleFault) → IsIdempotent → old ≡ [] → ShortensModule offsets bytes kept old new → Explains offsets new fault → IsMemory fault
module_accepted {offsets = offsets} {bytes = bytes} {new = new} {kept = kept} fault law e h why =
    law.accepted offsets bytes [] new kept fault (subst (λ z. ShortensModule offsets bytes kept z new) e h) why
