-- This file proves how the reader outlines a module.
use Rattle.wasm_base.proofs.Words.{standard, ◌≡◌, ◌≢◌, ℕ, ◌<◌, ◌^◌, ◌+◌, ◌-◌, suc, List, [], ◌∷◌, ◌++◌, length, map, take, Option, Some, None, refl, sym, ap, subst, ◌∙◌, append_assoc, append-nil}
use Rattle.wasm_base.proofs.Words.{arith, AllByRecursion, flat_map, flat_map-append, length-map, take_at, RejectsWhole, padded, Format, any_bytes, any_section, byte, fixed, size_prefixed, header}
use Rattle.wasm_base.proofs.Words.{members, wasm_module, Decodes, Rejects, BeginsWith, byte_unambiguous, begins_then, section_unambiguous, then_rejects_first, then_rejects_second}
use Rattle.wasm_reader.specs.{number_in, kind_at, Contents, content, Section, IsSection, bytes_of, IsCount, IsOutline, AreOutlines, HasOutline, EndsAt}
use Rattle.wasm_reader.specs.declared.outlines.Outlined.{Outlined}
use Rattle.wasm_reader.specs.declared.kinds.SectionKind.{SectionKind}
use Rattle.wasm_reader.proofs.KindLaws.{content_whole, named_uncounted}
use Rattle.std.proofs.lemmas.List.{length-append}
use Rattle.wasm_reader.proofs.ModuleLaws.{one_way}
use Rattle.wasm_sections.proofs.Words.{prefixed_decodes}

-- ---- a section with any payload

-- The bytes before the suffix are the encoding of the decoded value.
pub front_taken : {X : Type 0} (F : Format X) (bytes rest : List ℕ) (x : X) → (h : Decodes F padded bytes x rest) → take (length bytes - length rest) bytes ≡ h.front
front_taken F bytes rest x h =
    let n : length h.front ≡ length bytes - length rest = omega (arith, ap length h.split, length-append h.front rest) in
    ap (take (length bytes - length rest)) h.split ∙ take_at h.front rest (length bytes - length rest) n

pub sized_is : (bytes after payload sized : List ℕ) → Decodes (size_prefixed any_bytes) padded bytes payload after → sized ≡ take (length bytes - length after) bytes → size_prefixed any_bytes padded sized payload
sized_is bytes after payload sized h e = subst (λ z. size_prefixed any_bytes padded z payload) (sym (e ∙ front_taken (size_prefixed any_bytes) bytes after payload h)) h.encodes

pub section_split : (bytes rest after payload sized : List ℕ) (id : ℕ) → Decodes byte padded bytes id rest → Decodes (size_prefixed any_bytes) padded rest payload after → sized ≡ take (length rest - length after) rest → bytes ≡ (id ∷ sized) ++ after
section_split bytes rest after payload sized id h g e =
    h.split ∙ ap (λ z. z ++ rest) h.encodes ∙ ap (λ z. id ∷ z) (g.split ∙ ap (λ z. z ++ after) (sym (e ∙ front_taken (size_prefixed any_bytes) rest after payload g)))

pub no_id : (bytes : List ℕ) → Rejects byte padded bytes → Rejects any_section padded bytes
no_id bytes n = then_rejects_first n

pub not_size_prefixed : (bytes rest : List ℕ) (id : ℕ) → Decodes byte padded bytes id rest → Rejects (size_prefixed any_bytes) padded rest → Rejects any_section padded bytes
not_size_prefixed bytes rest id h n = then_rejects_second {G = λ i. size_prefixed any_bytes} byte_unambiguous h n

pub ruleset standing_steps = (sized_is, section_split)

-- ---- the number of items

pub counted : (kind : SectionKind) (payload : List ℕ) (x : Contents) (number : Option ℕ) → content kind standard payload x → number ≡ number_in x → IsCount kind payload number
counted kind payload x (Some n) h e = (x, h, sym e)
counted kind payload x None h e = λ y g. ap number_in ((content_whole kind).whole standard payload y x g h) ∙ sym e

-- There is no number of items if nothing decodes.
pub not_counted : (kind : SectionKind) (payload : List ℕ) → RejectsWhole (content kind) standard payload → IsCount kind payload None
not_counted kind payload n = λ x h. absurd (n.none x h)

-- Items of custom sections are not counted.
pub custom_not_counted : (id : ℕ) (n : Option (List ℕ)) (payload : List ℕ) → id ≡ 0 → IsCount (kind_at id n) payload None
custom_not_counted id (Some n) payload e = λ x h. named_uncounted n standard payload x h
custom_not_counted id None payload e = λ x h. sym (ap number_in (subst (λ i. content (kind_at i None) standard payload x) e h).1)

-- ---- lists

pub All-append : {X : Type 0} (P : X → Type 0) (xs ys : List X) → AllByRecursion P xs → AllByRecursion P ys → AllByRecursion P (xs ++ ys)
All-append P [] ys h g = g
All-append P (x ∷ xs) ys h g = (h.0, All-append P xs ys h.1 g)

-- ---- a line

pub payload_within : (s : Section) → IsSection s → length s.payload < length (bytes_of s)
payload_within s h = let f = h.contains in omega (arith, ap length f.joined, length-append f.front f.content, ap length f.encodes)

pub payload_small : (s : Section) → IsSection s → length s.payload < 2 ^ 32
payload_small s h = let f = h.contains in subst (λ z. length z < 2 ^ 32) f.encodes f.size.range

pub ruleset line_steps = (payload_within, payload_small)

-- ---- sections one after another

-- The id and the payload of a section.
abbrev pub any_of : Section → ℕ × List ℕ
any_of s = (s.id, s.payload)

byte_begins : BeginsWith (λ b. Unit {0}) byte
byte_begins mode s x e = (x, [], e, tt)

pub any_begins : BeginsWith (λ b. Unit {0}) any_section
any_begins = begins_then (λ b. Unit {0}) byte_begins

pub one_section : (s : Section) → IsSection s → any_section padded (bytes_of s) (any_of s)
one_section s h = record { front = s.id ∷ []; back = s.sized; joined = refl; first = refl; second = h.contains }

pub sections_encodes : (sections : List Section) → AllByRecursion IsSection sections → members any_section padded (flat_map bytes_of sections) (map any_of sections)
sections_encodes [] h = refl
sections_encodes (s ∷ ss) h = (bytes_of s, flat_map bytes_of ss, refl, one_section s h.0, sections_encodes ss h.1)

pub sections_read : (bytes rest : List ℕ) (sections : List Section) → AllByRecursion IsSection sections → bytes ≡ flat_map bytes_of sections ++ rest → Decodes (members any_section) padded bytes (map any_of sections) rest
sections_read bytes rest sections h e = record { front = flat_map bytes_of sections; split = e; encodes = sections_encodes sections h }

-- If no section decodes at the end of the sections, the bytes are not a module.
pub no_module : (bytes start rest : List ℕ) (xs : List (ℕ × List ℕ)) → bytes ≡ header ++ start → Decodes (members any_section) padded start xs rest → rest ≢ [] → Rejects any_section padded rest → RejectsWhole wasm_module padded bytes
no_module bytes start rest xs e h more n = record {
  none = λ ys g.
      let t = g.2 in
      let back : header ++ start ≡ header ++ t.back = sym e ∙ t.joined ∙ ap (λ z. z ++ t.back) t.first.0 in
      let ys' = subst (λ z. members any_section padded t.back z) g.1 t.second in
      let split : h.front ++ rest ≡ t.back ++ [] = sym h.split ∙ cancel start t.back back ∙ sym (append-nil t.back) in
      more (one_way any_section (section_unambiguous.unique padded) any_begins h.front t.back rest [] xs ys h.encodes ys' split (λ m. n) (λ m. absurd (m refl))).1;
}
  where
    cancel : (a b : List ℕ) → header ++ a ≡ header ++ b → a ≡ b
    cancel a b e = cc e

pub no_header : (bytes : List ℕ) → Rejects (fixed header (tt {0})) padded bytes → RejectsWhole wasm_module padded bytes
no_header bytes n = record { none = λ ys g. let t = g.2 in n.none tt t.back (record { front = header; split = t.joined ∙ ap (λ z. z ++ t.back) t.first.0; encodes = (refl, refl) }) }

pub ends_behind : (bytes start rest : List ℕ) (xs : List (ℕ × List ℕ)) → bytes ≡ header ++ start → Decodes (members any_section) padded start xs rest → rest ≢ [] → Rejects any_section padded rest → EndsAt bytes (suc (length xs))
ends_behind bytes start rest xs e h more n = record { sections = xs; rest = rest; read = prefixed_decodes header (members any_section) e h; counted = refl; more = more; none = n }

-- ---- the loop

-- The lines so far describe the sections from `start` on, and `rest` remains.
pub record HasOutlined (section_start : ℕ) (start : List ℕ) (lines : List Outlined) (rest : List ℕ) : Type 0 where
  pub sections : List Section
  pub joined : start ≡ flat_map bytes_of sections ++ rest
  pub each : AllByRecursion IsSection sections
  pub are_outlines : AreOutlines section_start sections lines

pub outlined_start : (section_start : ℕ) (start : List ℕ) → HasOutlined section_start start [] start
outlined_start section_start start = record { sections = []; joined = refl; each = tt; are_outlines = tt }

outlines_more : (section_start : ℕ) (sections : List Section) (lines : List Outlined) (s : Section) (line : Outlined) → AreOutlines section_start sections lines → IsOutline (section_start + length (flat_map bytes_of sections)) s line → AreOutlines section_start (sections ++ s ∷ []) (lines ++ line ∷ [])
outlines_more section_start [] [] s line h g = (subst (λ z. IsOutline z s line) (omega arith) g, tt)
outlines_more section_start (t ∷ ts) (l ∷ ls) s line h g = (h.0, outlines_more (section_start + length (bytes_of t)) ts ls s line h.1 (subst (λ z. IsOutline z s line) (omega (arith, length-append (bytes_of t) (flat_map bytes_of ts))) g))
outlines_more section_start [] (l ∷ ls) s line h g = absurd h
outlines_more section_start (t ∷ ts) [] s line h g = absurd h

pub joined_more : {X : Type 0} (f : X → List ℕ) (start rest after : List ℕ) (xs : List X) (x : X) → start ≡ flat_map f xs ++ rest → rest ≡ f x ++ after → start ≡ flat_map f (xs ++ x ∷ []) ++ after
joined_more f start rest after xs x e d =
    e ∙ ap (λ z. flat_map f xs ++ z) d ∙ sym (append_assoc (flat_map f xs) (f x) after) ∙ ap (λ z. (flat_map f xs ++ z) ++ after) (sym (append-nil (f x))) ∙ ap (λ z. z ++ after) (sym (flat_map-append f xs (x ∷ [])))

pub outlined_step : (section_start at : ℕ) (start rest after : List ℕ) (lines : List Outlined) (line : Outlined) (s : Section) → HasOutlined section_start start lines rest → IsSection s → rest ≡ bytes_of s ++ after → IsOutline at s line → at + length rest ≡ section_start + length start → HasOutlined section_start start (lines ++ line ∷ []) after
outlined_step section_start at start rest after lines line s h i e o l = record {
  sections = h.sections ++ s ∷ [];
  joined = joined_more bytes_of start rest after h.sections s h.joined e;
  each = All-append IsSection h.sections (s ∷ []) h.each (i, tt);
  are_outlines = outlines_more section_start h.sections lines s line h.are_outlines (subst (λ z. IsOutline z s line) (omega (arith, l, ap length h.joined, length-append (flat_map bytes_of h.sections) rest)) o);
}

outlines_length : (section_start : ℕ) (sections : List Section) (lines : List Outlined) → AreOutlines section_start sections lines → length sections ≡ length lines
outlines_length section_start [] [] h = refl
outlines_length section_start (s ∷ ss) (l ∷ ls) h = ap suc (outlines_length (section_start + length (bytes_of s)) ss ls h.1)
outlines_length section_start [] (l ∷ ls) h = absurd h
outlines_length section_start (s ∷ ss) [] h = absurd h

pub outlined_done : (bytes start rest : List ℕ) (lines : List Outlined) → bytes ≡ header ++ start → HasOutlined (length header) start lines rest → rest ≡ [] → HasOutline bytes lines
outlined_done bytes start rest lines e h l = record {
  sections = h.sections;
  has = record { joined = e ∙ ap (λ z. header ++ z) (h.joined ∙ ap (λ z. flat_map bytes_of h.sections ++ z) l ∙ append-nil (flat_map bytes_of h.sections)); each = h.each };
  are_outlines = h.are_outlines;
}

module _ (bytes start rest : List ℕ) (lines : List Outlined) (e : bytes ≡ header ++ start) (h : HasOutlined (length header) start lines rest) (more : rest ≢ []) (n : Rejects any_section padded rest) where
  read : Decodes (members any_section) padded start (map any_of h.sections) rest
  read = sections_read start rest h.sections h.each h.joined

  pub outlined_ends : EndsAt bytes (suc (length lines))
  outlined_ends = subst (λ z. EndsAt bytes (suc z)) (length-map h.sections any_of ∙ outlines_length (length header) h.sections lines h.are_outlines) (ends_behind bytes start rest (map any_of h.sections) e read more n)

  pub outlined_none : RejectsWhole wasm_module padded bytes
  outlined_none = no_module bytes start rest (map any_of h.sections) e read more n

pub section_shorter : (s : Section) (bytes after : List ℕ) → bytes ≡ bytes_of s ++ after → length after < length bytes
section_shorter s bytes after e = omega (arith, ap length e, length-append (bytes_of s) after)
