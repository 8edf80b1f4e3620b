-- This file proves how the reader lists a module's sections.
use Rattle.wasm_reader.specs.declared.read_error.ReadError.{ReadError}
use Rattle.wasm_reader.specs.{IsFirstWrong, IsHeaderCause, IsHeaderError}
use Rattle.wasm_reader.specs.{kind_of_id, Contents, content, Sized, sized_section, sized_module, line_of, HasLines, StopsBehind}
use Rattle.wasm_reader.specs.declared.modules.Listed.{Listed}
use Rattle.wasm_reader.specs.declared.kinds.SectionKind.{SectionKind}
use Rattle.wasm_base.proofs.Words.{◌≡◌, ◌≢◌, inl, inr, ℕ, suc, ◌<◌, ◌≤◌, ◌^◌, get_or, List, [], ◌∷◌, ◌++◌, length, map, take, drop, refl, sym, ap, subst, ◌∙◌, arith, map-append, take-append-drop, take_at, length-map}
use Rattle.wasm_base.proofs.Words.{RejectsWhole, padded, Format, byte, any_bytes, any_section, fixed, size_prefixed, header, members, Decodes, Rejects, size_prefixed_bytes_unambiguous}
use Rattle.wasm_base.proofs.Words.{byte_unambiguous, decodes_same, then_decodes, then_rejects_second, members_start, members_step, whole_decodes}
use Rattle.std.proofs.lemmas.List.{length-append, get_or-take}
use Rattle.wasm_sections.proofs.Words.{prefixed_decodes}

-- ---- the header

pub header_found : (bytes front rest : List ℕ) → front ≡ take 8 bytes → rest ≡ drop 8 bytes → front ≡ header → bytes ≡ header ++ rest
header_found bytes front rest f r e = sym (take-append-drop 8 bytes) ∙ ap (λ z. z ++ drop 8 bytes) (sym f ∙ e) ∙ ap (λ z. header ++ z) (sym r)

abbrev no_value : Format (Unit {0})
no_value = fixed header (tt {0})

pub header_short : (bytes : List ℕ) → length bytes < 8 → Rejects no_value padded bytes
header_short bytes l = record { none = λ u rest h. omega (arith, l, ap length (h.split ∙ ap (λ z. z ++ rest) h.encodes.0), length-append header rest) }

pub header_other : (bytes front : List ℕ) → front ≡ take 8 bytes → front ≢ header → Rejects no_value padded bytes
header_other bytes front f other = record { none = λ u rest h. other (f ∙ ap (take 8) (h.split ∙ ap (λ z. z ++ rest) h.encodes.0) ∙ take_at header rest 8 refl) }

pub ruleset header_steps = (header_found, header_short, header_other)

-- If the bytes up to an offset and the one there are the same in both, so is the one there.
pub last_same : (bytes other : List ℕ) (n d : ℕ) → take (suc n) bytes ≡ take (suc n) other → get_or bytes n d ≡ get_or other n d
last_same bytes other n d e = sym (get_or-take (suc n) bytes n d (omega arith)) ∙ ap (λ z. get_or z n d) e ∙ get_or-take (suc n) other n d (omega arith)

-- If the first bytes are the header's, the bytes begin with the header.
whole_header : (bytes : List ℕ) → take 8 bytes ≡ header → Rejects no_value padded bytes → ⊥
whole_header bytes e none = none.none tt (drop 8 bytes) (record { front = header; split = sym (take-append-drop 8 bytes) ∙ ap (λ z. z ++ drop 8 bytes) e; encodes = (refl, refl) })

-- The first byte that differs is one of the header's.
pub first_wrong : (bytes : List ℕ) (n : ℕ) → n ≤ 8 → take n bytes ≡ take n header → (n < length bytes → n < 8 → take (suc n) bytes ≢ take (suc n) header) → 8 ≤ length bytes → Rejects no_value padded bytes → IsFirstWrong bytes n
first_wrong bytes n l e differs long none =
    let other : n ≢ 8 = λ k. whole_header bytes (subst (λ m. take m bytes ≡ take m header) k e) none in
    let inside : n < 8 = omega (arith, l, other) in
    record { inside = inside; same = e; wrong = differs (omega (arith, inside, long)) inside }

-- An error with the cause of bytes that do not begin with the header, at its offset.
pub header_error : (bytes : List ℕ) (e : ReadError) → IsHeaderCause bytes e.cause → (length bytes < 8 → e.offset ≡ length bytes) → (8 ≤ length bytes → IsFirstWrong bytes e.offset) → IsHeaderError bytes e
header_error bytes e (inl h) short wrong = record { cause = inl h; ended = λ k. short h.1; wrong = λ k. absurd (cc (h.0, k)) }
header_error bytes e (inr h) short wrong = record { cause = inr h; ended = λ k. absurd (cc (h.0, k)); wrong = λ k. wrong h.1 }

-- ---- lines

pub sized_small : (bytes rest sized : List ℕ) → Decodes (size_prefixed any_bytes) padded bytes sized rest → length sized < 2 ^ 32
sized_small bytes rest sized h = let s = h.encodes in subst (λ z. length z < 2 ^ 32) s.encodes s.size.range

pub line_decodes : (bytes rest sized after : List ℕ) (id : ℕ) (x : Contents) → Decodes byte padded bytes id rest → Decodes (size_prefixed any_bytes) padded rest sized after → content (kind_of_id id) padded sized x → Decodes sized_section padded bytes (id, (length sized, x)) after
line_decodes bytes rest sized after id x h g k =
    let of_size : Decodes (Sized (kind_of_id id)) padded rest (length sized, x) after = record { front = g.front; split = g.split; encodes = record { payload = sized; sized = g.encodes; size = refl; contains = k } } in
    then_decodes {G = λ i. Sized (kind_of_id i)} h of_size

as_size_prefixed : {kind : SectionKind} {bytes rest : List ℕ} {p : ℕ × Contents} → (h : Decodes (Sized kind) padded bytes p rest) → Decodes (size_prefixed any_bytes) padded bytes h.encodes.payload rest
as_size_prefixed h = record { front = h.front; split = h.split; encodes = h.encodes.sized }

pub line_rejects : (bytes rest sized after : List ℕ) (id : ℕ) → Decodes byte padded bytes id rest → Decodes (size_prefixed any_bytes) padded rest sized after → RejectsWhole (content (kind_of_id id)) padded sized → Rejects sized_section padded bytes
line_rejects bytes rest sized after id h g n =
    then_rejects_second {G = λ i. Sized (kind_of_id i)} byte_unambiguous h (record {
      none = λ p last k. n.none p.1 (subst (λ z. content (kind_of_id id) padded z p.1) (sym (decodes_same size_prefixed_bytes_unambiguous g (as_size_prefixed k)).0) k.encodes.contains);
    })

-- Where no section decodes, whatever its payload, none of its kind does.
pub sized_rejects : (bytes : List ℕ) → Rejects any_section padded bytes → Rejects sized_section padded bytes
sized_rejects bytes n = record {
  none = λ s rest h.
      let t = h.encodes in
      n.none (s.0, t.second.payload) rest (record { front = h.front; split = h.split; encodes = record { front = t.front; back = t.back; joined = t.joined; first = t.first; second = t.second.sized } });
}

-- ---- the loop

-- The lines so far are those of the sections from `start` on, and `rest` remains.
pub record HasListed (start : List ℕ) (lines : List Listed) (rest : List ℕ) : Type 0 where
  pub sections : List (ℕ × (ℕ × Contents))
  pub read : Decodes (members sized_section) padded start sections rest
  pub same : lines ≡ map line_of sections

pub listed_start : (start : List ℕ) → HasListed start [] start
listed_start start = record { sections = []; read = members_start sized_section padded start; same = refl }

pub listed_step : (start rest after : List ℕ) (lines : List Listed) (line : Listed) (s : ℕ × (ℕ × Contents)) → HasListed start lines rest → Decodes sized_section padded rest s after → line ≡ line_of s → HasListed start (lines ++ line ∷ []) after
listed_step start rest after lines line s h g e = record {
  sections = h.sections ++ s ∷ [];
  read = members_step sized_section h.read g;
  same = ap (λ z. z ++ line ∷ []) h.same ∙ ap (λ z. map line_of h.sections ++ z ∷ []) e ∙ sym (map-append line_of h.sections (s ∷ []));
}

whole_of : {bytes start : List ℕ} {lines : List Listed} {rest : List ℕ} → bytes ≡ header ++ start → (h : HasListed start lines rest) → Decodes sized_module padded bytes h.sections rest
whole_of e h = prefixed_decodes header (members sized_section) e h.read

pub listed_done : (bytes start rest : List ℕ) (lines : List Listed) → bytes ≡ header ++ start → HasListed start lines rest → length rest ≡ 0 → HasLines bytes lines
listed_done bytes start rest lines e h l = record { sections = h.sections; read = whole_decodes sized_module bytes rest h.sections (whole_of e h) l; same = h.same }

pub listed_stops : (bytes start rest : List ℕ) (lines : List Listed) → bytes ≡ header ++ start → HasListed start lines rest → rest ≢ [] → Rejects sized_section padded rest → StopsBehind bytes (length lines)
listed_stops bytes start rest lines e h more n = record {
  sections = h.sections;
  rest = rest;
  read = whole_of e h;
  counted = sym (ap length h.same ∙ length-map h.sections line_of);
  more = more;
  none = n;
}
