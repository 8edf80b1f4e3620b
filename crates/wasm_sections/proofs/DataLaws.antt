-- This file proves that data segments are unambiguous, and how they are decoded and minimized.
use Rattle.wasm_base.proofs.Words.{◌≡◌, ◌≢◌, ℕ, zero, suc, ◌^◌, ◌<◌, List, [], ◌∷◌, ◌++◌, length, Result, Ok, Err, Option, refl, sym, ap, subst, ◌∙◌, append_assoc, arith, length-append, ◌≤◌, ap₂}
use Rattle.wasm_base.proofs.Words.{Bool, true, false, eqb, when, mapped, ◌⊎◌, inl, inr, Grammar, builders, admitted, is_admitted, standard_minimal, standard, padded_of, by_mode_unambiguous}
use Rattle.wasm_base.proofs.Words.{Then_unambiguous, DeterminesPrefix, IsIncludedIn, AreGroups, Count, Drains, size, ItemLaws, u32, byte, such, pair, vec, Format, any_bytes, choice}
use Rattle.wasm_base.proofs.Words.{size_prefixed, impossible, members, Mode, minimal, unsigned_encoding, padded, IsOfBuilders, Unambiguous, Decodes, Rejects, size_prefixed_encoding, HasEncodableSize}
use Rattle.wasm_base.proofs.Words.{vec_bytes_unambiguous, mapped_unambiguous, pair_unambiguous, such_unambiguous, DeterminesTag, choice_determines, choice_unambiguous, tagged_unambiguous}
use Rattle.wasm_base.proofs.Words.{impossible_unambiguous, u32_unambiguous, u32_small, encodes_in, u32_in, pair_in, bytes_encodes, then_decodes, then_rejects_first, then_rejects_second}
use Rattle.wasm_base.proofs.Words.{mapped_decodes, mapped_rejects, such_decodes, such_none, such_rejects, tagged_decodes, tagged_none, tagged_rejects, no_choice, SectionLaws, counted_laws_padded}
use Rattle.wasm_base.proofs.Words.{AppendsMinimal, built_appended, builders_alone, HasEncoding, Includes, left_encoded, right_encoded, tagged_encoded, mapped_encoded, counted_encodable, u32_appended, pair_appended}
use Rattle.wasm_base.proofs.Words.{tagged_appended, mapped_appended}
use Rattle.wasm_base.specs.Decoding.{ShrinksTo}
use Rattle.wasm_base.specs.Calls.{AddsTo}
use Rattle.wasm_base.specs.Stores.{StoreModel}
use Rattle.wasm_base.specs.declared.refused.Refused.{Refused}
use Rattle.wasm_code.proofs.Words.{expression, expression_encoding, expression_unambiguous, expression_encodes}
use Rattle.wasm_immediates.specs.ImmediateFormats.{HasIndex}
use Rattle.wasm_immediates.proofs.DecodeImmediates.{has_index, any_index, grammar_of, same_grammar}
use Rattle.wasm_insn.proofs.Words.{Plain}
use Rattle.wasm_sections.specs.{Stored, IsStoredIn, GivenData, given_active, given_passive, DataItem, active, passive, AddsBytes, active_encoding, data_encoding, IsGivenDataIn, data_of, in_first}
use Rattle.wasm_sections.specs.{in_memory, data_tags, data_in, data_item, data_items, IsGivenData, IsGivenDataPadded}
use Rattle.wasm_sections.proofs.ConstantLaws.{stored_included}

-- ---- unambiguous

abbrev flag_of : DataItem → ℕ
flag_of (active zero offset bytes) = 0
flag_of (active (suc n) offset bytes) = 2
flag_of (passive bytes) = 1

not_first : (n : ℕ) (offset : List Plain) (bytes : List ℕ) → 0 < n → flag_of (active n offset bytes) ≡ 2
not_first zero offset bytes h = absurd (omega (arith, h))
not_first (suc n) offset bytes h = refl

abbrev active_parts : DataItem → ℕ × (List Plain × List ℕ)
active_parts (active n offset bytes) = (n, (offset, bytes))
active_parts (passive bytes) = (0, ([], bytes))

abbrev placed_format : Format (List Plain × List ℕ)
placed_format = pair expression (vec byte)

abbrev after_flag : Grammar → ℕ → Format DataItem
after_flag w n = choice (data_tags w) (λ flag. impossible) n

flag_determines : DeterminesTag (after_flag builders) flag_of
flag_determines =
    choice_determines flag_of (data_tags builders) (λ flag. impossible)
    (λ mode s x h. ap flag_of h.1, (λ mode s x h. ap flag_of h.1, (λ mode s x h. sym (not_first h.0.0 h.0.1.0 h.0.1.1 h.2.first.1) ∙ ap flag_of h.1, tt)))
    (λ b mode s x h. absurd h)

after_unambiguous : (w : Grammar) (n : ℕ) → Unambiguous (after_flag w n)
after_unambiguous w =
    let rest = pair_unambiguous expression_unambiguous vec_bytes_unambiguous in
    choice_unambiguous (data_tags w) (λ flag. impossible)
    (mapped_unambiguous in_first (λ x y e. ap (λ s. (active_parts s).1) e) rest, (mapped_unambiguous passive (λ x y e. cc) vec_bytes_unambiguous, (mapped_unambiguous in_memory (λ x y e. ap active_parts e) (pair_unambiguous (such_unambiguous (HasIndex w) u32_unambiguous) rest), tt)))
    (λ b. impossible_unambiguous)

built_unambiguous : Unambiguous (data_in builders)
built_unambiguous = tagged_unambiguous flag_of flag_determines u32_unambiguous (after_unambiguous builders)

-- In the standard's grammar the segment does not determine the flag, but both together are
-- determined.
admitted_unique : DeterminesPrefix (data_in admitted standard)
admitted_unique s t r q x y h g e =
    let a = (Then_unambiguous u32_unambiguous (after_unambiguous admitted)).unique standard s t r q h.0 g.0 h.2 g.2 e in
    (sym h.1 ∙ ap (λ p. p.1) a.0 ∙ g.1, a.1, a.2)

-- The same segments, flag by flag.
widened : (n : ℕ) (s : List ℕ) (x : DataItem) → after_flag builders n standard s x → after_flag admitted n standard s x
widened n s x h = go (eqb n 0) (eqb n 1) (eqb n 2) h
  where
    go : (first second third : Bool) → when first (mapped in_first placed_format) (when second (mapped passive (vec byte)) (when third (mapped in_memory (pair (such (HasIndex builders) u32) placed_format)) impossible)) standard s x
        → when first (mapped in_first placed_format) (when second (mapped passive (vec byte)) (when third (mapped in_memory (pair (such (HasIndex admitted) u32) placed_format)) impossible)) standard s x
    go true second third k = k
    go false true third k = k
    go false false true k = (k.0, k.1, record { front = k.2.front; back = k.2.back; joined = k.2.joined; first = (k.2.first.0, tt); second = k.2.second })
    go false false false k = k

built_admitted : IsIncludedIn (data_in builders standard) (data_in admitted standard)
built_admitted s x h = (h.0, h.1, record { front = h.2.front; back = h.2.back; joined = h.2.joined; first = h.2.first; second = widened h.0.0 h.2.back h.0.1 h.2.second })

-- The bytes end with the offset and the bytes of an active segment of memory 0, which is the
-- segment.
abbrev EndsFirst : List ℕ → DataItem → Type 0
EndsFirst t x = (p : List Plain × List ℕ) × (front back : List ℕ) × (t ≡ front ++ back) × placed_format standard back p × (in_first p ≡ x)

-- A segment of the standard's grammar is one that builders encode, or has memory 0 after flag 2.
narrowed : (n : ℕ) (t : List ℕ) (x : DataItem) → after_flag admitted n standard t x → after_flag builders n standard t x ⊎ EndsFirst t x
narrowed n t x h = go (eqb n 0) (eqb n 1) (eqb n 2) h
  where
    other : (k : ℕ) (p : List Plain × List ℕ) → in_memory (k, p) ≡ x → pair (such (HasIndex admitted) u32) placed_format standard t (k, p) → mapped in_memory (pair (such (HasIndex builders) u32) placed_format) standard t x ⊎ EndsFirst t x
    other zero p e h = inr (p, h.front, h.back, h.joined, h.second, e)
    other (suc k) p e h = inl ((suc k, p), e, record { front = h.front; back = h.back; joined = h.joined; first = (h.first.0, omega arith); second = h.second })

    go : (first second third : Bool) → when first (mapped in_first placed_format) (when second (mapped passive (vec byte)) (when third (mapped in_memory (pair (such (HasIndex admitted) u32) placed_format)) impossible)) standard t x
        → when first (mapped in_first placed_format) (when second (mapped passive (vec byte)) (when third (mapped in_memory (pair (such (HasIndex builders) u32) placed_format)) impossible)) standard t x ⊎ EndsFirst t x
    go true second third k = inl k
    go false true third k = inl k
    go false false true k = other k.0.0 k.0.1 k.1 k.2
    go false false false k = inl k

-- The groups of a number are at least one.
some_groups : (s : List ℕ) → AreGroups s → 0 < length s
some_groups [] h = absurd h
some_groups (b ∷ bs) h = omega arith

data_shrinks : ShrinksTo (data_in admitted standard) (data_in builders standard_minimal)
data_shrinks s x h =
    elim (narrowed h.0.0 h.2.back h.0.1 h.2.second) [
      | inl k ↦ built_unambiguous.encodings.shorter admitted s x (h.0, h.1, record { front = h.2.front; back = h.2.back; joined = h.2.joined; first = h.2.first; second = k })
      | inr k ↦
          let a = built_unambiguous.encodings.shorter admitted (0x00 ∷ k.2) x ((0, h.0.1), h.1, record { front = 0x00 ∷ []; back = k.2; joined = refl; first = u32_small standard 0 (omega arith); second = (k.0, k.5, k.4) }) in
          (a.0, a.1, omega (arith, a.2, ap length h.2.joined, ap length k.3, length-append h.2.front h.2.back, length-append k.1 k.2, some_groups h.2.front h.2.first.groups))
    ]

pub data_unambiguous : Unambiguous data_item
data_unambiguous =
    by_mode_unambiguous (data_in builders) (data_in builders) (data_in admitted) built_unambiguous built_unambiguous admitted_unique
    (λ s x h. built_admitted s x (built_unambiguous.encodings.included padded standard tt s x h))
    (λ s x h. built_admitted s x (built_unambiguous.encodings.included standard_minimal standard tt s x h))
    data_shrinks

-- Memory 0 after flag 2.
pub memory_zero : (bytes : List ℕ) (offset : List Plain) (content : List ℕ) → placed_format standard bytes (offset, content) → data_item standard (0x02 ∷ 0x00 ∷ bytes) (active 0 offset content)
memory_zero bytes offset content h =
    let index : such (HasIndex admitted) u32 standard (0x00 ∷ []) 0 = (u32_small standard 0 (omega arith), tt) in
    let numbered : pair (such (HasIndex admitted) u32) placed_format standard (0x00 ∷ bytes) (0, (offset, content)) = record { front = 0x00 ∷ []; back = bytes; joined = refl; first = index; second = h } in
    ((2, active 0 offset content), refl, record { front = 0x02 ∷ []; back = 0x00 ∷ bytes; joined = refl; first = u32_small standard 2 (omega arith); second = ((0, (offset, content)), refl, numbered) })

-- ---- encodings

-- The size of bytes at the end of an encoding that fits, fits.
last_encodable : (front bytes : List ℕ) → HasEncodableSize (front ++ size_prefixed_encoding bytes) → HasEncodableSize bytes
last_encodable front bytes encodable = omega (arith, encodable, length-append front (size_prefixed_encoding bytes), length-append (unsigned_encoding (length bytes)) bytes)

flag_in : (mode : Mode) (n : ℕ) → n < 128 → u32 mode (n ∷ []) n
flag_in mode n small = u32_small mode n small

bytes_in : (mode : Mode) → IsOfBuilders mode → (bytes : List ℕ) → HasEncodableSize bytes → vec byte mode (size_prefixed_encoding bytes) bytes
bytes_in mode of bytes encodable = encodes_in {F = vec byte} vec_bytes_unambiguous (bytes_encodes bytes encodable) mode of

placed : (mode : Mode) → IsOfBuilders mode → (e : Stored) (bytes : List ℕ) → IsStoredIn mode e → HasEncodableSize bytes → pair expression (vec byte) mode (expression_encoding e.bytes ++ size_prefixed_encoding bytes) (e.instructions, bytes)
placed mode of e bytes plain encodable = pair_in mode expression (vec byte) (expression_encoding e.bytes) (size_prefixed_encoding bytes) e.instructions bytes (expression_encodes mode e.bytes e.instructions plain) (bytes_in mode of bytes encodable)

active_encodes : (mode : Mode) → IsOfBuilders mode → (memory : ℕ) (e : Stored) (bytes : List ℕ) → memory < 2 ^ 32 → IsStoredIn mode e → HasEncodableSize (active_encoding memory e.bytes bytes) → data_in builders mode (active_encoding memory e.bytes bytes) (active memory e.instructions bytes)
active_encodes mode of zero e bytes range plain encodable =
    let back = expression_encoding e.bytes ++ size_prefixed_encoding bytes in
    let inside = last_encodable (0x00 ∷ expression_encoding e.bytes) bytes encodable in
    ((0, active 0 e.instructions bytes), refl, record { front = 0x00 ∷ []; back = back; joined = refl; first = flag_in mode 0 (omega arith); second = ((e.instructions, bytes), refl, placed mode of e bytes plain inside) })
active_encodes mode of (suc n) e bytes range plain encodable =
    let rest = expression_encoding e.bytes ++ size_prefixed_encoding bytes in
    let whole = length-append (unsigned_encoding (suc n)) rest in
    let inside = last_encodable (expression_encoding e.bytes) bytes (omega (arith, encodable, whole)) in
    let numbered : pair (such (HasIndex builders) u32) (pair expression (vec byte)) mode (unsigned_encoding (suc n) ++ rest) (suc n, (e.instructions, bytes)) =
    pair_in mode (such (HasIndex builders) u32) (pair expression (vec byte)) (unsigned_encoding (suc n)) rest (suc n) (e.instructions, bytes) (u32_in mode (suc n) range, omega arith) (placed mode of e bytes plain inside) in
    ((2, active (suc n) e.instructions bytes), refl, record { front = 0x02 ∷ []; back = unsigned_encoding (suc n) ++ rest; joined = refl; first = flag_in mode 2 (omega arith); second = ((suc n, (e.instructions, bytes)), refl, numbered) })

built_encodes : (mode : Mode) → IsOfBuilders mode → (g : GivenData) → IsGivenDataIn mode g → HasEncodableSize (data_encoding g) → data_in builders mode (data_encoding g) (data_of g)
built_encodes mode of (given_active memory e bytes) plain encodable = active_encodes mode of memory e bytes plain.0 plain.1 encodable
built_encodes mode of (given_passive bytes) plain encodable =
    ((1, passive bytes), refl, record { front = 0x01 ∷ []; back = size_prefixed_encoding bytes; joined = refl; first = flag_in mode 1 (omega arith); second = (bytes, refl, bytes_in mode of bytes (last_encodable (0x01 ∷ []) bytes encodable)) })

of_builders : (mode : Mode) → IsOfBuilders mode → (s : List ℕ) (x : DataItem) → data_in builders mode s x → data_item mode s x
of_builders minimal of s x h = h
of_builders padded of s x h = h
of_builders standard_minimal of s x h = h
of_builders standard of s x h = absurd of

pub data_encodes : (mode : Mode) → IsOfBuilders mode → (g : GivenData) → IsGivenDataIn mode g → HasEncodableSize (data_encoding g) → data_item mode (data_encoding g) (data_of g)
data_encodes mode of g plain encodable = of_builders mode of (data_encoding g) (data_of g) (built_encodes mode of g plain encodable)

pub data_laws : ItemLaws data_items
data_laws = record { unique = data_unambiguous; encodes = data_encodes minimal tt }

data_included : (g : GivenData) → IsGivenData g → IsGivenDataPadded g
data_included (given_active memory offset bytes) plain = (plain.0, stored_included offset plain.1)
data_included (given_passive bytes) plain = plain

pub segments_section : SectionLaws data_items (vec data_item)
segments_section = counted_laws_padded data_laws data_included (data_encodes padded tt)

-- ---- calls

-- The same entry, if its encoding has another form.
pub same_encodings : {M U S : Type 0} {model : StoreModel M} {becomes : U → S → Type 0} {gives : S → Option ℕ → S → Type 0} {remaining : S → Count} {elements : U} {encoding same : List ℕ → List ℕ} {old new : M} (result : Result (Unit {0}) Refused)
    → ((bytes : List ℕ) → encoding bytes ≡ same bytes) → AddsBytes model becomes gives remaining elements encoding old new result → AddsBytes model becomes gives remaining elements same old new result
same_encodings {model = model} {old = old} {new = new} (Ok x) e h = record {
  ok = (h.ok.0, h.ok.1, h.ok.2, h.ok.3, h.ok.4, subst (λ t. model.gains t old new) (e h.ok.1) h.ok.5);
  err = h.err;
  counted = h.counted;
  too_long = h.too_long;
  too_many = h.too_many;
  full = h.full;
}
same_encodings (Err x) e h = record { ok = h.ok; err = h.err; counted = h.counted; too_long = h.too_long; too_many = h.too_many; full = h.full }

-- The effect of a call whose iterator yields these bytes.
pub adds_these : {M U S : Type 0} {model : StoreModel M} {becomes : U → S → Type 0} {gives : S → Option ℕ → S → Type 0} {remaining : S → Count} {elements : U} {encoding : List ℕ → List ℕ} {old new : M} (result : Result (Unit {0}) Refused) (bytes : List ℕ)
    → ((it : S) (xs : List ℕ) → becomes elements it → Drains gives it xs → xs ≡ bytes) → ((it : S) → becomes elements it → size (remaining it) ≡ length bytes) → AddsBytes model becomes gives remaining elements encoding old new result
    → AddsTo model (encoding bytes) (HasEncodableSize bytes) old new result
adds_these {model = model} {encoding = encoding} {old = old} {new = new} (Ok x) bytes same counts h =
    let given = h.ok in
    let is = same given.0 given.1 given.2 given.3 in
    record {
      ok = subst (λ bs. model.gains (encoding bs) old new) is given.5;
      err = h.err;
      was_encodable = subst HasEncodableSize is given.4;
      counted = h.counted;
      too_long = λ encodable spare. h.too_long (λ it b. omega (arith, counts it b, encodable)) spare;
      full = h.full;
    }
adds_these (Err e) bytes same counts h =
    record { ok = h.ok; err = h.err; was_encodable = h.ok; counted = h.counted; too_long = λ encodable spare. h.too_long (λ it b. omega (arith, counts it b, encodable)) spare; full = h.full }

-- The encoding of a segment of another memory than memory 0.
pub other_memory : (memory : ℕ) (offset bytes : List ℕ) → memory ≢ 0 → (0x02 ∷ (unsigned_encoding memory ++ expression_encoding offset)) ++ size_prefixed_encoding bytes ≡ active_encoding memory offset bytes
other_memory zero offset bytes h = absurd (h refl)
other_memory (suc n) offset bytes h = ap (λ s. 0x02 ∷ s) (append_assoc (unsigned_encoding (suc n)) (expression_encoding offset) (size_prefixed_encoding bytes))

-- ---- decoding data segments

-- ---- size-prefixed bytes

are_members : (m : Mode) (bytes : List ℕ) → members byte m bytes bytes
are_members m [] = refl
are_members m (b ∷ bs) = (b ∷ [], bs, refl, refl, are_members m bs)

members_are : (m : Mode) (s xs : List ℕ) → members byte m s xs → s ≡ xs
members_are m s [] h = h
members_are m s (x ∷ xs) h = h.2 ∙ ap₂ ◌++◌ h.3 (members_are m h.1 xs h.4)

pub bytes_read : {m : Mode} (bytes rest x : List ℕ) → Decodes (size_prefixed any_bytes) m bytes x rest → Decodes (vec byte) m bytes x rest
bytes_read {m = m} bytes rest x h =
    let s = h.encodes in
    record {
      front = h.front;
      split = h.split;
      encodes = record { front = s.front; back = s.content; joined = s.joined; first = subst (λ z. u32 m s.front (length z)) s.encodes s.size; second = subst (λ z. members byte m s.content z) s.encodes (are_members m s.content) };
    }

pub bytes_none : {m : Mode} (bytes : List ℕ) → Rejects (size_prefixed any_bytes) m bytes → Rejects (vec byte) m bytes
bytes_none {m = m} bytes n = record {
  none = λ x rest h.
      let s = h.encodes in
      let same = members_are m s.back x s.second in
      n.none x rest (record { front = h.front; split = h.split; encodes = record { front = s.front; content = s.back; joined = s.joined; size = subst (λ z. u32 m s.front (length z)) (sym same) s.first; encodes = same } });
}

pub ruleset bytes_steps = (bytes_read)

-- ---- segments

-- The segments of a mode are those of its grammar.
of_mode : (m : Mode) (s : List ℕ) (x : DataItem) → data_item m s x → data_in (grammar_of m) m s x
of_mode minimal s x h = h
of_mode padded s x h = h
of_mode standard_minimal s x h = h
of_mode standard s x h = h

at_mode : (m : Mode) (s : List ℕ) (x : DataItem) → data_in (grammar_of m) m s x → data_item m s x
at_mode minimal s x h = h
at_mode padded s x h = h
at_mode standard_minimal s x h = h
at_mode standard s x h = h

mode_decodes : {m : Mode} {bytes last : List ℕ} {x : DataItem} → Decodes (data_in (grammar_of m)) m bytes x last → Decodes data_item m bytes x last
mode_decodes {m = m} {x = x} h = record { front = h.front; split = h.split; encodes = at_mode m h.front x h.encodes }

mode_rejects : {m : Mode} {bytes : List ℕ} → Rejects (data_in (grammar_of m)) m bytes → Rejects data_item m bytes
mode_rejects {m = m} n = record { none = λ x rest h. n.none x rest (record { front = h.front; split = h.split; encodes = of_mode m h.front x h.encodes }) }

segment_at : {m : Mode} (c : ℕ) {bytes rest last : List ℕ} {n : ℕ} {x : DataItem} → Decodes u32 m bytes n rest → n ≡ c → Decodes (after_flag (grammar_of m) c) m rest x last → Decodes data_item m bytes x last
segment_at {m = m} c {rest = rest} {last = last} {x = x} h e g = mode_decodes (tagged_decodes {G = after_flag (grammar_of m)} h (subst (λ z. Decodes (after_flag (grammar_of m) z) m rest x last) (sym e) g))

segment_not : {m : Mode} (c : ℕ) {bytes rest : List ℕ} {n : ℕ} → Decodes u32 m bytes n rest → n ≡ c → Rejects (after_flag (grammar_of m) c) m rest → Rejects data_item m bytes
segment_not {m = m} c {rest = rest} h e n = mode_rejects (tagged_rejects {G = after_flag (grammar_of m)} u32_unambiguous h (subst (λ z. Rejects (after_flag (grammar_of m) z) m rest) (sym e) n))

pub segment_none : {m : Mode} (bytes : List ℕ) → Rejects u32 m bytes → Rejects data_item m bytes
segment_none {m = m} bytes n = mode_rejects (tagged_none u32 (after_flag (grammar_of m)) bytes n)

pub segment_unknown : {m : Mode} (bytes rest : List ℕ) (n : ℕ) → Decodes u32 m bytes n rest → 3 ≤ n → Rejects data_item m bytes
segment_unknown {m = m} bytes rest n h l =
    mode_rejects (tagged_rejects {G = after_flag (grammar_of m)} u32_unambiguous h (no_choice (data_tags (grammar_of m)) n rest ((λ e. omega (arith, l, e)), ((λ e. omega (arith, l, e)), ((λ e. omega (arith, l, e)), tt)))))

pub first_decodes : {m : Mode} (bytes rest last : List ℕ) (n : ℕ) (is : List Plain) (x : List ℕ) → Decodes u32 m bytes n rest → n ≡ 0 → Decodes placed_format m rest (is, x) last → Decodes data_item m bytes (active 0 is x) last
first_decodes bytes rest last n is x h e g = segment_at 0 h e (mapped_decodes in_first g)

pub first_none : {m : Mode} (bytes rest : List ℕ) (n : ℕ) → Decodes u32 m bytes n rest → n ≡ 0 → Rejects placed_format m rest → Rejects data_item m bytes
first_none bytes rest n h e none = segment_not 0 h e (mapped_rejects in_first none)

pub passive_decodes : {m : Mode} (bytes rest last : List ℕ) (n : ℕ) (x : List ℕ) → Decodes u32 m bytes n rest → n ≡ 1 → Decodes (vec byte) m rest x last → Decodes data_item m bytes (passive x) last
passive_decodes bytes rest last n x h e g = segment_at 1 h e (mapped_decodes passive g)

pub passive_none : {m : Mode} (bytes rest : List ℕ) (n : ℕ) → Decodes u32 m bytes n rest → n ≡ 1 → Rejects (vec byte) m rest → Rejects data_item m bytes
passive_none bytes rest n h e none = segment_not 1 h e (mapped_rejects passive none)

-- ---- segments of a memory after flag 2

pub other_no_memory : {m : Mode} (bytes rest : List ℕ) (n : ℕ) → Decodes u32 m bytes n rest → n ≡ 2 → Rejects u32 m rest → Rejects data_item m bytes
other_no_memory {m = m} bytes rest n h e none = segment_not 2 h e (mapped_rejects in_memory (then_rejects_first (such_none (HasIndex (grammar_of m)) none)))

at_index : (w : Grammar) (k : ℕ) → HasIndex w k → HasIndex (grammar_of (padded_of w)) k
at_index w k p = subst (λ v. HasIndex v k) (sym (same_grammar w)) p

module _ (w : Grammar) (bytes rest next : List ℕ) (n k : ℕ) (h : Decodes u32 (padded_of w) bytes n rest) (e : n ≡ 2) (g : Decodes u32 (padded_of w) rest k next) where
  pub other_decodes : HasIndex w k → (last : List ℕ) (is : List Plain) (x : List ℕ) → Decodes placed_format (padded_of w) next (is, x) last → Decodes data_item (padded_of w) bytes (active k is x) last
  other_decodes p last is x placed = segment_at 2 h e (mapped_decodes in_memory (then_decodes (such_decodes (HasIndex (grammar_of (padded_of w))) g (at_index w k p)) placed))

  pub other_zero : (HasIndex w k → ⊥) → Rejects data_item (padded_of w) bytes
  other_zero none =
      let v = grammar_of (padded_of w) in
      segment_not 2 h e (mapped_rejects in_memory (then_rejects_first (such_rejects (HasIndex v) u32_unambiguous g (λ p. none (subst (λ v. HasIndex v k) (same_grammar w) p)))))

  pub other_none : HasIndex w k → Rejects placed_format (padded_of w) next → Rejects data_item (padded_of w) bytes
  other_none p none =
      let v = grammar_of (padded_of w) in
      segment_not 2 h e (mapped_rejects in_memory (then_rejects_second (such_unambiguous (HasIndex v) u32_unambiguous) (such_decodes (HasIndex v) g (at_index w k p)) none))

pub ruleset segment_steps = (segment_unknown, first_decodes)

-- Whether a memory may have an index.
pub index_other : (w : Grammar) (k : ℕ) → k ≢ 0 → HasIndex w k
index_other = has_index

pub index_standard : (w : Grammar) (k : ℕ) (r : Bool) → r ≡ is_admitted w → r ≡ true → HasIndex w k
index_standard w k r is p = any_index w k (sym is ∙ p)

pub index_admitted : (w : Grammar) (k : ℕ) (r : Bool) → k ≡ 0 → r ≡ is_admitted w → HasIndex w k → r ≡ true
index_admitted builders k r z is p = absurd (omega (arith, z, p))
index_admitted admitted k r z is p = is

pub ruleset index_steps = (index_other, index_standard, index_admitted)

-- ---- the one minimal encoding of a decoded segment

-- Size-prefixed bytes.
pub counted_appended : (bytes old new : List ℕ) → HasEncodableSize bytes → new ≡ old ++ size_prefixed_encoding bytes → AppendsMinimal builders_alone (vec byte) bytes old new
counted_appended bytes old new encodable e = built_appended (vec byte) bytes (size_prefixed_encoding bytes) old new (λ s h. bytes_encodes bytes encodable) e

-- In the builders' grammar.
data_appended : (x : DataItem) (old new : List ℕ) → AppendsMinimal builders_alone (data_in builders) x old new → AppendsMinimal builders_alone data_item x old new
data_appended x old new a = built_appended data_item x a.encoding old new (λ s h. a.encodes builders tt s h) a.appended

built_encoded : (x : DataItem) → HasEncoding builders_alone data_item x → HasEncoding builders_alone (data_in builders) x
built_encoded x h = go h.grammar h.included h.bytes h.decoded
  where
    go : (w : Grammar) → Includes builders_alone w → (s : List ℕ) → data_item (padded_of w) s x → HasEncoding builders_alone (data_in builders) x
    go builders q s k = record { grammar = builders; included = tt; bytes = s; decoded = k }
    go admitted q s k = absurd q

-- The flag is appended, then the fields that it selects.
flagged : (x : DataItem) (n : ℕ) (old middle new : List ℕ) → flag_of x ≡ n → middle ≡ old ++ unsigned_encoding n → AppendsMinimal builders_alone (after_flag builders n) x middle new → AppendsMinimal builders_alone data_item x old new
flagged x n old middle new e is a = data_appended x old new (tagged_appended u32 (after_flag builders) (λ mode s z h. flag_determines mode z s x h ∙ e) (u32_appended n old middle is) a)

pub placed_appended : (offset : List Plain) (bytes old middle new : List ℕ) → AppendsMinimal builders_alone expression offset old middle → HasEncodableSize bytes → new ≡ middle ++ size_prefixed_encoding bytes → AppendsMinimal builders_alone (pair expression (vec byte)) (offset, bytes) old new
placed_appended offset bytes old middle new a encodable e = pair_appended expression (vec byte) a (counted_appended bytes middle new encodable e)

pub passive_data_appended : (bytes old middle new : List ℕ) → middle ≡ old ++ unsigned_encoding 1 → HasEncodableSize bytes → new ≡ middle ++ size_prefixed_encoding bytes → AppendsMinimal builders_alone data_item (passive bytes) old new
passive_data_appended bytes old middle new e encodable is = flagged (passive bytes) 1 old middle new refl e (mapped_appended passive (vec byte) bytes middle new (λ z k. cc k) (counted_appended bytes middle new encodable is))

pub first_appended : (memory : ℕ) (offset : List Plain) (bytes old middle new : List ℕ) → memory ≡ 0 → middle ≡ old ++ unsigned_encoding 0 → AppendsMinimal builders_alone (pair expression (vec byte)) (offset, bytes) middle new → AppendsMinimal builders_alone data_item (active memory offset bytes) old new
first_appended memory offset bytes old middle new z e a =
    subst (λ n. AppendsMinimal builders_alone data_item (active n offset bytes) old new) (sym z)
    (flagged (active 0 offset bytes) 0 old middle new refl e (mapped_appended in_first (pair expression (vec byte)) (offset, bytes) middle new (λ p k. ap (λ x. (active_parts x).1) k) a))

pub other_appended : (memory : ℕ) (offset : List Plain) (bytes old middle new : List ℕ) → memory ≢ 0 → middle ≡ old ++ (unsigned_encoding 2 ++ unsigned_encoding memory) → AppendsMinimal builders_alone (pair expression (vec byte)) (offset, bytes) middle new → AppendsMinimal builders_alone data_item (active memory offset bytes) old new
other_appended memory offset bytes old middle new other e a =
    let some : 0 < memory = omega (arith, other) in
    let flagged_end = old ++ unsigned_encoding 2 in
    let number : AppendsMinimal builders_alone u32 memory flagged_end middle = u32_appended memory flagged_end middle (e ∙ sym (append_assoc old (unsigned_encoding 2) (unsigned_encoding memory))) in
    let index : AppendsMinimal builders_alone (such (HasIndex builders) u32) memory flagged_end middle = record { encoding = number.encoding; appended = number.appended; encodes = λ w q s h. (number.encodes w q s h.0, some) } in
    let inside = pair_appended (such (HasIndex builders) u32) (pair expression (vec byte)) index a in
    flagged (active memory offset bytes) 2 old flagged_end new (not_first memory offset bytes some) refl (mapped_appended in_memory (pair (such (HasIndex builders) u32) (pair expression (vec byte))) (memory, (offset, bytes)) flagged_end new (λ p k. ap active_parts k) inside)

-- ---- fields of a segment that has an encoding

pub data_offset_encoded : (offset : List Plain) (bytes : List ℕ) → HasEncoding builders_alone (pair expression (vec byte)) (offset, bytes) → HasEncoding builders_alone expression offset
data_offset_encoded offset bytes h = left_encoded expression (vec byte) offset bytes h

pub bytes_encodable : (offset : List Plain) (bytes : List ℕ) → HasEncoding builders_alone (pair expression (vec byte)) (offset, bytes) → HasEncodableSize bytes
bytes_encodable offset bytes h = counted_encodable byte bytes (right_encoded expression (vec byte) offset bytes h)

behind_flag : (x : DataItem) (n : ℕ) → flag_of x ≡ n → HasEncoding builders_alone data_item x → HasEncoding builders_alone (after_flag builders n) x
behind_flag x n e h = tagged_encoded u32 (after_flag builders) n x (λ mode s z k. flag_determines mode z s x k ∙ e) (built_encoded x h)

pub passive_encodable : (bytes : List ℕ) → HasEncoding builders_alone data_item (passive bytes) → HasEncodableSize bytes
passive_encodable bytes h = counted_encodable byte bytes (mapped_encoded passive (vec byte) bytes (λ z k. cc k) (behind_flag (passive bytes) 1 refl h))

pub placed_encoded : (memory : ℕ) (offset : List Plain) (bytes : List ℕ) → HasEncoding builders_alone data_item (active memory offset bytes) → HasEncoding builders_alone (pair expression (vec byte)) (offset, bytes)
placed_encoded zero offset bytes h = mapped_encoded in_first (pair expression (vec byte)) (offset, bytes) (λ p k. ap (λ x. (active_parts x).1) k) (behind_flag (active 0 offset bytes) 0 refl h)
placed_encoded (suc n) offset bytes h =
    right_encoded (such (HasIndex builders) u32) (pair expression (vec byte)) (suc n) (offset, bytes)
    (mapped_encoded in_memory (pair (such (HasIndex builders) u32) (pair expression (vec byte))) (suc n, (offset, bytes)) (λ p k. ap active_parts k) (behind_flag (active (suc n) offset bytes) 2 refl h))
