-- This file proves how the minimizer encodes a module.
use Rattle.wasm_base.proofs.Words.{◌≡◌, ◌≢◌, ℕ, ◌≤◌, ◌<◌, ◌+◌, ◌-◌, ◌^◌, suc, List, [], ◌∷◌, ◌++◌, length, map, take, drop, Bool, false, Decides, Some, None, refl, sym, ap, subst, ◌∙◌, append_assoc}
use Rattle.wasm_base.proofs.Words.{append-nil, arith, AllByRecursion, flat_map, flat_map-append, length-drop, length-map, take_at, take_all, drop_at, RejectsWhole, admitted, padded, any_bytes}
use Rattle.wasm_base.proofs.Words.{any_section, size_prefixed, header, members, wasm_module, Decodes, Rejects, size_prefixed_bytes_unambiguous, decodes_same}
use Rattle.std.proofs.lemmas.List.{length-append}
use Rattle.wasm_reader.specs.{Section, IsSection, HasSections, bytes_of, EndsAt, TakesIn, ShortensIn, contains_offsets, KeepsOffsets, HasLostOffsets, IsEncodingFor, IsWritten, Rewrite, IsRewrite, written}
use Rattle.wasm_reader.specs.{written_as, id_written, IsChange, IsFirst, size_before, size_after, ShortensModule, LosesOffsets, GainsSection, leaves_out, lost_at, HasTally, Rewrites, StopsAfter}
use Rattle.wasm_reader.specs.{IsFrontOf}
use Rattle.wasm_reader.specs.declared.kinds.SectionKind.{SectionKind}
use Rattle.wasm_reader.specs.declared.whole.Offsets.{Offsets}
use Rattle.wasm_reader.specs.declared.whole.How.{How}
use Rattle.wasm_reader.specs.declared.whole.How.TheVariants.{Minimal, Kept, LeftOut}
use Rattle.wasm_reader.specs.declared.whole.Offsets.TheVariants.{Refuse, LeaveOut}
use Rattle.wasm_reader.specs.declared.whole.Tally.{Tally}
use Rattle.wasm_reader.proofs.KeptOffsets.{all_map, first_lost, not_lost, nothing, nothing_known}
use Rattle.wasm_reader.proofs.MinimalSections.{standard_size, minimal_size}
use Rattle.wasm_reader.proofs.DecodeOutlines.{All-append, joined_more, no_module, ends_behind, sections_read, any_of}

-- ---- a section

-- A section that is minimized uses all of its size-prefixed bytes.
pub whole_size_prefixed : (kind : SectionKind) (s : Section) (n : ℕ) (old new : List ℕ) → IsSection s → ShortensIn admitted kind s.sized n old new → (encoding : List ℕ) × ShortensIn admitted kind s.sized (length s.sized) [] encoding × (new ≡ old ++ encoding)
whole_size_prefixed kind s n old new i h =
    let r = h.takes.decodes in
    let all : Decodes (size_prefixed any_bytes) padded s.sized s.payload [] = record { front = s.sized; split = sym (append-nil s.sized); encodes = i.contains } in
    let f = r.encodes in
    let any : size_prefixed any_bytes padded r.front f.content = record { front = f.front; content = f.content; joined = f.joined; size = standard_size f.front (length f.content) f.size; encodes = refl } in
    let read : Decodes (size_prefixed any_bytes) padded s.sized f.content (drop n s.sized) = record { front = r.front; split = r.split; encodes = any } in
    let same = decodes_same size_prefixed_bytes_unambiguous all read in
    let taken : n ≡ length s.sized = omega (arith, ap length same.1, length-drop n s.sized, h.takes.within) in (
      h.encoding,
      record {
        value = h.value;
        takes = subst (λ z. TakesIn admitted kind s.sized h.value z) taken h.takes;
        encoding = h.encoding;
        encodes = h.encodes;
        shorter = omega (arith, h.shorter, taken);
        appended = refl;
      },
      h.appended,
    )

pub stays_in : (offsets : Offsets) (contains : Bool) → leaves_out offsets contains ≡ false → offsets ≡ LeaveOut → contains ≡ false
stays_in Refuse contains e l = absurd (cc l)
stays_in LeaveOut contains e l = e

pub is_change_encoding : (b : Bool) (s : Section) (given encoding : List ℕ) → given ≡ encoding → IsChange b s given → IsChange b s encoding
is_change_encoding b s given encoding e m = subst (λ z. IsChange b s z) e m

pub after_id : (old encoding new : List ℕ) (id start : ℕ) → start ≡ length old → new ≡ (old ++ id ∷ []) ++ encoding → take (length new - (start + 1)) (drop (start + 1) new) ≡ encoding
after_id old encoding new id start l e =
    let behind : drop (start + 1) new ≡ encoding = behind_start in
    ap (take (length new - (start + 1))) behind ∙ take_all (length new - (start + 1)) encoding (omega (arith, l, ap length e, length-append (old ++ id ∷ []) encoding, length-append old (id ∷ [])))
  where
    behind_start : drop (start + 1) new ≡ encoding
    behind_start = ap (drop (start + 1)) e ∙ drop_at (old ++ id ∷ []) encoding (start + 1) (omega (arith, l, length-append old (id ∷ [])))

is_written : (offsets : Offsets) (how : How) (s : Section) (encoding : List ℕ) → IsEncodingFor how s encoding → (offsets ≡ LeaveOut → contains_offsets s.name ≡ false) → IsWritten offsets how s encoding
is_written offsets Minimal s encoding h n = (h, n)
is_written offsets Kept s encoding h n = (h, n)
is_written offsets LeftOut s encoding h n = absurd h

behind_id : (how : How) (s : Section) (encoding : List ℕ) → IsEncodingFor how s encoding → written_as how s.id encoding ≡ s.id ∷ encoding
behind_id Minimal s encoding h = refl
behind_id Kept s encoding h = refl
behind_id LeftOut s encoding h = absurd h

pub gains : (offsets : Offsets) (s : Section) (how : How) (is_changed : Bool) (encoding old new : List ℕ) → IsEncodingFor how s encoding → (offsets ≡ LeaveOut → contains_offsets s.name ≡ false) → IsChange is_changed s encoding → new ≡ (old ++ s.id ∷ []) ++ encoding → GainsSection offsets s how is_changed old new
gains offsets s how is_changed encoding old new h n d e = record {
  encoding = encoding;
  written = is_written offsets how s encoding h n;
  changed = d;
  appended = e ∙ append_assoc old (s.id ∷ []) encoding ∙ ap (λ z. old ++ z) (sym (behind_id how s encoding h));
}

-- An equal section.
pub gains_same : {offsets : Offsets} {s t : Section} {how : How} {is_changed : Bool} {old new : List ℕ} → s ≡ t → GainsSection offsets s how is_changed old new → GainsSection offsets t how is_changed old new
gains_same {offsets = offsets} {how = how} {is_changed = is_changed} {old = old} {new = new} e h = subst (λ z. GainsSection offsets z how is_changed old new) e h

-- ---- sections one after another

pub rewrites_start : (offsets : Offsets) (bytes old : List ℕ) → Rewrites offsets bytes bytes old old nothing
rewrites_start offsets bytes old = record { rewrites = []; joined = refl; sections = tt; each = tt; tallied = nothing_known; appended = sym (append-nil old) }

pub rewrites_step : (offsets : Offsets) (bytes rest after old middle new : List ℕ) (tally next : Tally) (s : Section) (how : How) (is_changed is_level : Bool) (from to : ℕ) → Rewrites offsets bytes rest old middle tally → IsSection s → rest ≡ bytes_of s ++ after
    → GainsSection offsets s how is_changed middle new → Decides is_level (from ≡ to) → from + length rest ≡ length bytes → to + length old ≡ length middle
    → ((ws : List Rewrite) (w : Rewrite) → HasTally ws tally → s ≡ w.section → how ≡ w.how → IsChange is_changed w.section w.encoding → Decides is_level (size_before ws ≡ size_after ws) → HasTally (ws ++ w ∷ []) next) → Rewrites offsets bytes after old new next
rewrites_step offsets bytes rest after old middle new tally next s how is_changed is_level from to r i e g l f b t =
    let w : Rewrite = record { section = s; how = how; encoding = g.encoding } in
    let before : size_before r.rewrites ≡ from = omega (arith, f, ap length r.joined, length-append (flat_map (λ v. bytes_of v.section) r.rewrites) rest) in
    let after_all : size_after r.rewrites ≡ to = omega (arith, b, ap length r.appended, length-append old (flat_map written r.rewrites)) in
    record {
      rewrites = r.rewrites ++ w ∷ [];
      joined = joined_more (λ v. bytes_of v.section) bytes rest after r.rewrites w r.joined e;
      sections = All-append (λ v. IsSection v.section) r.rewrites (w ∷ []) r.sections (i, tt);
      each = All-append (IsRewrite offsets) r.rewrites (w ∷ []) r.each (g.written, tt);
      tallied = t r.rewrites w r.tallied refl refl g.changed ((λ k. before ∙ l.0 k ∙ sym after_all), (λ k. l.1 (sym before ∙ k ∙ after_all)));
      appended = g.appended ∙ ap (λ z. z ++ written w) r.appended ∙ append_assoc old (flat_map written r.rewrites) (written w) ∙ ap (λ z. old ++ (flat_map written r.rewrites ++ z)) (sym (append-nil (written w))) ∙ ap (λ z. old ++ z) (sym (flat_map-append written r.rewrites (w ∷ [])));
    }

abbrev pub sections_of : List Rewrite → List Section
sections_of ws = map (λ w. w.section) ws

pub bytes_joined : (ws : List Rewrite) → flat_map (λ w. bytes_of w.section) ws ≡ flat_map bytes_of (sections_of ws)
bytes_joined [] = refl
bytes_joined (w ∷ ws) = ap (λ z. bytes_of w.section ++ z) (bytes_joined ws)

all_sections : (ws : List Rewrite) → AllByRecursion (λ w. IsSection w.section) ws → AllByRecursion IsSection (sections_of ws)
all_sections [] h = tt
all_sections (w ∷ ws) h = (h.0, all_sections ws h.1)

pub rewrites_stop : (offsets : Offsets) (bytes rest old now : List ℕ) (tally : Tally) → Rewrites offsets bytes rest old now tally → rest ≢ [] → Rejects any_section padded rest → StopsAfter bytes (tally.sections + 1)
rewrites_stop offsets bytes rest old now tally r more n =
    let ss = sections_of r.rewrites in
    record {
      sections = map any_of ss;
      rest = rest;
      read = sections_read bytes rest ss (all_sections r.rewrites r.sections) (r.joined ∙ ap (λ z. z ++ rest) (bytes_joined r.rewrites));
      counted = omega (arith, length-map ss any_of, length-map r.rewrites (λ w. w.section), r.tallied.sections);
      more = more;
      none = n;
    }

rewrites_few : (offsets : Offsets) (bytes rest old now : List ℕ) (tally : Tally) → Rewrites offsets bytes rest old now tally → tally.sections + length rest ≤ length bytes
rewrites_few offsets bytes rest old now tally r = omega (arith, r.tallied.sections, ap length r.joined, length-append (flat_map (λ w. bytes_of w.section) r.rewrites) rest, each_takes r.rewrites)
  where
    each_takes : (ws : List Rewrite) → length ws ≤ length (flat_map (λ w. bytes_of w.section) ws)
    each_takes [] = omega arith
    each_takes (w ∷ ws) = omega (arith, each_takes ws, length-append (bytes_of w.section) (flat_map (λ v. bytes_of v.section) ws))

pub rewrites_below : (offsets : Offsets) (bytes rest old now : List ℕ) (tally : Tally) → Rewrites offsets bytes rest old now tally → length bytes < 2 ^ 64 → length rest ≢ 0 → tally.sections + 1 < 2 ^ 64
rewrites_below offsets bytes rest old now tally r l more = omega (arith, rewrites_few offsets bytes rest old now tally r, l, more)

-- The remaining bytes are no longer than the input, and the old bytes are a prefix of the new ones.
pub rewrites_rest : (offsets : Offsets) (bytes rest old now : List ℕ) (tally : Tally) → Rewrites offsets bytes rest old now tally → length rest ≤ length bytes
rewrites_rest offsets bytes rest old now tally r = omega (arith, ap length r.joined, length-append (flat_map (λ w. bytes_of w.section) r.rewrites) rest)

pub rewrites_longer : (offsets : Offsets) (bytes rest old now : List ℕ) (tally : Tally) → Rewrites offsets bytes rest old now tally → length old ≤ length now
rewrites_longer offsets bytes rest old now tally r = omega (arith, ap length r.appended, length-append old (flat_map written r.rewrites))

pub rewrites_front : (offsets : Offsets) (bytes rest old now : List ℕ) (tally : Tally) → Rewrites offsets bytes rest old now tally → IsFrontOf old now
rewrites_front offsets bytes rest old now tally r = (flat_map written r.rewrites, r.appended)

-- ---- the output

written_short : (offsets : Offsets) (w : Rewrite) → IsRewrite offsets w → length (written w) ≤ length (bytes_of w.section)
written_short offsets w h = go w.how h
  where
    go : (how : How) → IsWritten offsets how w.section w.encoding → length (written_as how w.section.id w.encoding) ≤ length (bytes_of w.section)
    go Minimal h = omega (arith, h.0.shorter, ap length h.0.appended)
    go Kept h = omega (arith, ap length h.0.0)
    go LeftOut h = omega arith

no_longer : (offsets : Offsets) (ws : List Rewrite) → AllByRecursion (IsRewrite offsets) ws → length (flat_map written ws) ≤ length (flat_map (λ w. bytes_of w.section) ws)
no_longer offsets [] h = omega arith
no_longer offsets (w ∷ ws) h = omega (arith, written_short offsets w h.0, no_longer offsets ws h.1, length-append (written w) (flat_map written ws), length-append (bytes_of w.section) (flat_map (λ v. bytes_of v.section) ws))

-- Sections with these ids encode the bytes.
record EncodedWith (bytes ids : List ℕ) : Type 0 where
  sections : List (ℕ × List ℕ)
  encodes : members any_section padded bytes sections
  same : map (λ s. s.0) sections ≡ ids

one_more : (id : ℕ) (encoding payload bytes ids : List ℕ) → size_prefixed any_bytes padded encoding payload → EncodedWith bytes ids → EncodedWith ((id ∷ encoding) ++ bytes) (id ∷ ids)
one_more id encoding payload bytes ids f h = record {
  sections = (id, payload) ∷ h.sections;
  encodes = (id ∷ encoding, bytes, refl, record { front = id ∷ []; back = encoding; joined = refl; first = refl; second = f }, h.encodes);
  same = ap (λ z. id ∷ z) h.same;
}

module _ (w : Rewrite) (bytes ids : List ℕ) (rest : EncodedWith bytes ids) where
  one_written : (offsets : Offsets) (how : How) → IsSection w.section → IsWritten offsets how w.section w.encoding → EncodedWith (written_as how w.section.id w.encoding ++ bytes) (written_as how w.section.id [] ++ ids)
  one_written offsets Minimal i g =
      let t = g.0 in
      let f = t.encodes in
      let any : size_prefixed any_bytes padded t.encoding f.content = record { front = f.front; content = f.content; joined = f.joined; size = minimal_size f.front (length f.content) f.size; encodes = refl } in
      one_more w.section.id w.encoding f.content bytes ids (subst (λ z. size_prefixed any_bytes padded z f.content) (sym t.appended) any) rest
  one_written offsets Kept i g = one_more w.section.id w.encoding w.section.payload bytes ids (subst (λ z. size_prefixed any_bytes padded z w.section.payload) (sym g.0.0) i.contains) rest
  one_written offsets LeftOut i g = rest

written_encodes : (offsets : Offsets) (ws : List Rewrite) → AllByRecursion (λ w. IsSection w.section) ws → AllByRecursion (IsRewrite offsets) ws → EncodedWith (flat_map written ws) (flat_map id_written ws)
written_encodes offsets [] i h = record { sections = []; encodes = refl; same = refl }
written_encodes offsets (w ∷ ws) i h = one_written w (flat_map written ws) (flat_map id_written ws) (written_encodes offsets ws i.1 h.1) offsets w.how i.0 h.0

module _ (offsets : Offsets) (bytes start old middle new : List ℕ) (tally : Tally) (e : bytes ≡ header ++ start) (m : middle ≡ old ++ header) (r : Rewrites offsets start [] middle new tally) where
  behind : start ≡ flat_map bytes_of (sections_of r.rewrites)
  behind = r.joined ∙ append-nil (flat_map (λ w. bytes_of w.section) r.rewrites) ∙ bytes_joined r.rewrites

  has : HasSections bytes (sections_of r.rewrites)
  has = record { joined = e ∙ ap (λ z. header ++ z) behind; each = all_sections r.rewrites r.sections }

  module_shortened : (offsets ≡ Refuse → AllByRecursion (KeepsOffsets r.rewrites) r.rewrites) → ShortensModule offsets bytes tally.kept old new
  module_shortened encodable =
      let sink = written_encodes offsets r.rewrites r.sections r.each in
      record {
        rewrites = r.rewrites;
        has = has;
        each = r.each;
        counted = r.tallied.kept;
        fitting = encodable;
        encoding = header ++ flat_map written r.rewrites;
        is = refl;
        appended = r.appended ∙ ap (λ z. z ++ flat_map written r.rewrites) m ∙ append_assoc old header (flat_map written r.rewrites);
        shorter = omega (arith, no_longer offsets r.rewrites r.each, ap length e, ap length r.joined, length-append (flat_map (λ w. bytes_of w.section) r.rewrites) [], length-append header start, length-append header (flat_map written r.rewrites));
        sections = sink.sections;
        read = ((tt, sink.sections), refl, record { front = header; back = flat_map written r.rewrites; joined = refl; first = (refl, refl); second = sink.encodes });
        same_ids = sink.same;
      }

  -- With no lost offsets the module is minimized.
  pub keeps_offsets : lost_at offsets tally ≡ None → ShortensModule offsets bytes tally.kept old new
  keeps_offsets n = module_shortened λ l. kept (subst (λ o. lost_at o tally ≡ None) l n)
    where
      kept : lost_at Refuse tally ≡ None → AllByRecursion (KeepsOffsets r.rewrites) r.rewrites
      kept k =
          let none : IsFirst (HasLostOffsets r.rewrites) r.rewrites None = subst (λ z. IsFirst (HasLostOffsets r.rewrites) r.rewrites z) k (first_lost r.rewrites tally r.tallied) in
          all_map (λ w. HasLostOffsets r.rewrites w → ⊥) (KeepsOffsets r.rewrites) (not_lost r.rewrites tally r.tallied) r.rewrites none

  loses : (number : ℕ) → offsets ≡ Refuse → lost_at Refuse tally ≡ Some number → LosesOffsets bytes number
  loses number o k =
      let f : IsFirst (HasLostOffsets r.rewrites) r.rewrites (Some number) = subst (λ z. IsFirst (HasLostOffsets r.rewrites) r.rewrites z) k (first_lost r.rewrites tally r.tallied) in
      let is = f.3 in
      record {
        before = f.0;
        holder = f.2;
        after = f.1;
        has = subst (λ z. HasSections bytes (sections_of z)) is has;
        each = subst (λ z. AllByRecursion (IsRewrite Refuse) z) is (subst (λ z. AllByRecursion (IsRewrite z) r.rewrites) o r.each);
        counted = f.4;
        first = subst (λ z. AllByRecursion (KeepsOffsets z) f.0) is (all_map (λ w. HasLostOffsets r.rewrites w → ⊥) (KeepsOffsets r.rewrites) (not_lost r.rewrites tally r.tallied) f.0 f.5);
        lost = subst (λ z. HasLostOffsets z f.2) is f.6;
      }

  pub loses_at : (number : ℕ) → lost_at offsets tally ≡ Some number → (offsets ≡ Refuse) × LosesOffsets bytes number
  loses_at number n = cases offsets refl n
    where
      cases : (o : Offsets) → offsets ≡ o → lost_at o tally ≡ Some number → (offsets ≡ Refuse) × LosesOffsets bytes number
      cases Refuse e k = (e, loses number e k)
      cases LeaveOut e k = absurd (cc k)

pub stops_at : (bytes start : List ℕ) (number : ℕ) → bytes ≡ header ++ start → StopsAfter start number → EndsAt bytes number × RejectsWhole wasm_module padded bytes
stops_at bytes start number e s =
    let behind : suc (length s.sections) ≡ number = omega (arith, s.counted) in
    (subst (λ z. EndsAt bytes z) behind (ends_behind bytes start s.rest s.sections e s.read s.more s.none), no_module bytes start s.rest s.sections e s.read s.more s.none)

pub cut_off : (old new : List ℕ) → IsFrontOf old new → take (length old) new ≡ old
cut_off old new h = ap (take (length old)) h.1 ∙ take_at old h.0 (length old) refl

pub front_of_more : (old middle new more : List ℕ) → middle ≡ old ++ more → IsFrontOf middle new → IsFrontOf old new
front_of_more old middle new more e h = (more ++ h.0, h.1 ∙ ap (λ z. z ++ h.0) e ∙ append_assoc old more h.0)

pub front_same : (old new : List ℕ) → new ≡ old → IsFrontOf old new
front_same old new e = ([], e ∙ sym (append-nil old))
