-- This file proves the places of sections in a module.
use Rattle.wasm_base.proofs.Words.{◌≡◌, ◌≢◌, ◌⊎◌, ℕ, ◌+◌, ◌<◌, ◌≤◌, List, [], ◌∷◌, ◌++◌, length, map, take, drop, true, false, Bool, inl, inr, refl, sym, ap, subst, ◌∙◌, append-nil, append_assoc, length-append, arith, cond, suc, ne_eqb, flat_map, DecodesWhole, DecodesOneMore, wasm_module}
use Rattle.std.specs.Prelude.{Result, Ok, OnOk}
use Rattle.std.specs.List.{AllByRecursion, slice_index_or}
use Rattle.std.proofs.lemmas.List.{take_more, drop_more, map-append, take-append-drop, length-take-le, length-map}
use Rattle.std.proofs.Math.Seq.{take-append_seam, drop-append_seam}
use Rattle.wasm_reader.specs.Iterating.{GivesSection, Iterating, Located, ahead}
use Rattle.wasm_reader.specs.Outlines.{Section, IsSection, bytes_of}
use Rattle.wasm_remap.specs.Places.{AppendsSections, BeginsPlaced, ComesBefore, EndsBefore, IsFound, IsFree, IsPlace, copied, lacks, order, rank_among, rank_of, sections_in}
use Rattle.wasm_remap.proofs.ModuleLaws.{all_more, joined_more}

-- ---- the standard's order

unranked : (n : ℕ) (ks : List ℕ) (id : ℕ) → AllByRecursion (λ k. id ≢ k) ks → 0 ≡ rank_among n ks id
unranked n [] id h = refl
unranked n (k ∷ ks) id h = unranked (suc n) ks id h.1 ∙ ap (λ t. cond t n (rank_among (suc n) ks id)) (sym (ne_eqb id k h.0))

pub no_rank : (id : ℕ) → id ≢ 1 → id ≢ 2 → id ≢ 3 → id ≢ 4 → id ≢ 5 → id ≢ 13 → id ≢ 6 → id ≢ 7 → id ≢ 8 → id ≢ 9 → id ≢ 12 → id ≢ 10 → id ≢ 11 → 0 ≡ rank_of id
no_rank id a b c d e f g h i j k l m = unranked 1 order id (a, (b, (c, (d, (e, (f, (g, (h, (i, (j, (k, (l, (m, tt)))))))))))))

pub ruleset rank_steps = (no_rank)

-- ---- lists of sections

-- The sections up to the next index.
pub sections_more : (xs : List Located) (k : ℕ) (d : Located) → k < length xs → sections_in (take (k + 1) xs) ≡ sections_in (take k xs) ++ (slice_index_or xs k d).section ∷ []
sections_more xs k d lt = ap sections_in (take_more xs k d lt) ∙ map-append (λ s. s.section) (take k xs) (slice_index_or xs k d ∷ [])

-- The sections before an index, the one at it, and those behind it.
pub sections_split : (xs : List Located) (k : ℕ) (d : Located) → k < length xs → sections_in xs ≡ sections_in (take k xs) ++ (slice_index_or xs k d).section ∷ sections_in (drop (k + 1) xs)
sections_split xs k d lt =
    ap sections_in (sym (take-append-drop k xs) ∙ ap (λ z. take k xs ++ z) (drop_more xs k d lt)) ∙ map-append (λ s. s.section) (take k xs) (slice_index_or xs k d ∷ drop (k + 1) xs)

-- The sections from `start` on, up to `rest`, are these.
pub record HasListed (start rest : List ℕ) (list : List Located) : Type 0 where
  pub joined : start ≡ flat_map bytes_of (sections_in list) ++ rest
  pub each : AllByRecursion IsSection (sections_in list)

pub listed_more : {start : List ℕ} {list : List Located} {old after : Iterating} {s : Located} → HasListed start (ahead old) list → GivesSection old s after → HasListed start (ahead after) (list ++ s ∷ [])
listed_more {start = start} {list = list} {old = old} {after = after} {s = s} h g =
    let e : sections_in (list ++ s ∷ []) ≡ sections_in list ++ s.section ∷ [] = map-append (λ z. z.section) list (s ∷ []) in
    record {
      joined = subst (λ z. start ≡ flat_map bytes_of z ++ ahead after) (sym e) (joined_more (sections_in list) start (ahead old) (ahead after) s.section h.joined g.split);
      each = subst (AllByRecursion IsSection) (sym e) (all_more IsSection (sections_in list) s.section h.each g.is_section);
    }

-- A module gains one more section.
pub appended_more : (xs : List Located) (k : ℕ) (s : Located) {before old new : List ℕ} → k < length xs → slice_index_or xs k s ≡ s → AppendsSections (map copied (sections_in (take k xs))) before old → DecodesOneMore (λ p. p ≡ s.section.payload) s.section.id old new → AppendsSections (map copied (sections_in (take (k + 1) xs))) before new
appended_more xs k s {new = new} lt is h more front read =
    let old = map copied (sections_in (take k xs)) in
    let e : map copied (sections_in (take (k + 1) xs)) ≡ old ++ copied s.section ∷ [] = ap (map copied) (sections_more xs k s lt ∙ ap (λ z. sections_in (take k xs) ++ z.section ∷ []) is) ∙ map-append copied (sections_in (take k xs)) (s.section ∷ []) in
    subst (DecodesWhole wasm_module new) (append_assoc front old (copied s.section ∷ []) ∙ ap (λ z. front ++ z) (sym e)) (more.for_each (front ++ old) s.section.payload (h front read) refl)

-- ---- the first section of an id

pub found_split : (xs : List Located) (id k : ℕ) (s : Located) → k < length xs → slice_index_or xs k s ≡ s → s.section.id ≡ id → lacks id (sections_in (take k xs)) → IsFound id (sections_in (take k xs)) s.section (sections_in (drop (k + 1) xs)) (sections_in xs)
found_split xs id k s lt is e none =
    record { split = sections_split xs k s lt ∙ ap (λ z. sections_in (take k xs) ++ z.section ∷ sections_in (drop (k + 1) xs)) is; is = e; first = none }

pub lacks_more : (xs : List Located) (id k : ℕ) (d : Located) → k < length xs → lacks id (sections_in (take k xs)) → (slice_index_or xs k d).section.id ≢ id → lacks id (sections_in (take (k + 1) xs))
lacks_more xs id k d lt h n =
    subst (lacks id) (sym (sections_more xs k d lt)) (all_more (λ s. s.id ≢ id) (sections_in (take k xs)) (slice_index_or xs k d).section h n)

-- ---- the place of a new section

-- A place, of which the sections behind it that were read decide that it stays.
pub record HasPlace (id : ℕ) (before after : List Section) : Type 0 where
  pub none_after : AllByRecursion (λ s. ComesBefore id s → ⊥) after
  pub behind : EndsBefore id before ⊎ (AllByRecursion IsFree before × ((s : Section) × (rest : List Section) × (after ≡ s ∷ rest) × (rank_of s.id ≢ 0)))

-- The place of a new section among those that were read. While all of them lack a place in the
-- order, it is behind them.
pub record HasRead (id : ℕ) (is_leading : Bool) (place : ℕ) (ss : List Section) : Type 0 where
  pub before : List Section
  pub after : List Section
  pub split : ss ≡ before ++ after
  pub at_place : length before ≡ place
  pub leading : is_leading ≡ true → (after ≡ []) × AllByRecursion IsFree before
  pub has_place : is_leading ≡ false → HasPlace id before after

no_true : true ≡ false → ⊥
no_true e = cc e

no_false : false ≡ true → ⊥
no_false e = cc e

pub read_start : (id : ℕ) → HasRead id true 0 []
read_start id = record { before = []; after = []; split = refl; at_place = refl; leading = λ e. (refl, tt); has_place = λ e. absurd (no_true e) }

length_more : (ss : List Section) (s : Section) (k : ℕ) → length ss ≡ k → length (ss ++ s ∷ []) ≡ k + 1
length_more ss s k e = length-append ss (s ∷ []) ∙ ap (λ z. z + 1) e

-- One more section without a place in the order, behind others without one.
pub read_leading : {id place k : ℕ} {ss : List Section} (s : Section) → length ss ≡ k → HasRead id true place ss → IsFree s → HasRead id true (k + 1) (ss ++ s ∷ [])
read_leading {k = k} {ss = ss} s e h free =
    let l = h.leading refl in
    let all : AllByRecursion IsFree ss = subst (AllByRecursion IsFree) (sym (h.split ∙ ap (λ z. h.before ++ z) l.0 ∙ append-nil h.before)) l.1 in
    record { before = ss ++ s ∷ []; after = []; split = sym (append-nil (ss ++ s ∷ [])); at_place = length_more ss s k e; leading = λ e. (refl, all_more IsFree ss s all free); has_place = λ e. absurd (no_true e) }

still_behind : (id : ℕ) (before after : List Section) (s : Section)
    → EndsBefore id before ⊎ (AllByRecursion IsFree before × ((a : Section) × (rest : List Section) × (after ≡ a ∷ rest) × (rank_of a.id ≢ 0)))
    → EndsBefore id before ⊎ (AllByRecursion IsFree before × ((a : Section) × (rest : List Section) × (after ++ s ∷ [] ≡ a ∷ rest) × (rank_of a.id ≢ 0)))
still_behind id before after s (inl h) = inl h
still_behind id before after s (inr h) = inr (h.0, (h.1.0, h.1.1 ++ s ∷ [], ap (λ z. z ++ s ∷ []) h.1.2, h.1.3))

-- One more behind sections that have a place.
pub read_free : {id place : ℕ} {ss : List Section} (s : Section) → HasRead id false place ss → IsFree s → HasRead id false place (ss ++ s ∷ [])
read_free {id = id} s h free =
    let p = h.has_place refl in
    record {
      before = h.before;
      after = h.after ++ s ∷ [];
      split = ap (λ z. z ++ s ∷ []) h.split ∙ append_assoc h.before h.after (s ∷ []);
      at_place = h.at_place;
      leading = λ e. absurd (no_false e);
      has_place = λ e. record { none_after = all_more (λ z. ComesBefore id z → ⊥) h.after s p.none_after (λ c. c.0 free); behind = still_behind id h.before h.after s p.behind };
    }

-- A section that comes before the new one.
pub read_before : {id place k : ℕ} {leads : Bool} {ss : List Section} (s : Section) → length ss ≡ k → HasRead id leads place ss → ComesBefore id s → HasRead id false (k + 1) (ss ++ s ∷ [])
read_before {k = k} {ss = ss} s e h c =
    record { before = ss ++ s ∷ []; after = []; split = sym (append-nil (ss ++ s ∷ [])); at_place = length_more ss s k e; leading = λ e. absurd (no_false e); has_place = λ e. record { none_after = tt; behind = inl (ss, s, refl, c) } }

-- A section that comes after the new one, or has its id.
pub read_after : {id place : ℕ} (leads : Bool) {ss : List Section} (s : Section) → HasRead id leads place ss → rank_of s.id ≢ 0 → (rank_of s.id < rank_of id → ⊥) → HasRead id false place (ss ++ s ∷ [])
read_after {id = id} true {ss = ss} s h ranked late =
    let l = h.leading refl in
    record {
      before = h.before;
      after = s ∷ [];
      split = ap (λ z. z ++ s ∷ []) (h.split ∙ ap (λ z. h.before ++ z) l.0 ∙ append-nil h.before);
      at_place = h.at_place;
      leading = λ e. absurd (no_false e);
      has_place = λ e. record { none_after = (λ c. late c.1, tt); behind = inr (l.1, (s, [], refl, ranked)) };
    }
read_after {id = id} false {ss = ss} s h ranked late =
    let p = h.has_place refl in
    record {
      before = h.before;
      after = h.after ++ s ∷ [];
      split = ap (λ z. z ++ s ∷ []) h.split ∙ append_assoc h.before h.after (s ∷ []);
      at_place = h.at_place;
      leading = λ e. absurd (no_false e);
      has_place = λ e. record { none_after = all_more (λ z. ComesBefore id z → ⊥) h.after s p.none_after (λ c. late c.1); behind = still_behind id h.before h.after s p.behind };
    }

-- The sections of a list up to the next index.
pub read_to : (xs : List Located) (k : ℕ) (s : Located) {id place : ℕ} {leads : Bool} → k < length xs → slice_index_or xs k s ≡ s → HasRead id leads place (sections_in (take k xs) ++ s.section ∷ []) → HasRead id leads place (sections_in (take (k + 1) xs))
read_to xs k s {id = id} {place = place} {leads = leads} lt is h = subst (HasRead id leads place) (sym (sections_more xs k s lt ∙ ap (λ z. sections_in (take k xs) ++ z.section ∷ []) is)) h

-- As many sections come before an index as the index says.
read_long : (xs : List Located) (k : ℕ) → k < length xs → length (sections_in (take k xs)) ≡ k
read_long xs k lt = length-map (take k xs) (λ z. z.section) ∙ length-take-le k xs (omega (arith, lt))

-- A turn of the loop, for each kind of the next section.
pub turn_leading : (xs : List Located) (k : ℕ) (s : Located) {id place : ℕ} {leads : Bool} → k < length xs → slice_index_or xs k s ≡ s → HasRead id leads place (sections_in (take k xs)) → leads ≡ true → IsFree s.section → HasRead id leads (k + 1) (sections_in (take (k + 1) xs))
turn_leading xs k s {id = id} {place = place} {leads = leads} lt is h e free =
    let read = read_leading s.section (read_long xs k lt) (subst (λ b. HasRead id b place (sections_in (take k xs))) e h) free in
    subst (λ b. HasRead id b (k + 1) (sections_in (take (k + 1) xs))) (sym e) (read_to xs k s lt is read)

pub turn_free : (xs : List Located) (k : ℕ) (s : Located) {id place : ℕ} {leads : Bool} → k < length xs → slice_index_or xs k s ≡ s → HasRead id leads place (sections_in (take k xs)) → leads ≡ false → IsFree s.section → HasRead id leads place (sections_in (take (k + 1) xs))
turn_free xs k s {id = id} {place = place} {leads = leads} lt is h e free =
    let read = read_free s.section (subst (λ b. HasRead id b place (sections_in (take k xs))) e h) free in
    subst (λ b. HasRead id b place (sections_in (take (k + 1) xs))) (sym e) (read_to xs k s lt is read)

pub turn_before : (xs : List Located) (k : ℕ) (s : Located) {id place : ℕ} {leads : Bool} → k < length xs → slice_index_or xs k s ≡ s → HasRead id leads place (sections_in (take k xs)) → ComesBefore id s.section → HasRead id false (k + 1) (sections_in (take (k + 1) xs))
turn_before xs k s lt is h c = read_to xs k s lt is (read_before s.section (read_long xs k lt) h c)

pub turn_after : (xs : List Located) (k : ℕ) (s : Located) {id place : ℕ} {leads : Bool} → k < length xs → slice_index_or xs k s ≡ s → HasRead id leads place (sections_in (take k xs)) → rank_of s.section.id ≢ 0 → (rank_of s.section.id < rank_of id → ⊥) → HasRead id false place (sections_in (take (k + 1) xs))
turn_after xs k s {leads = leads} lt is h ranked late = read_to xs k s lt is (read_after leads s.section h ranked late)

begins : (after : List Section) (s : Section) (rest : List Section) → after ≡ s ∷ rest → rank_of s.id ≢ 0 → BeginsPlaced after
begins after s rest e h = subst BeginsPlaced (sym e) h

settled : (id : ℕ) (before after : List Section) → HasPlace id before after → IsPlace id before after
settled id before after h = record { none_after = h.none_after; behind = go h.behind }
  where
    go : EndsBefore id before ⊎ (AllByRecursion IsFree before × ((s : Section) × (rest : List Section) × (after ≡ s ∷ rest) × (rank_of s.id ≢ 0))) → EndsBefore id before ⊎ (AllByRecursion IsFree before × BeginsPlaced after)
    go (inl g) = inl g
    go (inr g) = inr (g.0, begins after g.1.0 g.1.1 g.1.2 g.1.3)

placed : (id : ℕ) (leads : Bool) (place : ℕ) (ss : List Section) (h : HasRead id leads place ss) → IsPlace id h.before h.after
placed id true place ss h = let l = h.leading refl in record { none_after = subst (AllByRecursion (λ s. ComesBefore id s → ⊥)) (sym l.0) tt; behind = inr (l.1, subst BeginsPlaced (sym l.0) tt) }
placed id false place ss h = settled id h.before h.after (h.has_place refl)

-- All sections were read.
pub read_all : {id place : ℕ} (leads : Bool) (ss : List Section) → HasRead id leads place ss → (place ≤ length ss) × IsPlace id (take place ss) (drop place ss)
read_all {id = id} {place = place} leads ss h =
    let front : take place ss ≡ h.before = ap (λ z. take place z) h.split ∙ ap (λ n. take n (h.before ++ h.after)) (sym h.at_place) ∙ take-append_seam h.before h.after in
    let back : drop place ss ≡ h.after = ap (λ z. drop place z) h.split ∙ ap (λ n. drop n (h.before ++ h.after)) (sym h.at_place) ∙ drop-append_seam h.before h.after in
    let within : place ≤ length ss = omega (arith, h.at_place, ap length h.split, length-append h.before h.after) in
    (within, subst (λ z. IsPlace id z (drop place ss)) (sym front) (subst (λ z. IsPlace id h.before z) (sym back) (placed id leads place ss h)))

-- ---- results

pub ok_holds : {X E : Type 0} {P : Type 0} {r : Result X E} {x : X} → r ≡ Ok x → OnOk r P → P
ok_holds {P = P} e h = subst (λ z. OnOk z P) e h
