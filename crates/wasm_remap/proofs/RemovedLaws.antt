-- This file proves what remains of a section without some functions, and that it has an encoding.
use Rattle.wasm_base.proofs.Words.{◌≡◌, ◌⊎◌, ℕ, zero, suc, ◌+◌, ◌*◌, ◌^◌, ◌≤◌, ◌<◌, List, [], ◌∷◌, ◌++◌, length, map, take, drop, get_or, min, Bool, true, false, cond, not, Option, Some, None, inl, inr, refl, sym, ap, ap₂, subst, ◌∙◌, arith, length-append, append_assoc, append-nil}
use Rattle.std.specs.Prelude.{slice_set, slice_index_or}
use Rattle.std.specs.List.{filter, SwappedAt}
use Rattle.std.proofs.lemmas.Bool.{false≢true}
use Rattle.std.proofs.lemmas.List.{drop_all, drop_more, drop-set-lt, length-map, length-set, take_more_set, take-set-le}
use Rattle.wasm_base.specs.Formats.{Format, u32, Then, members, vec}
use Rattle.wasm_base.specs.Numbers.{admitted, standard, standard_minimal, unsigned_encoding}
use Rattle.wasm_custom.specs.Names.{NameItem, NameKind, Map, Module, Indirect, Other, of_module, of_map, of_indirect, of_other, name_kind_of, after_id, name_payload}
use Rattle.wasm_reader.specs.Kinds.{Bodies, Contents, Functions, Names, content, kind_in}
use Rattle.wasm_reader.specs.Sections.{AppendsContentIn, HasContentIn, HasShortBodies}
use Rattle.wasm_reader.specs.Words.{Section, section_kind_of}
use Rattle.wasm_reader.specs.declared.kinds.SectionKind.{SectionKind}
use Rattle.wasm_reader.specs.declared.kinds.SectionKind.TheVariants as kinds
use Rattle.wasm_reader.proofs.KindLaws.{content_whole, kind_is}
use Rattle.wasm_remap.specs.Customs.{name_spaces, space_among, remapped_name}
use Rattle.wasm_reader.specs.declared.whole.Offsets.{Offsets}
use Rattle.wasm_remap.specs.Errors.{ExplainsChange, ExplainsContent, ExplainsModule}
use Rattle.wasm_remap.specs.declared.indexed.RemapError.{RemapError}
use Rattle.wasm_remap.specs.declared.remove.RemoveError.{RemoveError}
use Rattle.wasm_remap.proofs.ErrorLaws.{explains_each}
use Rattle.wasm_remap.specs.Instructions.{remapped_body}
use Rattle.wasm_remap.specs.Mapping.{Follows, IsSmall, Mapping, mapped_first}
use Rattle.wasm_remap.specs.Removed.{ExplainsTrimmed, IsTrimmed, IsTrimmedBy, IsUse, Renumbers, by_table, is_removed, numbered, staying, stays, trimmed, trimmed_name, unflagged}
use Rattle.wasm_remap.specs.Sections.{remapped}
use Rattle.wasm_remap.specs.Shifted.{is_same}
use Rattle.wasm_remap.specs.declared.spaces.IndexSpace.{IndexSpace}
use Rattle.wasm_remap.specs.declared.spaces.IndexSpace.TheVariants as spaces
use Rattle.wasm_remap.proofs.MappedCode.{body_maps, index_maps}
use Rattle.wasm_remap.proofs.MappedCustoms.{first_maps}
use Rattle.wasm_remap.proofs.MappedForms.{MappedForm, Maps, kept, mapped_maps, members_maps, number_length, size_prefixed_maps, some_groups, tagged_maps, u32_encoded}
use Rattle.wasm_remap.proofs.MappedSections.{changed_content, content_maps}

-- ---- lists

no_flags : {X : Type 0} (xs : List X) → unflagged [] xs ≡ xs
no_flags [] = refl
no_flags (x ∷ xs) = refl

unflagged_from : {X : Type 0} (flags : List Bool) (k : ℕ) (x : X) (xs : List X) → unflagged (drop k flags) (x ∷ xs) ≡ cond (is_removed flags k) (unflagged (drop (suc k) flags) xs) (x ∷ unflagged (drop (suc k) flags) xs)
unflagged_from [] k x xs = ap (λ f. unflagged f (x ∷ xs)) (drop_all k [] (omega arith)) ∙ ap (λ z. x ∷ z) (sym (no_flags xs)) ∙ ap (λ f. x ∷ unflagged f xs) (sym (drop_all (suc k) [] (omega arith)))
unflagged_from (true ∷ flags) zero x xs = refl
unflagged_from (false ∷ flags) zero x xs = refl
unflagged_from (f ∷ flags) (suc k) x xs = unflagged_from flags k x xs

-- The next item stays if its flag is not set.
pub unflagged_at : {X : Type 0} (flags : List Bool) (k : ℕ) (x : X) (xs : List X) → unflagged (drop k flags) (x ∷ xs) ≡ cond (is_removed flags k) (unflagged (drop (k + 1) flags) xs) (x ∷ unflagged (drop (k + 1) flags) xs)
unflagged_at flags k x xs =
    let next : suc k ≡ k + 1 = omega arith in
    subst (λ n. unflagged (drop k flags) (x ∷ xs) ≡ cond (is_removed flags k) (unflagged (drop n flags) xs) (x ∷ unflagged (drop n flags) xs)) next (unflagged_from flags k x xs)

-- A view of the items commutes.
pub unflagged_view : {X Y : Type 0} (view : X → Y) (flags : List Bool) (xs : List X) → map view (unflagged flags xs) ≡ unflagged flags (map view xs)
unflagged_view view flags [] = refl
unflagged_view view [] (x ∷ xs) = refl
unflagged_view view (true ∷ flags) (x ∷ xs) = unflagged_view view flags xs
unflagged_view view (false ∷ flags) (x ∷ xs) = ap (λ z. view x ∷ z) (unflagged_view view flags xs)

-- The first `w` items are those that stay of the first `r` ones, and the others are as they were.
pub record HasKept {X : Type 0} (flags : List Bool) (old now : List X) (r w : ℕ) : Type 0 where
  pub within : w ≤ r
  pub same : length now ≡ length old
  pub split : take w now ++ unflagged (drop r flags) (drop r now) ≡ unflagged flags old

pub kept_start : {X : Type 0} (flags : List Bool) (old : List X) → HasKept flags old old 0 0
kept_start flags old = record { within = omega arith; same = refl; split = refl }

-- The item at `r`, and what stays from there on.
next_of : {X : Type 0} (flags : List Bool) (now : List X) (r : ℕ) (d : X) → r < length now → unflagged (drop r flags) (drop r now) ≡ cond (is_removed flags r) (unflagged (drop (r + 1) flags) (drop (r + 1) now)) (slice_index_or now r d ∷ unflagged (drop (r + 1) flags) (drop (r + 1) now))
next_of flags now r d l = ap (unflagged (drop r flags)) (drop_more now r d l) ∙ unflagged_at flags r (slice_index_or now r d) (drop (r + 1) now)

-- An item whose flag is set is passed over.
pub kept_skip : {X : Type 0} (flags : List Bool) (old now : List X) (r w : ℕ) → HasKept flags old now r w → r < length now → is_removed flags r ≡ true → HasKept flags old now (r + 1) w
kept_skip flags old [] r w h l f = absurd (omega (arith, l))
kept_skip flags old (d ∷ ys) r w h l f =
    let now = d ∷ ys in
    let next = next_of flags now r d l ∙ ap (λ b. cond b (unflagged (drop (r + 1) flags) (drop (r + 1) now)) (slice_index_or now r d ∷ unflagged (drop (r + 1) flags) (drop (r + 1) now))) f in
    record { within = omega (arith, h.within); same = h.same; split = ap (λ z. take w now ++ z) (sym next) ∙ h.split }

order : (w r : ℕ) → w ≤ r → (w < r) ⊎ (w ≡ r)
order zero zero le = inr refl
order zero (suc r) le = inl (omega arith)
order (suc w) zero le = absurd (omega (arith, le))
order (suc w) (suc r) le = go (order w r (omega (arith, le)))
  where
    go : (w < r) ⊎ (w ≡ r) → (suc w < suc r) ⊎ (suc w ≡ suc r)
    go (inl l) = inl (omega (arith, l))
    go (inr e) = inr (ap suc e)

take_swapped : {X : Type 0} (now : List X) (w r : ℕ) (d : X) → w ≤ r → r < length now → (w < r) ⊎ (w ≡ r) → take (w + 1) (slice_set (slice_set now w (slice_index_or now r d)) r (slice_index_or now w d)) ≡ take w now ++ slice_index_or now r d ∷ []
take_swapped now w r d le lt (inl below) = take-set-le (w + 1) (slice_set now w (slice_index_or now r d)) r (slice_index_or now w d) (omega (arith, below)) ∙ take_more_set now w (slice_index_or now r d) (omega (arith, le, lt))
take_swapped now w r d le lt (inr e) =
    let x = slice_index_or now r d in
    let y = slice_index_or now w d in
    let set = slice_set now w x in
    let more : take (w + 1) (slice_set set w y) ≡ take w set ++ y ∷ [] = take_more_set set w y (omega (arith, length-set now w x, le, lt)) in
    let same : take w set ++ y ∷ [] ≡ take w now ++ x ∷ [] = ap₂ (λ a b. a ++ b ∷ []) (take-set-le w now w x (omega arith)) (ap (λ k. slice_index_or now k d) e) in
    ap (λ k. take (w + 1) (slice_set set k y)) (sym e) ∙ more ∙ same

-- Another item is swapped to the place behind those that stay.
swapped : {X : Type 0} (now new : List X) (w r : ℕ) (d : X) → w ≤ r → r < length now → new ≡ slice_set (slice_set now w (slice_index_or now r d)) r (slice_index_or now w d) → (take (w + 1) new ≡ take w now ++ slice_index_or now r d ∷ []) × (drop (r + 1) new ≡ drop (r + 1) now) × (length new ≡ length now)
swapped now new w r d le lt at =
    let x = slice_index_or now r d in
    let y = slice_index_or now w d in
    let set = slice_set now w x in
    let behind : drop (r + 1) (slice_set set r y) ≡ drop (r + 1) now = drop-set-lt (r + 1) set r y (omega arith) ∙ drop-set-lt (r + 1) now w x (omega (arith, le)) in
    (ap (take (w + 1)) at ∙ take_swapped now w r d le lt (order w r le), ap (drop (r + 1)) at ∙ behind, ap length at ∙ length-set set r y ∙ length-set now w x)

pub kept_more : {X : Type 0} (flags : List Bool) (old now new : List X) (r w : ℕ) → HasKept flags old now r w → r < length now → is_removed flags r ≡ false → SwappedAt now new w r → HasKept flags old new (r + 1) (w + 1)
kept_more flags old [] new r w h l f at = absurd (omega (arith, l))
kept_more flags old (d ∷ ys) new r w h l f at =
    let now = d ∷ ys in
    let x = slice_index_or now r d in
    let s = swapped now new w r d h.within l (at.3 d) in
    let rest = unflagged (drop (r + 1) flags) (drop (r + 1) now) in
    let next : unflagged (drop r flags) (drop r now) ≡ x ∷ rest = next_of flags now r d l ∙ ap (λ b. cond b rest (x ∷ rest)) f in
    record {
      within = omega (arith, h.within);
      same = s.2 ∙ h.same;
      split = ap₂ (λ y z. y ++ unflagged (drop (r + 1) flags) z) s.0 s.1 ∙ append_assoc (take w now) (x ∷ []) rest ∙ ap (λ z. take w now ++ z) (sym next) ∙ h.split;
    }

pub kept_done : {X : Type 0} (flags : List Bool) (old now : List X) (r w : ℕ) → HasKept flags old now r w → length old ≤ r → take w now ≡ unflagged flags old
kept_done flags old now r w h l =
    let none : drop r now ≡ [] = drop_all r now (omega (arith, l, h.same)) in
    sym (append-nil (take w now)) ∙ ap (λ z. take w now ++ unflagged (drop r flags) z) (sym none) ∙ h.split

-- What holds below `k` and of `k` holds below the next number.
pub below_more : (P : ℕ → Type 0) (k : ℕ) → ((n : ℕ) → n < k → P n) → P k → (n : ℕ) → n < k + 1 → P n
below_more P k below at n l = go (order n k (omega (arith, l)))
  where
    go : (n < k) ⊎ (n ≡ k) → P n
    go (inl lt) = below n lt
    go (inr e) = subst P (sym e) at

-- ---- new indices

-- The table has the entries up to `k`, and the next index.
pub numbered_more : (flags : List Bool) (k next : ℕ) (d : Bool) → k < length flags → numbered next (drop k flags) ≡ cond (slice_index_or flags k d) (None ∷ numbered next (drop (k + 1) flags)) (Some next ∷ numbered (next + 1) (drop (k + 1) flags))
numbered_more flags k next d l = ap (numbered next) (drop_more flags k d l) ∙ go (slice_index_or flags k d)
  where
    go : (b : Bool) → numbered next (b ∷ drop (k + 1) flags) ≡ cond b (None ∷ numbered next (drop (k + 1) flags)) (Some next ∷ numbered (next + 1) (drop (k + 1) flags))
    go true = refl
    go false = refl

-- The next function is removed.
pub numbered_none : (flags : List Bool) (old : List (Option ℕ)) (k next : ℕ) (d : Bool) → k < length flags → slice_index_or flags k d ≡ true → old ++ numbered next (drop k flags) ≡ numbered 0 flags → (old ++ None ∷ []) ++ numbered next (drop (k + 1) flags) ≡ numbered 0 flags
numbered_none flags old k next d l f h =
    let rest = numbered next (drop (k + 1) flags) in
    let here : numbered next (drop k flags) ≡ None ∷ rest = numbered_more flags k next d l ∙ ap (λ b. cond b (None ∷ rest) (Some next ∷ numbered (next + 1) (drop (k + 1) flags))) f in
    append_assoc old (None ∷ []) rest ∙ ap (λ z. old ++ z) (sym here) ∙ h

-- The next function stays.
pub numbered_some : (flags : List Bool) (old : List (Option ℕ)) (k next : ℕ) (d : Bool) → k < length flags → slice_index_or flags k d ≡ false → old ++ numbered next (drop k flags) ≡ numbered 0 flags → (old ++ Some next ∷ []) ++ numbered (next + 1) (drop (k + 1) flags) ≡ numbered 0 flags
numbered_some flags old k next d l f h =
    let rest = numbered (next + 1) (drop (k + 1) flags) in
    let here : numbered next (drop k flags) ≡ Some next ∷ rest = numbered_more flags k next d l ∙ ap (λ b. cond b (None ∷ numbered next (drop (k + 1) flags)) (Some next ∷ rest)) f in
    append_assoc old (Some next ∷ []) rest ∙ ap (λ z. old ++ z) (sym here) ∙ h

-- All functions are numbered.
pub numbered_done : (flags : List Bool) (old : List (Option ℕ)) (k next : ℕ) → length flags ≤ k → old ++ numbered next (drop k flags) ≡ numbered 0 flags → old ≡ numbered 0 flags
numbered_done flags old k next l h = sym (append-nil old) ∙ ap (λ z. old ++ numbered next z) (sym (drop_all k flags l)) ∙ h

-- Such a mapping is one that the table follows.
pub renumbers_follows : (removed : List Bool) (m : Mapping) → Renumbers removed m → Follows (by_table (numbered 0 removed)) (IsUse (numbered 0 removed)) m
renumbers_follows removed m h space n accepted = h space n (λ none. accepted _ (record { none = none; is = refl }))

-- The change of a section by a table, of which `defined` has the flags of the defined functions.
abbrev by_flags : List Bool → List (Option ℕ) → List Bool → Section → List ℕ → Type 0
by_flags removed table defined s payload = (m : Mapping) → Follows (by_table table) (IsUse table) m → IsTrimmed removed defined m s payload

-- Why it fails.
abbrev why_by_flags : List Bool → List (Option ℕ) → List Bool → Section → RemapError RemoveError → Type 0
why_by_flags removed table defined = ExplainsContent (λ x. remapped (by_table table) (trimmed removed defined x)) (IsUse table)

-- Why a module is not changed by the table and the flags of a removal.
pub removal_explained : (removed : List Bool) (offsets : Offsets) (bytes : List ℕ) (imported : ℕ) {table : List (Option ℕ)} {defined : List Bool} → table ≡ numbered 0 removed → defined ≡ drop imported removed → (e : RemapError RemoveError) → ExplainsModule (ExplainsChange (by_flags removed table defined) (why_by_flags removed table defined)) offsets bytes e
    → ExplainsModule (ExplainsChange (IsTrimmedBy removed (drop imported removed)) (ExplainsTrimmed removed (drop imported removed))) offsets bytes e
removal_explained removed offsets bytes imported {table = table} {defined = defined} t d e h =
    let same = subst (λ ts. ExplainsModule (ExplainsChange (by_flags removed ts defined) (why_by_flags removed ts defined)) offsets bytes e) t h in
    let own = subst (λ ds. ExplainsModule (ExplainsChange (by_flags removed (numbered 0 removed) ds) (why_by_flags removed (numbered 0 removed) ds)) offsets bytes e) d same in
    explains_each (ExplainsTrimmed removed (drop imported removed)) offsets bytes (λ s payload k m numbers. k m (renumbers_follows removed m numbers)) e own

-- ---- names

-- A view of the second part of a pair.
abbrev pub on_second : {X Y : Type 0} → (X → Y) → ℕ × X → ℕ × Y
on_second g p = (p.0, g p.1)

one_view : {X Y : Type 0} (g : X → Y) (b : Bool) (p : ℕ × X) (ps : List (ℕ × X)) → map (on_second g) (cond b (p ∷ ps) ps) ≡ cond b (on_second g p ∷ map (on_second g) ps) (map (on_second g) ps)
one_view g true p ps = refl
one_view g false p ps = refl

filter_view : {X Y : Type 0} (g : X → Y) (removed : List Bool) (ps : List (ℕ × X)) → map (on_second g) (filter (stays removed) ps) ≡ filter (stays removed) (map (on_second g) ps)
filter_view g removed [] = refl
filter_view g removed (p ∷ ps) = one_view g (stays removed p) p (filter (stays removed) ps) ∙ ap (λ z. cond (stays removed p) (on_second g p ∷ z) z) (filter_view g removed ps)

-- A view of the second parts commutes.
pub staying_view : {X Y : Type 0} (g : X → Y) (removed : List Bool) (space : Option IndexSpace) (ps : List (ℕ × X)) → map (on_second g) (staying removed space ps) ≡ staying removed space (map (on_second g) ps)
staying_view g removed None ps = refl
staying_view {X} {Y} g removed (Some space) ps = go (is_same space spaces.Functions)
  where
    go : (b : Bool) → map (on_second g) (cond b (filter (stays removed) ps) ps) ≡ cond b (filter (stays removed) (map (on_second g) ps)) (map (on_second g) ps)
    go true = filter_view g removed ps
    go false = refl

-- ---- encodings

-- Some of the items, in the same order.
abbrev pub ArePart : {X : Type 0} → List X → List X → Type 0
ArePart ys [] = ys ≡ []
ArePart {X} ys (x ∷ xs) = ArePart ys xs ⊎ ((zs : List X) × (ys ≡ x ∷ zs) × ArePart zs xs)

all_part : {X : Type 0} (xs : List X) → ArePart xs xs
all_part [] = refl
all_part (x ∷ xs) = inr (xs, refl, all_part xs)

unflagged_part : {X : Type 0} (flags : List Bool) (xs : List X) → ArePart (unflagged flags xs) xs
unflagged_part flags [] = refl
unflagged_part [] (x ∷ xs) = inr (xs, refl, all_part xs)
unflagged_part (true ∷ flags) (x ∷ xs) = inl (unflagged_part flags xs)
unflagged_part (false ∷ flags) (x ∷ xs) = inr (unflagged flags xs, refl, unflagged_part flags xs)

filter_part : {X : Type 0} (test : X → Bool) (xs : List X) → ArePart (filter test xs) xs
filter_part test [] = refl
filter_part {X} test (x ∷ xs) = go (filter_part test xs) (test x)
  where
    go : ArePart (filter test xs) xs → (b : Bool) → ArePart (cond b (x ∷ filter test xs) (filter test xs)) (x ∷ xs)
    go rest true = inr (filter test xs, refl, rest)
    go rest false = inl rest

staying_part : {X : Type 0} (removed : List Bool) (space : Option IndexSpace) (ps : List (ℕ × X)) → ArePart (staying removed space ps) ps
staying_part removed None ps = all_part ps
staying_part {X} removed (Some space) ps = go (is_same space spaces.Functions)
  where
    go : (b : Bool) → ArePart (cond b (filter (stays removed) ps) ps) ps
    go true = filter_part (stays removed) ps
    go false = all_part ps

part_length : {X : Type 0} (ys xs : List X) → ArePart ys xs → length ys ≤ length xs
part_length ys [] e = omega (arith, ap length e)
part_length ys (x ∷ xs) (inl h) = omega (arith, part_length ys xs h)
part_length ys (x ∷ xs) (inr h) = omega (arith, ap length h.1, part_length h.0 xs h.2)

module _ {X : Type 0} {f : X → X} {F : Format X} (k : Maps f F) where
  part_members : (s : List ℕ) (xs ys : List X) → ArePart ys xs → length s < 2 ^ 26 → members F standard_minimal s xs → MappedForm (members F) (length s) (map f ys)
  part_members s [] ys e l h = ([], subst (λ z. members F standard_minimal [] (map f z)) (sym e) refl, omega arith)
  part_members s (x ∷ xs) ys (inl p) l h =
      let size : length s ≡ length h.0 + length h.1 = ap length h.2 ∙ length-append h.0 h.1 in
      let b = part_members h.1 xs ys p (omega (arith, l, size)) h.4 in
      (b.0, b.1, omega (arith, b.2, size))
  part_members s (x ∷ xs) ys (inr p) l h =
      let size : length s ≡ length h.0 + length h.1 = ap length h.2 ∙ length-append h.0 h.1 in
      let a = k.form h.0 x (omega (arith, l, size)) h.3 in
      let b = part_members h.1 xs p.0 p.2 (omega (arith, l, size)) h.4 in
      (a.0 ++ b.0, subst (λ z. members F standard_minimal (a.0 ++ b.0) (map f z)) (sym p.1) (a.0, b.0, refl, a.1, b.1), omega (arith, a.2, b.2, length-append a.0 b.0, size))

  -- A part of a list of members has an encoding after the map.
  part_maps : (pick : List X → List X) → ((xs : List X) → ArePart (pick xs) xs) → Maps (λ xs. map f (pick xs)) (vec F)
  part_maps pick part = record {
    form = λ s xs l h.
        let size : length s ≡ length h.front + length h.back = ap length h.joined ∙ length-append h.front h.back in
        let a = part_members h.back xs (pick xs) (part xs) (omega (arith, l, size)) h.second in
        let n = length (map f (pick xs)) in
        let small : n < 2 ^ 32 = omega (arith, length-map (pick xs) f, part_length (pick xs) xs (part xs), h.first.range) in
        (unsigned_encoding n ++ a.0, record { front = unsigned_encoding n; back = a.0; joined = refl; first = u32_encoded n small; second = a.1 }, omega (arith, length-append (unsigned_encoding n) a.0, number_length n small, some_groups h.front h.first.groups, a.2, size));
  }

same_maps : {X : Type 0} {f g : X → X} {F : Format X} → ((x : X) → f x ≡ g x) → Maps f F → Maps g F
same_maps {F = F} e k = record { form = λ s x l h. let a = k.form s x l h in (a.0, subst (λ y. F standard_minimal a.0 y) (e x) a.1, a.2) }

twice : {X : Type 0} (f g : X → X) (xs : List X) → map (λ x. f (g x)) xs ≡ map f (map g xs)
twice f g [] = refl
twice f g (x ∷ xs) = ap (λ z. f (g x) ∷ z) (twice f g xs)

-- Whether the removal changes content of this kind.
abbrev is_trimmed : SectionKind → Bool
is_trimmed kinds.Functions = true
is_trimmed kinds.Bodies = true
is_trimmed kinds.Names = true
is_trimmed kind = false

-- Other content stays.
content_stays : (removed defined : List Bool) (x : Contents) → is_trimmed (kind_in x) ≡ false → trimmed removed defined x ≡ x
content_stays removed defined (Functions xs) e = absurd (false≢true (sym e))
content_stays removed defined (Bodies xs) e = absurd (false≢true (sym e))
content_stays removed defined (Names xs) e = absurd (false≢true (sym e))
content_stays removed defined x e = refl

module _ (m : Mapping) (small : IsSmall m) (removed defined : List Bool) where
  trimmed_id_maps : (kind : NameKind) (id : ℕ) → Maps (λ x. remapped_name m (trimmed_name removed x)) (after_id kind id)
  trimmed_id_maps of_module id = mapped_maps Module (λ n. n) (λ n. refl) kept
  trimmed_id_maps of_map id = let space = space_among name_spaces id in mapped_maps (Map id) (λ ns. map (mapped_first m space) (staying removed space ns)) (λ ns. refl) (size_prefixed_maps (part_maps (first_maps m small space) (staying removed space) (staying_part removed space)))
  trimmed_id_maps of_indirect id = let space = space_among name_spaces id in mapped_maps (Indirect id) (λ ns. map (mapped_first m space) (staying removed space ns)) (λ ns. refl) (size_prefixed_maps (part_maps (first_maps m small space) (staying removed space) (staying_part removed space)))
  trimmed_id_maps of_other id = mapped_maps (Other id) (λ bytes. bytes) (λ bytes. refl) kept

  trimmed_names_maps : Maps (λ xs. map (remapped_name m) (map (trimmed_name removed) xs)) name_payload
  trimmed_names_maps = same_maps (twice (remapped_name m) (trimmed_name removed)) (tagged_maps (λ u. tagged_maps (λ v. members_maps (tagged_maps (λ id. trimmed_id_maps (name_kind_of id) id)))))

  stay_maps : (kind : SectionKind) → is_trimmed kind ≡ false → Maps (λ x. remapped m (trimmed removed defined x)) (content kind)
  stay_maps kind e = record {
    form = λ s x l h.
        let a = (content_maps m small kind).form s x l h in
        let same : trimmed removed defined x ≡ x = content_stays removed defined x (ap is_trimmed (kind_is standard_minimal kind s x h) ∙ e) in
        (a.0, subst (λ y. content kind standard_minimal a.0 (remapped m y)) (sym same) a.1, a.2);
  }

  pub trimmed_maps : (kind : SectionKind) → Maps (λ x. remapped m (trimmed removed defined x)) (content kind)
  trimmed_maps kinds.Functions = mapped_maps Functions (λ xs. map (m spaces.Types) (unflagged defined xs)) (λ x. refl) (part_maps (index_maps m small spaces.Types) (unflagged defined) (unflagged_part defined))
  trimmed_maps kinds.Bodies = mapped_maps Bodies (λ xs. map (remapped_body m) (unflagged defined xs)) (λ x. refl) (part_maps (size_prefixed_maps (body_maps m small)) (unflagged defined) (unflagged_part defined))
  trimmed_maps kinds.Names = mapped_maps Names (λ xs. map (remapped_name m) (map (trimmed_name removed) xs)) (λ x. refl) trimmed_names_maps
  trimmed_maps kind = stay_maps kind refl

pub section_trimmed : (removed defined : List Bool) (m : Mapping) (s : Section) (x y z : Contents) (payload : List ℕ) → content (section_kind_of s) standard s.payload x → y ≡ trimmed removed defined x → z ≡ remapped m y → AppendsContentIn admitted z [] payload → IsTrimmed removed defined m s payload
section_trimmed removed defined m s x y z payload h e g a = record {
  items = x;
  decoded = h;
  appended = subst (λ w. AppendsContentIn admitted w [] payload) (g ∙ ap (remapped m) e) a;
  has = λ small l. changed_content (λ w. remapped m (trimmed removed defined w)) (section_kind_of s) s.payload x (trimmed_maps m small removed defined (section_kind_of s)) l h;
}
