-- This file proves that what stays of a module does not refer to a removed function.
use Rattle.wasm_base.proofs.Words.{◌≡◌, ◌≢◌, ◌⊎◌, ℕ, zero, suc, ◌+◌, ◌^◌, ◌<◌, ◌≤◌, List, [], ◌∷◌, ◌++◌, length, map, drop, get_or, Bool, true, false, cond, ◌&&◌, Option, Some, None, inl, inr, refl, sym, ap, subst, ◌∙◌, arith, standard, standard_minimal, minimal}
use Rattle.std.specs.List.{AllByRecursion}
use Rattle.std.proofs.lemmas.Bool.{false≢true}
use Rattle.wasm_base.specs.Numbers.{admitted}
use Rattle.wasm_reader.specs.Kinds.{Contents, Exports, content, kind_in}
use Rattle.wasm_reader.specs.Outlines.{HasSections, IsSection}
use Rattle.wasm_reader.specs.Shortening.{contains_offsets}
use Rattle.wasm_reader.specs.Words.{Section, section_kind_of}
use Rattle.wasm_reader.specs.declared.whole.Offsets.{Offsets}
use Rattle.wasm_reader.proofs.KindLaws.{content_whole, kind_is}
use Rattle.wasm_sections.specs.Words.{ExportItem}
use Rattle.wasm_sections.specs.declared.export.ExportKind.TheVariants as exports
use Rattle.wasm_remap.specs.Errors.{HasSection}
use Rattle.wasm_remap.specs.Items.{remapped_export, space_of_export}
use Rattle.wasm_remap.specs.Mapping.{IsSmall, Mapping}
use Rattle.wasm_remap.specs.Removed.{HasNone, IsTrimmed, RemovesFunctions, Renumbers, by_table, is_removed, numbered, or_zero, trimmed}
use Rattle.wasm_remap.specs.Sections.{AreChanged, ChangesModule, remapped}
use Rattle.wasm_remap.specs.Shifted.{is_same}
use Rattle.wasm_remap.specs.declared.spaces.IndexSpace.{IndexSpace}
use Rattle.wasm_remap.specs.declared.spaces.IndexSpace.TheVariants as spaces
use Rattle.wasm_remap.proofs.MappableLaws.{one_list, section_is_listed}
use Rattle.wasm_remap.proofs.RemovedLaws.{trimmed_maps}

-- ---- two changes of one module

-- The payload of a section has both properties.
abbrev HasBoth : (R Q : Section → List ℕ → Type 0) → Section → Type 0
HasBoth R Q s = contains_offsets s.name ≡ false → (payload : List ℕ) × R s payload × Q s payload

both_changed : (R Q : Section → List ℕ → Type 0) (olds : List Section) (news : List (ℕ × List ℕ)) → AreChanged R olds news → AreChanged Q olds news → AllByRecursion (HasBoth R Q) olds
both_changed R Q [] news h g = tt
both_changed R Q (o ∷ olds) news (inl h) (inl g) = (λ e. absurd (false≢true (sym e ∙ h.0)), both_changed R Q olds news h.1 g.1)
both_changed R Q (o ∷ olds) news (inl h) (inr g) = absurd (false≢true (sym g.2 ∙ h.0))
both_changed R Q (o ∷ olds) news (inr h) (inl g) = absurd (false≢true (sym h.2 ∙ g.0))
both_changed R Q (o ∷ olds) news (inr h) (inr g) =
    let same : (o.id, g.0) ∷ g.1 ≡ (o.id, h.0) ∷ h.1 = sym g.3 ∙ h.3 in
    let pair : ◌≡◌ {A = ℕ × List ℕ} (o.id, g.0) (o.id, h.0) = cc same in
    let payload : g.0 ≡ h.0 = ap (λ p. p.1) pair in
    let others : g.1 ≡ h.1 = cc same in
    (λ e. (h.0, h.4, subst (Q o) payload g.4), both_changed R Q olds h.1 h.5 (subst (AreChanged Q olds) others g.5))

pub both_change : (R Q : Section → List ℕ → Type 0) (offsets : Offsets) (bytes new : List ℕ) (s : Section) → ChangesModule R offsets bytes new → ChangesModule Q offsets bytes new → HasSection bytes s → HasBoth R Q s
both_change R Q offsets bytes new s h g has =
    let olds = one_list bytes g.olds h.olds g.has h.has in
    let news : g.news ≡ h.news = h.decodes.unique minimal g.news g.decodes.encodes in
    section_is_listed (HasBoth R Q) bytes h.olds s h.has has (both_changed R Q h.olds h.news h.are (subst (λ n. AreChanged Q h.olds n) news (subst (λ o. AreChanged Q o g.news) olds g.are)))

-- ---- sections without removed functions

-- The items that an `IsTrimmed` writes, of a section of fewer than 2^26 bytes.
trimmed_written : (removed defined : List Bool) (m : Mapping) (s : Section) (payload : List ℕ) (x : Contents) → IsSmall m → length s.payload < 2 ^ 26 → content (section_kind_of s) standard s.payload x → IsTrimmed removed defined m s payload → content (section_kind_of s) standard_minimal payload (remapped m (trimmed removed defined x))
trimmed_written removed defined m s payload x small short d t =
    let kind = section_kind_of s in
    let whole = content_whole kind in
    let items : t.items ≡ x = whole.whole standard s.payload t.items x t.decoded d in
    let y = remapped m (trimmed removed defined t.items) in
    let least = whole.encodings.shorter admitted s.payload t.items t.decoded in
    let a = (trimmed_maps m small removed defined kind).form least.0 t.items (omega (arith, short, least.2)) least.1 in
    let same = kind_is standard_minimal kind a.0 y a.1 in
    let written = subst (λ k. content k standard_minimal t.appended.encoding y) same (t.appended.encodes (t.has small short)) in
    subst (λ z. content kind standard_minimal payload (remapped m (trimmed removed defined z))) items (subst (λ b. content kind standard_minimal b y) (sym t.appended.appended) written)

-- What stays of a section is the same by two mappings that number the functions that stay.
pub stays_unaffected : (removed : List Bool) (offsets : Offsets) (bytes new : List ℕ) (h : RemovesFunctions removed offsets bytes new) (m n : Mapping) → Renumbers removed m → Renumbers removed n → IsSmall m → IsSmall n → (s : Section) (x : Contents) → HasSection bytes s → contains_offsets s.name ≡ false → length s.payload < 2 ^ 26 → content (section_kind_of s) standard s.payload x → remapped m (trimmed removed (drop h.imported removed) x) ≡ remapped n (trimmed removed (drop h.imported removed) x)
stays_unaffected removed offsets bytes new h m n of_m of_n small_m small_n s x has none short d =
    let defined = drop h.imported removed in
    let both = both_change (IsTrimmed removed defined m) (IsTrimmed removed defined n) offsets bytes new s (h.changes m of_m) (h.changes n of_n) has none in
    (content_whole (section_kind_of s)).whole standard_minimal both.0 _ _ (trimmed_written removed defined m s both.0 x small_m short d both.1) (trimmed_written removed defined n s both.0 x small_n short d both.2)

-- ---- one removed function

abbrev has_no : Option ℕ → Bool
has_no None = true
has_no (Some n) = false

-- Whether the table has no index for this function.
abbrev lacks_index : List (Option ℕ) → IndexSpace → ℕ → Bool
lacks_index table space n = is_same space spaces.Functions && has_no (get_or table n None)

-- The mapping by the table, with this index for all functions that it lacks.
abbrev with_index : List Bool → ℕ → Mapping
with_index removed k space n = cond (lacks_index (numbered 0 removed) space n) k (by_table (numbered 0 removed) space n)

with_renumbers : (removed : List Bool) (k : ℕ) → Renumbers removed (with_index removed k)
with_renumbers removed k space n accepted = ap (λ b. cond b k (by_table (numbered 0 removed) space n)) (go (is_same space spaces.Functions) (get_or (numbered 0 removed) n None) (λ a b. accepted (a, b)))
  where
    go : (b : Bool) (o : Option ℕ) → (b ≡ true → o ≡ None → ⊥) → (b && has_no o) ≡ false
    go false o h = refl
    go true None h = absurd (h refl refl)
    go true (Some n) h = refl

-- No new index is above the old one.
numbered_below : (flags : List Bool) (next n : ℕ) → or_zero (get_or (numbered next flags) n None) ≤ next + n
numbered_below [] next n = omega arith
numbered_below (true ∷ flags) next zero = omega arith
numbered_below (true ∷ flags) next (suc n) = let h = numbered_below flags next n in omega (arith, h)
numbered_below (false ∷ flags) next zero = omega arith
numbered_below (false ∷ flags) next (suc n) = let h = numbered_below flags (next + 1) n in omega (arith, h)

with_small : (removed : List Bool) (k : ℕ) → k < 2 ^ 32 → IsSmall (with_index removed k)
with_small removed k small space n lt = go (lacks_index (numbered 0 removed) space n) (is_same space spaces.Functions)
  where
    go : (b c : Bool) → cond b k (cond c (or_zero (get_or (numbered 0 removed) n None)) n) < 2 ^ 32
    go true c = small
    go false true = let h = numbered_below removed 0 n in omega (arith, h, lt)
    go false false = lt

-- The table has no index for a removed function.
numbered_removed : (flags : List Bool) (next n : ℕ) → is_removed flags n ≡ true → get_or (numbered next flags) n None ≡ None
numbered_removed [] next n e = refl
numbered_removed (true ∷ flags) next zero e = refl
numbered_removed (true ∷ flags) next (suc n) e = numbered_removed flags next n e
numbered_removed (false ∷ flags) next zero e = absurd (false≢true e)
numbered_removed (false ∷ flags) next (suc n) e = numbered_removed flags (next + 1) n e

-- If the two mappings have the same index for a function, it stays.
stays_by_two : (removed : List Bool) (n : ℕ) → with_index removed 0 spaces.Functions n ≡ with_index removed 1 spaces.Functions n → is_removed removed n ≡ false
stays_by_two removed n same = go (is_removed removed n) refl
  where
    go : (b : Bool) → is_removed removed n ≡ b → b ≡ false
    go false e = refl
    go true e =
        let lacks : lacks_index (numbered 0 removed) spaces.Functions n ≡ true = ap has_no (numbered_removed removed 0 n e) in
        let t = by_table (numbered 0 removed) spaces.Functions n in
        absurd (omega (arith, sym (ap (λ b. cond b 0 t) lacks) ∙ same ∙ ap (λ b. cond b 1 t) lacks))

-- Each exported function stays.
pub exports_stay : (removed : List Bool) (offsets : Offsets) (bytes new : List ℕ) → RemovesFunctions removed offsets bytes new → (s : Section) (xs : List ExportItem) → HasSection bytes s → contains_offsets s.name ≡ false → length s.payload < 2 ^ 26 → content (section_kind_of s) standard s.payload (Exports xs) → AllByRecursion (λ e. e.kind ≡ exports.Func → is_removed removed e.index ≡ false) xs
exports_stay removed offsets bytes new h s xs has none short d =
    go xs (same (stays_unaffected removed offsets bytes new h (with_index removed 0) (with_index removed 1) (with_renumbers removed 0) (with_renumbers removed 1) (with_small removed 0 (omega arith)) (with_small removed 1 (omega arith)) s (Exports xs) has none short d))
  where
    same : {a b : List ExportItem} → Exports a ≡ Exports b → a ≡ b
    same e = cc e

    go : (ys : List ExportItem) → map (remapped_export (with_index removed 0)) ys ≡ map (remapped_export (with_index removed 1)) ys → AllByRecursion (λ e. e.kind ≡ exports.Func → is_removed removed e.index ≡ false) ys
    go [] e = tt
    go (y ∷ ys) e = (λ func. stays_by_two removed y.index (subst (λ k. with_index removed 0 (space_of_export k) y.index ≡ with_index removed 1 (space_of_export k) y.index) func (first e)), go ys (rest e))
      where
        first : map (remapped_export (with_index removed 0)) (y ∷ ys) ≡ map (remapped_export (with_index removed 1)) (y ∷ ys) → with_index removed 0 (space_of_export y.kind) y.index ≡ with_index removed 1 (space_of_export y.kind) y.index
        first e = ap (λ x. x.index) (head e)
          where
            head : {x y : ExportItem} {xs ys : List ExportItem} → x ∷ xs ≡ y ∷ ys → x ≡ y
            head e = cc e

        rest : map (remapped_export (with_index removed 0)) (y ∷ ys) ≡ map (remapped_export (with_index removed 1)) (y ∷ ys) → map (remapped_export (with_index removed 0)) ys ≡ map (remapped_export (with_index removed 1)) ys
        rest e = cc e
