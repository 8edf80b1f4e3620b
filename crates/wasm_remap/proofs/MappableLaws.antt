-- This file proves when the sections of a module can be mapped.
use Rattle.wasm_base.proofs.Words.{◌≡◌, ◌≢◌, ◌⊎◌, ℕ, ◌^◌, ◌<◌, List, [], ◌∷◌, ◌++◌, length, flat_map, header, Bool, true, false, Option, Some, None, map, inl, inr, refl, sym, ap, ap₂, subst, ◌∙◌, arith, append_assoc, append-nil, padded, standard, standard_minimal, any_section, wasm_module, RejectsWhole, decodes_same, name_unambiguous}
use Rattle.std.specs.List.{AllByRecursion}
use Rattle.std.proofs.lemmas.Bool.{false≢true}
use Rattle.wasm_base.proofs.ModuleLaws.{section_unambiguous}
use Rattle.wasm_base.specs.Numbers.{admitted}
use Rattle.wasm_base.specs.declared.refused.Refused.TheVariants as refusals
use Rattle.wasm_reader.specs.Kinds.{Contents, content, kind_in}
use Rattle.wasm_reader.specs.Outlines.{HasSections, IsNameOf, IsSection, bytes_of}
use Rattle.wasm_reader.specs.Sections.{HasContentIn}
use Rattle.wasm_reader.specs.Shortening.{contains_offsets}
use Rattle.wasm_reader.specs.Words.{Section, section_kind_of}
use Rattle.wasm_reader.specs.declared.kinds.SectionKind.{SectionKind}
use Rattle.wasm_reader.specs.declared.whole.Offsets.{Offsets}
use Rattle.wasm_reader.proofs.DecodeOutlines.{any_of, one_section, sections_encodes}
use Rattle.wasm_reader.proofs.KindLaws.{content_whole, kind_is}
use Rattle.wasm_remap.specs.Errors.{ExplainsChange, ExplainsRemap, ExplainsSection, HasSection, IsMappable, IsReadable}
use Rattle.wasm_remap.specs.Mapping.{IsSmall, Mapping}
use Rattle.wasm_remap.specs.Sections.{IsRemapped, RemapsSection, remapped}
use Rattle.wasm_remap.specs.declared.indexed.RemapError.{RemapError}
use Rattle.wasm_remap.specs.declared.indexed.RemapError.TheVariants as errors
use Rattle.wasm_remap.specs.declared.spaces.IndexSpace.{IndexSpace}
use Rattle.wasm_remap.proofs.MappedSections.{changed_content, content_maps}

-- ---- the sections of a module

-- A payload has one name.
one_name : (id : ℕ) (payload : List ℕ) (a b : Option (List ℕ)) → IsNameOf id payload a → IsNameOf id payload b → a ≡ b
one_name id payload None None h g = refl
one_name id payload (Some n) (Some m) h g = ap Some (decodes_same name_unambiguous h.2 g.2).0
one_name id payload (Some n) None h g = absurd ((g h.0).none n h.1 h.2)
one_name id payload None (Some m) h g = absurd ((h g.0).none m g.1 g.2)

abbrev section_from : ℕ × (List ℕ × (List ℕ × Option (List ℕ))) → Section
section_from p = record { id = p.0; sized = p.1.0; payload = p.1.1.0; name = p.1.1.1 }

-- Bytes begin with one section only.
one_first : (s o : Section) (r q : List ℕ) → IsSection s → IsSection o → bytes_of s ++ r ≡ bytes_of o ++ q → (s ≡ o) × (r ≡ q)
one_first s o r q h g e =
    let same = section_unambiguous.unique padded (bytes_of s) (bytes_of o) r q (any_of s) (any_of o) (one_section s h) (one_section o g) e in
    (one_of s o same.0 same.1 h g, same.2)
  where
    one_of : (s o : Section) → any_of s ≡ any_of o → bytes_of s ≡ bytes_of o → IsSection s → IsSection o → s ≡ o
    one_of s o e b h g =
        let id = ap (λ p. p.0) e in
        let payload = ap (λ p. p.1) e in
        let sized : s.sized ≡ o.sized = cc b in
        let named = one_name o.id o.payload s.name o.name (subst (λ p. IsNameOf p.0 p.1 s.name) e h.named) g.named in
        ap section_from (ap₂ (λ a z. (a, z)) id (ap₂ (λ a z. (a, z)) sized (ap₂ (λ a z. (a, z)) payload named)))

-- A section of the module is one of the list.
pub section_is_listed : (P : Section → Type 0) (bytes : List ℕ) (olds : List Section) (s : Section) → HasSections bytes olds → HasSection bytes s → AllByRecursion P olds → P s
section_is_listed P bytes olds s has h all = go h.before olds h.each has.each all (cancel (sym h.joined ∙ has.joined))
  where
    cancel : {a b : List ℕ} → header ++ a ≡ header ++ b → a ≡ b
    cancel e = cc e

    go : (before olds : List Section) → AllByRecursion IsSection before → AllByRecursion IsSection olds → AllByRecursion P olds → flat_map bytes_of before ++ (bytes_of s ++ h.after) ≡ flat_map bytes_of olds → P s
    go [] [] each are all e = absurd (cc e)
    go [] (o ∷ olds) each are all e = subst P (sym (one_first s o h.after (flat_map bytes_of olds) h.is_section are.0 e).0) all.0
    go (b ∷ before) [] each are all e = absurd (cc e)
    go (b ∷ before) (o ∷ olds) each are all e = go before olds each.1 are.1 all.1 (one_first b o _ (flat_map bytes_of olds) each.0 are.0 (sym (append_assoc (bytes_of b) (flat_map bytes_of before) (bytes_of s ++ h.after)) ∙ e)).1

-- The sections of a module.
pub one_list : (bytes : List ℕ) (olds others : List Section) → HasSections bytes olds → HasSections bytes others → olds ≡ others
one_list bytes olds others h g = go olds others h.each g.each (cancel (sym h.joined ∙ g.joined))
  where
    cancel : {a b : List ℕ} → header ++ a ≡ header ++ b → a ≡ b
    cancel e = cc e

    go : (xs ys : List Section) → AllByRecursion IsSection xs → AllByRecursion IsSection ys → flat_map bytes_of xs ≡ flat_map bytes_of ys → xs ≡ ys
    go [] [] a b e = refl
    go [] (y ∷ ys) a b e = absurd (cc e)
    go (x ∷ xs) [] a b e = absurd (cc e)
    go (x ∷ xs) (y ∷ ys) a b e = let one = one_first x y (flat_map bytes_of xs) (flat_map bytes_of ys) a.0 b.0 e in ap₂ (λ z zs. z ∷ zs) one.0 (go xs ys a.1 b.1 one.1)

-- The bytes decode to a module.
is_module : (bytes : List ℕ) (olds : List Section) → HasSections bytes olds → RejectsWhole wasm_module padded bytes → ⊥
is_module bytes olds has h = h.none (map any_of olds) ((tt, map any_of olds), refl, record { front = header; back = flat_map bytes_of olds; joined = has.joined; first = (refl, refl); second = sections_encodes olds has.each })

-- ---- mapped sections

-- A new payload has fewer than 2^32 bytes.
payload_short : (m : Mapping) → IsSmall m → (s : Section) (payload : List ℕ) → length s.payload < 2 ^ 26 → IsRemapped m s payload → length payload < 2 ^ 32
payload_short m small s payload short r =
    let kind = section_kind_of s in
    let whole = content_whole kind in
    let y = remapped m r.items in
    let least = whole.encodings.shorter admitted s.payload r.items r.decoded in
    let a = (content_maps m small kind).form least.0 r.items (omega (arith, short, least.2)) least.1 in
    let same = kind_is standard_minimal kind a.0 y a.1 in
    let written : content kind standard_minimal r.appended.encoding y = subst (λ k. content k standard_minimal r.appended.encoding y) same (r.appended.encodes (r.has small short)) in
    let one = whole.encodings.one admitted r.appended.encoding a.0 y written a.1 in
    omega (arith, ap length r.appended.appended, ap length one, a.2, least.2, short)

-- The mapped items have an encoding.
has_encoding : (m : Mapping) → IsSmall m → (s : Section) (x : Contents) → length s.payload < 2 ^ 26 → content (section_kind_of s) standard s.payload x → HasContentIn admitted (remapped m x)
has_encoding m small s x short d = changed_content (remapped m) (section_kind_of s) s.payload x (content_maps m small (section_kind_of s)) short d

-- ---- calls

module _ {E : Type 0} (m : Mapping) (rejects : IndexSpace → ℕ → E → Type 0) (small : IsSmall m) (accepts : (space : IndexSpace) (n : ℕ) (e : E) → rejects space n e → ⊥) where
  section_maps : (s : Section) (e : RemapError E) → IsReadable s → ExplainsChange (IsRemapped m) (ExplainsSection m rejects) s e → e ≡ errors.Refused refusals.Memory
  section_maps s (errors.Read fault) r h = absurd (h.none r.items r.decoded)
  section_maps s (errors.Refused refusals.Memory) r h = refl
  section_maps s (errors.Refused refusals.TooLong) r h = absurd (go (h not_memory))
    where
      not_memory : refusals.TooLong ≢ refusals.Memory
      not_memory e = cc e

      go : ExplainsSection m rejects s (errors.Refused refusals.TooLong) ⊎ ((payload : List ℕ) × IsRemapped m s payload × (length payload < 2 ^ 32 → ⊥)) → ⊥
      go (inl w) = let k = w not_memory in k.2 (has_encoding m small s k.0 r.short k.1)
      go (inr k) = k.2 (payload_short m small s k.0 r.short k.1)
  section_maps s (errors.Index e) r h = absurd (accepts h.0 h.1 e h.2)
  section_maps s (errors.Offsets offset) r h = absurd h

  -- A module that can be mapped is mapped, if there is memory.
  pub only_memory : (offsets : Offsets) (bytes : List ℕ) (e : RemapError E) → IsMappable offsets bytes → ExplainsRemap m rejects offsets bytes e → e ≡ errors.Refused refusals.Memory
  only_memory offsets bytes e mappable h = go e h
    where
      readable : (s : Section) → HasSection bytes s → contains_offsets s.name ≡ false → IsReadable s
      readable s has = section_is_listed (λ s. contains_offsets s.name ≡ false → IsReadable s) bytes mappable.sections s mappable.has has mappable.readable

      go : (e : RemapError E) → ExplainsRemap m rejects offsets bytes e → e ≡ errors.Refused refusals.Memory
      go (errors.Read fault) (inl k) = absurd (is_module bytes mappable.sections mappable.has k)
      go (errors.Read fault) (inr k) = section_maps k.0 (errors.Read fault) (readable k.0 k.1 k.2) k.3
      go (errors.Refused refusals.Memory) k = refl
      go (errors.Refused refusals.TooLong) k = let f = k (λ e. cc e) in section_maps f.0 (errors.Refused refusals.TooLong) (readable f.0 f.1 f.2) f.3
      go (errors.Index e) k = section_maps k.0 (errors.Index e) (readable k.0 k.1 k.2) k.3
      go (errors.Offsets offset) k = absurd (false≢true (sym (section_is_listed (λ s. contains_offsets s.name ≡ false) bytes mappable.sections k.1.0 mappable.has k.1.1 (mappable.no_offsets k.0)) ∙ k.1.2))
