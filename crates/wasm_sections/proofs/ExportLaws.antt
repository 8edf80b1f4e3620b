-- This file proves that exports are unambiguous, and how they are decoded and minimized.
use Rattle.wasm_base.proofs.Words.{Mode, ◌≡◌, ℕ, zero, suc, [], ◌∷◌, ◌++◌, refl, ap, ◌≢◌, ◌≤◌, List, arith, ◌^◌, ◌<◌, IsUtf8, subst, ItemLaws, u32, name, coded, pair, vec, byte, minimal}
use Rattle.wasm_base.proofs.Words.{unsigned_encoding, padded, Unambiguous, Decodes, Rejects, size_prefixed_encoding, HasEncodableSize, name_unambiguous, coded_unambiguous, mapped_unambiguous}
use Rattle.wasm_base.proofs.Words.{pair_unambiguous, AllValues, u32_unambiguous, u32_encodes, name_encodes, pair_encodes, front_name_encodes, SectionLaws, counted_laws, mapped_decodes, mapped_rejects}
use Rattle.wasm_base.proofs.Words.{code_decodes, code_none, code_unknown}
use Rattle.wasm_sections.specs.{kind_code, export_encoding, IsExport, item_of, export_of, export, export_items, IsEncodableExport, ExportItem}
use Rattle.wasm_sections.specs.declared.export.Export.{Export}
use Rattle.wasm_sections.specs.declared.export.ExportKind.{ExportKind}
use Rattle.wasm_sections.specs.declared.export.ExportKind.TheVariants.{Func, Table, Memory, Global, Tag}
use Rattle.wasm_sections.specs.declared.export.ExportKind.TheVariants as kinds

decode : ℕ → ExportKind
decode zero = Func
decode (suc zero) = Table
decode (suc (suc zero)) = Memory
decode (suc (suc (suc zero))) = Global
decode (suc (suc (suc (suc _)))) = Tag

back : (kind : ExportKind) → decode (kind_code kind) ≡ kind
unfolding decode
back Func = refl
back kind = refl

pub export_kind_unambiguous : Unambiguous (coded kind_code)
export_kind_unambiguous = coded_unambiguous kind_code decode back

pub export_unambiguous : Unambiguous export
export_unambiguous =
    mapped_unambiguous export_of (λ x y e. ap (λ item. (item.name, (item.kind, item.index))) e)
    (pair_unambiguous name_unambiguous (pair_unambiguous export_kind_unambiguous u32_unambiguous))

export_encodes : (e : Export) → IsExport e → HasEncodableSize (export_encoding e) → export minimal (export_encoding e) (item_of e)
export_encodes e plain encodable =
    let back = kind_code e.kind ∷ [] ++ unsigned_encoding e.index in
    let named = front_name_encodes e.name.now back plain.name encodable in
    let rest = pair_encodes (coded kind_code) u32 (kind_code e.kind ∷ []) (unsigned_encoding e.index) e.kind e.index refl (u32_encodes e.index plain.index) in
    ((e.name.now, (e.kind, e.index)), refl, pair_encodes name (pair (coded kind_code) u32) (size_prefixed_encoding e.name.now) back e.name.now (e.kind, e.index) named rest)

pub export_laws : ItemLaws export_items
export_laws = record { unique = export_unambiguous; encodes = export_encodes }

pub exports_section : SectionLaws export_items (vec export)
exports_section = counted_laws export_laws (λ given plain. plain) (λ given plain. plain)

-- ---- decoding exports

pub export_kind_decodes : {m : Mode} (bytes rest : List ℕ) (b : ℕ) (k : ExportKind) → Decodes byte m bytes b rest → b ≡ kind_code k → Decodes (coded kind_code) m bytes k rest
export_kind_decodes = code_decodes kind_code

pub export_kind_none : {m : Mode} (bytes : List ℕ) → Rejects byte m bytes → Rejects (coded kind_code) m bytes
export_kind_none = code_none kind_code

pub export_kind_unknown : {m : Mode} (bytes rest : List ℕ) (b : ℕ) → Decodes byte m bytes b rest → 5 ≤ b → Rejects (coded kind_code) m bytes
export_kind_unknown bytes rest b h l = code_unknown kind_code bytes rest b h other
  where
    other : (k : ExportKind) → b ≢ kind_code k
    other kinds.Func e = omega (arith, l, e)
    other k e = omega (arith, l, e)

pub ruleset export_kind_steps = (export_kind_decodes, export_kind_unknown)

pub export_decodes : {m : Mode} (bytes rest encoding : List ℕ) (k : ExportKind) (n : ℕ) → Decodes (pair name (pair (coded kind_code) u32)) m bytes (encoding, (k, n)) rest → Decodes export m bytes (record { name = encoding; kind = k; index = n }) rest
export_decodes bytes rest encoding k n h = mapped_decodes export_of h

pub export_none : {m : Mode} (bytes : List ℕ) → Rejects (pair name (pair (coded kind_code) u32)) m bytes → Rejects export m bytes
export_none bytes n = mapped_rejects export_of n

pub ruleset export_steps = (export_decodes)

-- ---- the one minimal encoding of decoded exports

-- The decoded export is well-formed: its name is UTF-8, and its index is below 2^32.
pub record IsItem (e : ExportItem) : Type 0 where
  pub name : IsUtf8 e.name
  pub index : e.index < 2 ^ 32

pub export_is : AllValues IsItem export
export_is mode s e h = subst IsItem h.1 (record { name = h.2.first.1; index = h.2.second.second.range })

pub export_short : (e : Export) → IsEncodableExport e → (s : List ℕ) → export padded s (item_of e) → export minimal (export_encoding e) (item_of e)
export_short e encodable s h =
    let is = export_is padded s (item_of e) h in
    let rest = pair_encodes (coded kind_code) u32 (kind_code e.kind ∷ []) (unsigned_encoding e.index) e.kind e.index refl (u32_encodes e.index is.index) in
    ((e.name.now, (e.kind, e.index)), refl, pair_encodes name (pair (coded kind_code) u32) (size_prefixed_encoding e.name.now) (kind_code e.kind ∷ [] ++ unsigned_encoding e.index) e.name.now (e.kind, e.index) (name_encodes e.name.now is.name encodable) rest)
