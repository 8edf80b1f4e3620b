-- This file proves that branch hints are unambiguous, and how they are decoded and minimized.
use Rattle.wasm_base.proofs.Words.{◌<◌, [], ◌∷◌, true, false, refl, ap, ℕ, ◌≤◌, ◌≡◌, List, subst, arith, ◌++◌, ItemLaws, u32, byte, prefixed, such, vec, fixed, Format, minimal, unsigned_encoding}
use Rattle.wasm_base.proofs.Words.{Mode, Unambiguous, Decodes, Rejects, vec_encoding, IsEncodableVec, mapped_unambiguous, pair_unambiguous, byte_unambiguous, such_unambiguous}
use Rattle.wasm_base.proofs.Words.{prefixed_unambiguous, AllValues, u32_unambiguous, groups_encoding-last, u32_encodes, ascii, pair_encodes, prefixed_encodes, map-id, then_decodes}
use Rattle.wasm_base.proofs.Words.{then_rejects_first, then_rejects_second, mapped_decodes, mapped_rejects, such_decodes, such_none, such_rejects, SectionLaws, AppendsMinimal, both_grammars, HasEncoding}
use Rattle.wasm_base.proofs.Words.{right_encoded, counted_encodable, pair_appended, records_appended}
use Rattle.wasm_base.specs.Minimal.{EncodesMinimally}
use Rattle.wasm_base.proofs.GrammarLaws.{canonical_by, mapped_both, pair_both, prefixed_both, such_both, byte_both, u32_both}
use Rattle.wasm_custom.specs.{CustomLayoutLaws, hint_encoding, IsHint, hint_of, hint, hints, hints_name, hint_items, hints_payload}
use Rattle.wasm_custom.specs.declared.hints.BranchHint.{BranchHint}
use Rattle.wasm_custom.proofs.EntriesLaws.{counted_layout, entries_laws}
use Rattle.wasm_custom.proofs.MetadataLaws.{hints_in_unambiguous, hints_in_laws}

pub hint_unambiguous : Unambiguous hint
hint_unambiguous = mapped_unambiguous hint_of (λ x y e. ap (λ h. (h.branch_func_offset, h.branch_hint_value)) e) (pair_unambiguous u32_unambiguous (prefixed_unambiguous (0x01 ∷ []) (such_unambiguous (λ b. b < 128) byte_unambiguous)))

pub hint_encodes : (h : BranchHint) → IsHint h → hint minimal (hint_encoding h) h
hint_encodes h plain =
    let value = h.branch_hint_value in
    let one : such (λ b. b < 128) byte minimal (unsigned_encoding value) value = (groups_encoding-last false 0x80 value plain.value, plain.value) in
    let back = prefixed_encodes (0x01 ∷ []) (such (λ b. b < 128) byte) (unsigned_encoding value) value one in
    ((h.branch_func_offset, value), refl, pair_encodes u32 (prefixed (0x01 ∷ []) (such (λ b. b < 128) byte)) (unsigned_encoding h.branch_func_offset) (0x01 ∷ unsigned_encoding value) h.branch_func_offset value (u32_encodes h.branch_func_offset plain.offset) back)

pub hints_unambiguous : Unambiguous hints
hints_unambiguous = hints_in_unambiguous hint_unambiguous

pub hint_laws : ItemLaws hint_items
hint_laws = hints_in_laws hint IsHint hint_encoding hint_unambiguous hint_encodes

pub hint_layout : CustomLayoutLaws hints hints_name [] (fixed [] (tt {0})) true
hint_layout = counted_layout (ascii {bytes = hints_name} refl)

pub hints_section : SectionLaws hint_items hints_payload
hints_section = entries_laws hint_laws hint_layout (λ given plain. plain) (λ given plain. plain)

-- ---- decoding branch hints

-- ---- values

abbrev value : Format ℕ
value = such (λ b. b < 128) byte

pub value_decodes : {m : Mode} (bytes rest : List ℕ) (b : ℕ) → Decodes byte m bytes b rest → b < 128 → Decodes value m bytes b rest
value_decodes bytes rest b h l = such_decodes (λ b. b < 128) h l

pub hint_value_none : {m : Mode} (bytes : List ℕ) → Rejects byte m bytes → Rejects value m bytes
hint_value_none bytes n = such_none (λ b. b < 128) n

pub value_large : {m : Mode} (bytes rest : List ℕ) (b : ℕ) → Decodes byte m bytes b rest → 128 ≤ b → Rejects value m bytes
value_large bytes rest b h l = such_rejects (λ b. b < 128) byte_unambiguous h (λ p. omega (arith, p, l))

pub ruleset hint_value_steps = (value_decodes, value_large)

-- ---- hints

abbrev marked_value : Format ℕ
marked_value = prefixed (0x01 ∷ []) value

pub hint_decodes : {m : Mode} (bytes rest last : List ℕ) (n v : ℕ) → Decodes u32 m bytes n rest → Decodes marked_value m rest v last → Decodes hint m bytes (record { branch_func_offset = n; branch_hint_value = v }) last
hint_decodes bytes rest last n v h g = mapped_decodes hint_of (then_decodes h g)

pub hint_none : {m : Mode} (bytes : List ℕ) → Rejects u32 m bytes → Rejects hint m bytes
hint_none bytes n = mapped_rejects hint_of (then_rejects_first n)

pub hint_rejects : {m : Mode} (bytes rest : List ℕ) (n : ℕ) → Decodes u32 m bytes n rest → Rejects marked_value m rest → Rejects hint m bytes
hint_rejects bytes rest n h none = mapped_rejects hint_of (then_rejects_second u32_unambiguous h none)

pub ruleset hint_steps = (hint_decodes, hint_rejects)

-- ---- the one minimal encoding of decoded hints

hint_is : AllValues IsHint hint
hint_is mode s x h =
    let back = h.2.second in
    subst IsHint h.1 (record { offset = h.2.first.range; value = subst (λ z. z < 128) back.1 back.2.second.1 })

hint_canonical : EncodesMinimally hint (λ h. h) hint_encoding
hint_canonical = canonical_by (λ h. h) hint_encoding IsHint hint_is hint_encodes (mapped_both hint_of (pair_both u32_both (prefixed_both (0x01 ∷ []) (such_both (λ b. b < 128) byte_both))))

pub function_appended : (n : ℕ) (hs : List BranchHint) (old middle new : List ℕ) → AppendsMinimal both_grammars u32 n old middle → IsEncodableVec (λ h. Unit {0}) hs → new ≡ middle ++ vec_encoding hint_encoding hs → AppendsMinimal both_grammars hints (n, hs) old new
function_appended n hs old middle new a encodable e =
    pair_appended u32 (vec hint) a
    (subst (λ z. AppendsMinimal both_grammars (vec hint) z middle new) (map-id hs) (records_appended hint (λ h. h) hint_encoding (λ h. Unit {0}) hs middle new (λ h f w q s k. hint_canonical.minimal_in w s h k) encodable e))

pub of_branches_encodable : (n : ℕ) (hs : List BranchHint) → HasEncoding both_grammars hints (n, hs) → IsEncodableVec (λ h. Unit {0}) hs
of_branches_encodable n hs h = record { count = counted_encodable hint hs (right_encoded u32 (vec hint) n hs h); members = λ k d l. tt }
