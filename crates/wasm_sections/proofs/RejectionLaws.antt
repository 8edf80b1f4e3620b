-- This file proves that certain bytes are not a section.
use Rattle.wasm_base.proofs.Words.{builders, ◌≡◌, ℕ, ◌<◌, List, [], ◌∷◌, ◌++◌, false, pos, refl, sym, subst, ◌∙◌, append-nil, arith, lit<, inl, inr, ints, IsUtf8-nil, counted_format, u32, impossible}
use Rattle.wasm_base.proofs.Words.{choice, name, mapped, such, RejectsAllAfterPadded, minimal, padded, name_unambiguous, then_at, tagged_at, begins_mapped, u32_unambiguous, u32_small, rejects_padded}
use Rattle.wasm_base.proofs.Words.{one_item, groups_encoding-last}
use Rattle.std.specs.declared.alloc.Global.{Global}
use Rattle.wasm_base.specs.declared.types.ValType.TheVariants.{I32}
use Rattle.wasm_insn.proofs.Words.{instruction, table}
use Rattle.wasm_insn.specs.declared.instruction.Instruction.{Instruction}
use Rattle.wasm_insn.specs.declared.instruction.Instruction.TheVariants.{I32Const}
use Rattle.wasm_code.proofs.Words.{IsNoEnd, normal_row, members_one, normal_encodes}
use Rattle.wasm_sections.specs.{DataItem, data_tags, data_item, GivenGlobal, GlobalItem, global_item_of, global_item, Imported, ImportItem, single, entity, after_module, import_format}
use Rattle.wasm_sections.proofs.GlobalLaws.{global_item_unambiguous, global_item_encodes, globals_section}
use Rattle.wasm_sections.proofs.ImportLaws.{IsEntityByte, entity_begins, empty_name, imports_section}
use Rattle.wasm_sections.proofs.DataLaws.{segments_section}
use Rattle.wasm_base.proofs.SectionLaws.{unambiguous}

-- ---- a global with remaining bytes after its first `end`

abbrev one : Instruction Global
one = I32Const (pos 1)

one_encodes : such IsNoEnd (instruction table) minimal (0x41 ∷ 0x01 ∷ []) (normal_row one)
one_encodes = (subst (λ s. instruction table minimal (0x41 ∷ (s ++ [])) (normal_row one)) (groups_encoding-last false 0x40 1 (lit< tt)) (normal_encodes one ((omega (arith, ints), omega (arith, ints)), tt)), refl)

abbrev first : GivenGlobal
first = record { global_type = record { val_type = I32; mutable = false; shared = false }; init = record { bytes = 0x41 ∷ 0x01 ∷ []; instructions = normal_row one ∷ [] } }

first_encodes : global_item minimal (0x7F ∷ 0x00 ∷ 0x41 ∷ 0x01 ∷ 0x0B ∷ []) (global_item_of first)
first_encodes = global_item_encodes minimal tt first (record { global_type = tt; init = members_one (such IsNoEnd (instruction table)) minimal (0x41 ∷ 0x01 ∷ []) (normal_row one) one_encodes })

no_global : (x : GlobalItem) → global_item padded (0x7F ∷ 0x00 ∷ 0x41 ∷ 0x01 ∷ 0x0B ∷ 0x41 ∷ 0x02 ∷ 0x0B ∷ []) x → ⊥
no_global x h =
    let known = global_item_unambiguous.encodings.included minimal padded tt (0x7F ∷ 0x00 ∷ 0x41 ∷ 0x01 ∷ 0x0B ∷ []) (global_item_of first) first_encodes in
    let apart = global_item_unambiguous.unique padded (0x7F ∷ 0x00 ∷ 0x41 ∷ 0x01 ∷ 0x0B ∷ []) (0x7F ∷ 0x00 ∷ 0x41 ∷ 0x01 ∷ 0x0B ∷ 0x41 ∷ 0x02 ∷ 0x0B ∷ []) (0x41 ∷ 0x02 ∷ 0x0B ∷ []) [] (global_item_of first) x known h refl in
    absurd (cc apart.2)

pub inner_end : RejectsAllAfterPadded (counted_format global_item) (9 ∷ 1 ∷ 127 ∷ 0 ∷ 65 ∷ 1 ∷ 11 ∷ 65 ∷ 2 ∷ 11 ∷ [])
inner_end =
    rejects_padded {F = counted_format global_item} (9 ∷ 1 ∷ 127 ∷ 0 ∷ 65 ∷ 1 ∷ 11 ∷ 65 ∷ 2 ∷ 11 ∷ []) (unambiguous globals_section)
    (λ after rest xs h. let x = one_item {F = global_item} 9 (127 ∷ 0 ∷ 65 ∷ 1 ∷ 11 ∷ 65 ∷ 2 ∷ 11 ∷ []) after rest h.front xs (omega arith) refl h.split h.encodes in no_global x.0 x.1)

-- ---- a padded 00 before a group

padded_name : name padded (0x80 ∷ 0x00 ∷ []) []
padded_name = (
  record {
    front = 0x80 ∷ 0x00 ∷ [];
    content = [];
    joined = refl;
    size = record { groups = (omega arith, omega arith, omega arith); total = refl; range = omega arith; size = omega arith };
    encodes = refl;
  },
  IsUtf8-nil,
)

no_group : (s : List ℕ) (x : Imported) → 0x80 ∷ 0x00 ∷ 0x7F ∷ 0x00 ∷ [] ≡ s ++ [] → after_module padded s x → ⊥
no_group s x e (inl h) =
    let found = tagged_at {F = name} {G = λ item. mapped (single item) entity} name_unambiguous padded (0x80 ∷ 0x00 ∷ []) [] padded_name (0x7F ∷ 0x00 ∷ []) s [] x e h in
    let kind = begins_mapped IsEntityByte (single []) entity_begins padded found.0 x found.2 in
    let same : 0x7F ∷ 0x00 ∷ [] ≡ kind.0 ∷ kind.1 = found.1 ∙ append-nil found.0 ∙ kind.2 in
    let low : 0x7F < 0x21 = subst IsEntityByte (sym (cc same)) kind.3 in
    omega (arith, low)
no_group s x e (inr h) =
    let same : 0x80 ∷ 0x00 ∷ 0x7F ∷ 0x00 ∷ [] ≡ 0x00 ∷ h.2.back = e ∙ append-nil s ∙ subst (λ z. s ≡ z ++ h.2.back) h.2.first.0 h.2.joined in
    let zero : ◌≡◌ {A = ℕ} 0x80 0x00 = cc same in
    omega (arith, zero)

no_import : (x : ImportItem) → import_format padded (0x00 ∷ 0x80 ∷ 0x00 ∷ 0x7F ∷ 0x00 ∷ []) x → ⊥
no_import x h =
    let found = then_at {F = name} {G = λ n. after_module} name_unambiguous padded (0x00 ∷ []) [] (empty_name padded) (0x80 ∷ 0x00 ∷ 0x7F ∷ 0x00 ∷ []) (0x00 ∷ 0x80 ∷ 0x00 ∷ 0x7F ∷ 0x00 ∷ []) [] h.0 refl h.2 in
    no_group found.0 h.0.1 found.1 found.2

pub padded_group : RejectsAllAfterPadded (counted_format import_format) (6 ∷ 1 ∷ 0 ∷ 128 ∷ 0 ∷ 127 ∷ 0 ∷ [])
padded_group =
    rejects_padded {F = counted_format import_format} (6 ∷ 1 ∷ 0 ∷ 128 ∷ 0 ∷ 127 ∷ 0 ∷ []) (unambiguous imports_section)
    (λ after rest xs h. let x = one_item {F = import_format} 6 (0 ∷ 128 ∷ 0 ∷ 127 ∷ 0 ∷ []) after rest h.front xs (omega arith) refl h.split h.encodes in no_import x.0 x.1)

-- ---- an explicit memory 0 of a segment

no_segment : (x : DataItem) → data_item padded (2 ∷ 0 ∷ 65 ∷ 0 ∷ 11 ∷ 1 ∷ 9 ∷ []) x → ⊥
no_segment x h =
    let flag = tagged_at {F = u32} {G = choice (data_tags builders) (λ flag. impossible)} u32_unambiguous padded (2 ∷ []) 2 (u32_small padded 2 (omega arith)) (0 ∷ 65 ∷ 0 ∷ 11 ∷ 1 ∷ 9 ∷ []) (2 ∷ 0 ∷ 65 ∷ 0 ∷ 11 ∷ 1 ∷ 9 ∷ []) [] x refl h in
    let parts = flag.2.2 in
    let memory = u32_unambiguous.unique padded (0 ∷ []) parts.front (65 ∷ 0 ∷ 11 ∷ 1 ∷ 9 ∷ []) parts.back 0 flag.2.0.0 (u32_small padded 0 (omega arith)) parts.first.0 (flag.1 ∙ append-nil flag.0 ∙ parts.joined) in
    omega (arith, memory.0, parts.first.1)

pub named_first_memory : RejectsAllAfterPadded (counted_format data_item) (8 ∷ 1 ∷ 2 ∷ 0 ∷ 65 ∷ 0 ∷ 11 ∷ 1 ∷ 9 ∷ [])
named_first_memory =
    rejects_padded {F = counted_format data_item} (8 ∷ 1 ∷ 2 ∷ 0 ∷ 65 ∷ 0 ∷ 11 ∷ 1 ∷ 9 ∷ []) (unambiguous segments_section)
    (λ after rest xs h. let x = one_item {F = data_item} 8 (2 ∷ 0 ∷ 65 ∷ 0 ∷ 11 ∷ 1 ∷ 9 ∷ []) after rest h.front xs (omega arith) refl h.split h.encodes in no_segment x.0 x.1)

pub ruleset nothing = (inner_end, padded_group, named_first_memory)
