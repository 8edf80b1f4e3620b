use Rattle.wasm_base.proofs.Words.{◌≡◌, [], ◌∷◌, ap₂, inl, inr, refl, standard, subst, sym, vec}
use Rattle.wasm_remap.proofs.InsertLaws.{gains_members}
use Rattle.wasm_remap.specs.Imported.{room_in}
use Rattle.wasm_remap.specs.Sections.{RemapsModule}
use Rattle.wasm_remap.specs.Shifted.{shifted}
use Rattle.wasm_remap.specs.declared.insert.Position.TheVariants.{First}
use Rattle.wasm_remap.specs.declared.spaces.IndexSpace.TheVariants.{Functions}
use Rattle.wasm_sections.specs.Imports.{IsImport, import_format}
use Rattle.wasm_c.specs.Assembled.{Gives}
use Rattle.wasm_c.specs.Indices.{imported}
use Rattle.wasm_c.proofs.indices.dz_insert_import.Goals as goal

pub returns-in-Ok : goal.returns-in-Ok
returns-in-Ok c =
    let from = c.in-Ok-Ok.ensures.cases in
    let name = c.in-Ok-Ok.ensures'.cases in
    let h = c.in-Ok.ensures.ok in
    let edited = c.in-Ok.module.items in
    let item = imported c.args.module_name.now c.args.name.now c.args.type_index in
    let same = ap₂ (λ a b. imported a b c.args.type_index) from.0 name.0 in
    let plain : IsImport item = (from.1, (name.1, c.ranges.type_index.fits)) in
    let decodes = subst (λ i. vec import_format standard h.payload (i ∷ [])) same (h.decodes (subst IsImport (sym same) plain)) in
    let shifts = subst (λ o. RemapsModule (shifted (room_in Functions)) o c.args.bytes.now h.shifted_bytes) c.offsets_of.ensures h.shifts in
    let gives = subst (λ s. Gives s c.args.out.now c.copied.new.out c.copied.result) c.deref.ensures.value c.copied.ensures in
    inr (h.shifted_bytes, edited, shifts, gains_members import_format First 2 (item ∷ []) refl decodes h.inserts, record { gives = gives; no_offset = refl; no_cause = refl })
