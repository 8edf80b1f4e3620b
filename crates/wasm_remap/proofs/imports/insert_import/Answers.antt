use Rattle.wasm_base.proofs.Words.{List, ℕ, [], ◌∷◌, ◌++◌, length, joined, ap, sym, subst, ◌∙◌, refl, inl, inr, unsigned_encoding, IsEncodableSection}
use Rattle.wasm_sections.specs.Imports.{import_encoding, import_item}
use Rattle.wasm_remap.specs.Imported.{InsertsImport, room_in}
use Rattle.wasm_remap.specs.Inserted.{InsertsSection}
use Rattle.wasm_remap.specs.Sections.{RemapsModule}
use Rattle.wasm_remap.specs.Shifted.{IsTooLarge, shifted}
use Rattle.wasm_remap.specs.Errors.{ExplainsImport, ExplainsInsert, ExplainsRemap}
use Rattle.wasm_remap.proofs.ErrorLaws.{fails_with, if_err_more}
use Rattle.wasm_remap.specs.declared.insert.Position.TheVariants.{First}
use Rattle.wasm_remap.proofs.ImportedLaws.{if_ok, imported_payload}
use Rattle.wasm_remap.proofs.imports.insert_import.Goals as goal

pub returns-clause-ok : goal.returns-clause-ok
returns-clause-ok g c =
    let item = import_item c.args.import.now in
    let bytes = c.args.bytes.now in
    let module_bytes = c.in_ok-shifted.shifted.items in
    let entries = c.import.new.self in
    let payload = unsigned_encoding (length entries) ++ joined entries in
    let is = c.in_ok-import.ensures.ok ∙ ap (λ z. z ++ import_encoding item ∷ []) c.new-imports.ensures in
    let shifts = subst (λ s. RemapsModule (shifted (room_in s)) c.args.offsets bytes module_bytes) c.space_of.ensures c.in_ok-shifted.ensures.ok in
    if_ok {R = λ edited. InsertsImport c.args.import.now c.args.offsets bytes edited.items} c.insert_section.result c.insert_section.ensures.inserts c.insert_section.ensures.fits
    (λ edited inserts fits. record {
      shifted_bytes = module_bytes;
      shifts = shifts;
      payload = payload;
      decodes = λ plain. imported_payload item entries is fits plain;
      inserts = subst (λ s. InsertsSection First 2 payload s edited.items) c.deref.ensures.value (inserts payload refl);
    })

pub returns-in_err-shifted-clause-why : goal.returns-in_err-shifted-clause-why
returns-in_err-shifted-clause-why g c =
    let x = c.args.import.now in
    fails_with (ExplainsImport x c.args.offsets c.args.bytes.now) c.from_residual.result _ c.from_residual.ensures.1 (inl (subst (λ s. ExplainsRemap (shifted (room_in s)) (IsTooLarge (room_in s)) c.args.offsets c.args.bytes.now c.in_err-shifted.field-0.0) c.space_of.ensures c.in_err-shifted.ensures.why))

pub returns-clause-why : goal.returns-clause-why
returns-clause-why g c =
    let x = c.args.import.now in
    let entries = c.import.new.self in
    let is = c.in_ok-import.ensures.ok ∙ ap (λ z. z ++ import_encoding (import_item x) ∷ []) c.new-imports.ensures in
    let shifts = subst (λ s. RemapsModule (shifted (room_in s)) c.args.offsets c.args.bytes.now c.in_ok-shifted.shifted.items) c.space_of.ensures c.in_ok-shifted.ensures.ok in
    let why = c.insert_section.ensures.why (unsigned_encoding (length entries) ++ joined entries) refl in
    if_err_more c.insert_section.result (λ e h. inr (inr (c.in_ok-shifted.shifted.items, shifts, subst (λ es. ExplainsInsert First 2 (IsEncodableSection es) (unsigned_encoding (length es) ++ joined es) c.in_ok-shifted.shifted.items e) is (subst (λ s. ExplainsInsert First 2 (IsEncodableSection entries) (unsigned_encoding (length entries) ++ joined entries) s e) c.deref.ensures.value h)))) why
