use Rattle.wasm_custom.proofs.Common.{◌≤◌, length, true, refl, ap, subst, ◌∙◌, longest, on_ok, same_encodable}
use Rattle.wasm_custom.proofs.RelocationLaws.{relocations_back}
use Rattle.wasm_base.specs.Stores.{pieces_model}
use Rattle.wasm_custom.proofs.relocations.RelocationSectionEncode.encode.Goals as goal

pub returns-clause-read : goal.returns-clause-read
returns-clause-read g c =
    on_ok c.encode_entries.result _ _ c.encode_entries.ensures.appends.was_encodable λ encodable.
    relocations_back c.args.self.now.0.0 c.args.self.now.0.1 c.args.self.now.1
    (subst (λ ps. length ps ≤ longest) (ap (λ v. v.1) c.self.view_is) c.encode_entries.ensures.few)
    (same_encodable c.args.self.now.0.0 c.args.self.now.0.1 c.as_str.result.now c.deref.result.now true true (pieces_model.joins c.args.self.now.1) (pieces_model.joins c.self.inside.relocations) (c.as_str.ensures.value ∙ ap (λ v. v.0.0) c.self.view_is) (c.deref.ensures.value ∙ ap (λ v. v.0.1) c.self.view_is) refl (ap (λ v. pieces_model.joins v.1) c.self.view_is) encodable)
