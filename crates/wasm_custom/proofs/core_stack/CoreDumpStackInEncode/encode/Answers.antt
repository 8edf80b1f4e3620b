use Rattle.wasm_custom.proofs.Common.{true, refl, subst, on_ok, stack_name, stack_stored, same_encodable}
use Rattle.wasm_base.specs.Words.{DecodesBack}
use Rattle.wasm_custom.specs.{joined_data, named_encoding, stack_section, SaysStackIn}
use Rattle.wasm_custom.proofs.core_stack.CoreDumpStackInEncode.encode.Goals as goal

pub returns-clause-read : goal.returns-clause-read
returns-clause-read g c =
    let model = g.E.Store.model in
    let front = c.self.inside.front.items in
    let frames = c.self.inside.frames in
    on_ok c.encode_entries.result _ _ c.encode_entries.ensures.appends.was_encodable λ encodable.
    subst (λ s. DecodesBack stack_section (SaysStackIn model s.0 s.1) (named_encoding stack_name (joined_data s.0 true (model.joins s.1)))) c.self.view_is
    (stack_stored model front frames c.encode_entries.ensures.few
    (same_encodable stack_name front stack_name c.deref.result.now true true (model.joins frames) (model.joins frames) refl c.deref.ensures.value refl refl encodable)
    c.cut.ensures)
