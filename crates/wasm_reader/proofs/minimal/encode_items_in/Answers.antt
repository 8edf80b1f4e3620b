use Rattle.wasm_base.proofs.Words.{◌∙◌, Err, ap}
use Rattle.wasm_base.specs.declared.refused.Refused.TheVariants.{TooLong}
use Rattle.wasm_reader.proofs.ContentIn.{content_encodable, content_minimized, content_not_rejected, refused_same}
use Rattle.wasm_reader.proofs.minimal.encode_items_in.Goals as goal

pub returns-in-Ok-clause-ok : goal.returns-in-Ok-clause-ok
returns-in-Ok-clause-ok g c = content_minimized _ _ _ _ _ _ (record { is_kind = c.kind.ensures; empty = _; written = _; is_empty = c.new-written.ensures.items; are = c.deref.ensures.value; appended = c.in_ok-encode_items.ensures.ok }) c.in-Ok.ensures.found

pub returns-clause-too_long : goal.returns-clause-too_long
returns-clause-too_long g c = λ h e. content_not_rejected _ _ _ _ (record { is_kind = c.kind.ensures; empty = _; written = _; is_empty = c.new-written.ensures.items; are = c.deref.ensures.value; appended = c.in_ok-encode_items.ensures.ok }) (c.in-Err.ensures.none (λ m. cc (e, c.refusal_of.ensures.memory (c.cause.ensures ∙ m)))) h

pub returns-in_err-encode_items-clause-too_long : goal.returns-in_err-encode_items-clause-too_long
returns-in_err-encode_items-clause-too_long g c = λ h e. c.in_err-encode_items.ensures.too_long (content_encodable g.G.Grammar.grammar _ h) (ap Err (refused_same c.from_residual.result _ TooLong c.from_residual.ensures.1 e))
