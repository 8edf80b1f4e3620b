use Rattle.wasm_base.proofs.Words.{refl, sym, ◌∙◌, arith}
use Rattle.wasm_base.proofs.DecodingSteps.{front_and_rest}
use Rattle.wasm_remap.proofs.InstructionForms.{byte_remaps, operands_remap, operation_remaps}
use Rattle.wasm_remap.proofs.bodies.append_instruction.Goals as goal

pub returns-then-begins_without_index-clause-found : goal.returns-then-begins_without_index-clause-found
returns-then-begins_without_index-clause-found g c m follows =
    let w = c.in_ok-walk.ensures.found in
    byte_remaps m c.args.bytes.now _ w.value w.decoded _ _ w.encoding c.args.sink.now.items _ (omega (arith, c.type_inv.bytes 0)) (sym c.begins_without_index.ensures ∙ c.if-begins_without_index.true) (front_and_rest c.args.bytes.now c.in-len1-up.len_at_least) w.encodes (w.taken.after _ refl)

pub returns-then-have_no_index-clause-found : goal.returns-then-have_no_index-clause-found
returns-then-have_no_index-clause-found g c m follows =
    let w = c.in_ok-walk-2.ensures.found in
    operands_remap m c.args.bytes.now _ w.value w.decoded c.in_ok-op.operands c.in_ok-op.op _ w.encoding c.args.sink.now.items _ c.in_ok-op.ensures.found (c.have_no_index.ensures c.if-have_no_index.true) w.encodes (w.taken.after _ refl)

pub returns-clause-found : goal.returns-clause-found
returns-clause-found g c m follows = operation_remaps m c.args.bytes.now _ c.args.sink.now.items _ c.in_ok-op.op c.in_ok-op.operands c.in_ok-op.ensures.found (c.in_ok-append_operation.ensures.ok m follows)
