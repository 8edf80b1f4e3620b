use Rattle.wasm_base.proofs.Words.{[], ◌∷◌, subst}
use Rattle.wasm_insn.specs.Arguments.{block}
use Rattle.wasm_insn.specs.Plain.{instruction}
use Rattle.wasm_insn.specs.Table.{table}
use Rattle.wasm_remap.specs.Streamed.{AppendsForm}
use Rattle.wasm_remap.proofs.InstructionForms.{block_minimal, one_appends}
use Rattle.wasm_remap.proofs.bodies.append_block.Goals as goal

pub returns-clause-ok : goal.returns-clause-ok
returns-clause-ok g c m follows =
    let appends = one_appends c.args.op (block c.remap.new.self) _ c.args.sink.now.items _ _ c.in_ok-encode.ensures.appends.ok c.in_ok-encode_in.ensures.ok (block_minimal c.remap.new.self) in
    subst (λ ty. AppendsForm (instruction table) (record { op = c.args.op; arguments = block ty ∷ [] }) c.args.sink.now.items c.encode_in.new.sink.items) (c.in_ok-remap.ensures.ok m follows) appends
