use Rattle.wasm_base.proofs.Words.{[], ◌∷◌, subst}
use Rattle.wasm_insn.specs.Arguments.{memory}
use Rattle.wasm_insn.specs.Plain.{instruction}
use Rattle.wasm_insn.specs.Table.{table}
use Rattle.wasm_remap.specs.Streamed.{AppendsForm}
use Rattle.wasm_remap.proofs.InstructionForms.{memory_minimal, one_appends}
use Rattle.wasm_remap.proofs.bodies.append_memory.Goals as goal

pub returns-clause-ok : goal.returns-clause-ok
returns-clause-ok g c m follows =
    let appends = one_appends c.args.op (memory c.remap.new.self) _ c.args.sink.now.items _ _ c.in_ok-encode.ensures.appends.ok c.in_ok-encode-2.ensures.appends.ok (memory_minimal c.remap.new.self) in
    subst (λ a. AppendsForm (instruction table) (record { op = c.args.op; arguments = memory a ∷ [] }) c.args.sink.now.items c.encode-2.new.sink.items) (c.in_ok-remap.ensures.ok m follows) appends
