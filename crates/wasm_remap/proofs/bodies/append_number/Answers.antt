use Rattle.wasm_base.proofs.Words.{[], ◌∷◌, ap, subst, ◌∙◌}
use Rattle.wasm_insn.specs.Arguments.{unsigned}
use Rattle.wasm_insn.specs.Plain.{instruction}
use Rattle.wasm_insn.specs.Table.{table}
use Rattle.wasm_remap.specs.Mapping.{mapped_in}
use Rattle.wasm_remap.specs.Streamed.{AppendsForm}
use Rattle.wasm_remap.proofs.InstructionForms.{number_minimal, one_appends}
use Rattle.wasm_remap.proofs.bodies.append_number.Goals as goal

pub returns-clause-ok : goal.returns-clause-ok
returns-clause-ok g c m follows =
    let n = c.in_ok-number.number in
    let same = c.in_ok-number.ensures.ok m follows ∙ ap (λ s. mapped_in m s.0 c.args.number) c.spaces_of.ensures in
    let appends = one_appends c.args.op (unsigned n) _ c.args.sink.now.items _ _ c.in_ok-encode.ensures.appends.ok c.in_ok-encode-2.ensures.appends.ok (number_minimal n) in
    subst (λ k. AppendsForm (instruction table) (record { op = c.args.op; arguments = unsigned k ∷ [] }) c.args.sink.now.items c.encode-2.new.sink.items) same appends
