use Rattle.wasm_base.proofs.Words.{[], ◌∷◌, ap, ap₂, sym, subst, ◌∙◌}
use Rattle.wasm_insn.specs.Arguments.{unsigned}
use Rattle.wasm_insn.specs.Plain.{instruction, plain_of}
use Rattle.wasm_insn.specs.Table.{table}
use Rattle.wasm_remap.specs.Instructions.{remapped_instruction}
use Rattle.wasm_remap.specs.Mapping.{mapped_in}
use Rattle.wasm_remap.specs.Streamed.{AppendsForm}
use Rattle.wasm_remap.proofs.InstructionForms.{two_appends, two_are}
use Rattle.wasm_remap.proofs.bodies.append_numbers.Goals as goal

pub returns-clause-ok : goal.returns-clause-ok
returns-clause-ok g c m follows xs are =
    let a = c.in_ok-numbers.numbers.0 in
    let b = c.in_ok-numbers.numbers.1 in
    let first = c.in_ok-first.ensures.ok m follows ∙ ap (λ s. mapped_in m s.0 a) c.spaces_of-spaces.ensures in
    let second = c.in_ok-second.ensures.ok m follows ∙ ap (λ s. mapped_in m s.1 b) c.spaces_of-spaces.ensures in
    let appends = two_appends c.args.op c.in_ok-first.first c.in_ok-second.second c.args.sink.now.items _ _ _ c.in_ok-encode.ensures.appends.ok c.in_ok-encode-2.ensures.appends.ok c.in_ok-encode-3.ensures.appends.ok in
    let mapped = subst (λ i. AppendsForm (instruction table) i c.args.sink.now.items c.encode-3.new.sink.items) (ap₂ (λ x y. plain_of (c.args.op, unsigned x ∷ unsigned y ∷ [])) first second) appends in
    let same = two_are c.args.bytes.now _ a b xs c.in_ok-numbers.ensures.found are in
    subst (λ ys. AppendsForm (instruction table) (remapped_instruction m (plain_of (c.args.op, ys))) c.args.sink.now.items c.encode-3.new.sink.items) (sym same) mapped
