use Rattle.wasm_base.proofs.Words.{[], refl, sym, ap, subst, ◌∙◌}
use Rattle.wasm_base.specs.Minimal.{AppendsMinimal, builders_alone}
use Rattle.wasm_insn.specs.Plain.{instruction, plain_of}
use Rattle.wasm_insn.specs.Table.{table}
use Rattle.wasm_insn.specs.Views.{plain_view}
use Rattle.wasm_remap.specs.Instructions.{remapped_instruction}
use Rattle.wasm_remap.specs.Streamed.{AppendsForm}
use Rattle.wasm_remap.proofs.InstructionForms.{rare_appends}
use Rattle.wasm_remap.proofs.bodies.append_rare.Goals as goal

pub returns-clause-ok : goal.returns-clause-ok
returns-clause-ok g c m follows xs are =
    let y = plain_view c.remap.new.self in
    let w = c.in_ok-walk.ensures.found in
    let empty = subst (λ old. AppendsMinimal builders_alone (instruction table) y old c.write_minimal.new.sink.items) c.new-encoding.ensures.items c.in_ok-write_minimal.ensures.ok in
    let built = subst (AppendsMinimal builders_alone (instruction table) y []) (sym c.deref.ensures.value) empty in
    let same = c.in_ok-remap.ensures.ok m follows ∙ ap (λ zs. remapped_instruction m (plain_of (c.args.op, zs))) (c.in_ok-args.ensures.only xs are) in
    let appends = rare_appends y w.value _ _ w.encoding c.args.sink.now.items _ built w.decoded w.encodes (w.taken.after _ refl) in
    subst (λ z. AppendsForm (instruction table) z c.args.sink.now.items c.walk.new.effect.items) same appends
