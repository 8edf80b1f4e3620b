use Rattle.std.proofs.Common.{rules, ◌≡◌, length, ap₂, map}
use Rattle.wasm_code.specs.Bodies.{body_of}
use Rattle.wasm_insn.specs.Views.{plain_view}
use Rattle.wasm_remap.specs.Instructions.{remapped_instruction, remapped_val}
use Rattle.wasm_remap.proofs.FirstLaws.{on_ok, viewed_back, written_back}
use Rattle.wasm_remap.proofs.instructions.BodyIndexed.remap.Goals as goal

pub returns-clause-ok : goal.returns-clause-ok
returns-clause-ok g c =
    let runs : length c.remap_each.new.items ≡ c.args.self.now.runs.len = search rules in
    let code : length c.remap_each-2.new.items ≡ c.args.self.now.code.len = search rules in
    on_ok c.remap_each-2.result
    (λ h m follows. ap₂ (λ x y. body_of (x, y)) (written_back (map (λ run. (run.0, remapped_val m run.1))) c.remap_each.new.items _ runs (c.in_ok-remap_each.ensures.ok m follows) c.deref_mut.ensures.value) (viewed_back plain_view (map (remapped_instruction m)) c.remap_each-2.new.items _ code (h m follows) c.deref_mut-2.ensures.value))
    c.remap_each-2.ensures.ok
