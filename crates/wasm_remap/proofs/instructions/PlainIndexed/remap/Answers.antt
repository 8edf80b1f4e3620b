use Rattle.std.proofs.Common.{rules, ◌≡◌, length, ap, ◌∙◌, map}
use Rattle.wasm_insn.specs.Plain.{plain_of}
use Rattle.wasm_insn.specs.Views.{argument_view}
use Rattle.wasm_remap.specs.Instructions.{remapped_arguments}
use Rattle.wasm_remap.proofs.FirstLaws.{on_ok, viewed_back}
use Rattle.wasm_remap.proofs.instructions.PlainIndexed.remap.Goals as goal

pub returns-clause-ok : goal.returns-clause-ok
returns-clause-ok g c =
    let long : length c.remap_arguments.new.arguments ≡ c.args.self.now.args.len = search rules in
    on_ok c.remap_arguments.result
    (λ h m follows. ap (λ xs. plain_of (c.args.self.now.op, xs)) (viewed_back argument_view (remapped_arguments m c.spaces_of.result) c.remap_arguments.new.arguments _ long (h m follows) c.deref_mut.ensures.value ∙ ap (λ s. remapped_arguments m s (map argument_view c.args.self.now.args.items)) c.spaces_of.ensures))
    c.remap_arguments.ensures.ok
