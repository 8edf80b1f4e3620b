use Rattle.wasm_remap.specs.Mapping.{Follows, Mapping}
use Rattle.wasm_remap.proofs.ArgumentLaws.{HasMapped}
use Rattle.wasm_remap.proofs.instructions.remap_arguments.Given as goal

abbrev pub invariant-loop-argument : goal.invariant-loop-argument
invariant-loop-argument g l = (m : Mapping) → Follows (g.M.Remap.mapped l.indices) (g.M.Remap.rejects l.indices) m → HasMapped m l.fn.spaces l.fn.arguments l.arguments l.argument-index l.spaces
