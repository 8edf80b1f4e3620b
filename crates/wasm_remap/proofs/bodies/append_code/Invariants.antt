use Rattle.wasm_base.proofs.Words.{length}
use Rattle.wasm_insn.specs.Plain.{instruction}
use Rattle.wasm_insn.specs.Table.{table}
use Rattle.wasm_remap.specs.Instructions.{remapped_instruction}
use Rattle.wasm_remap.specs.Mapping.{Follows, Mapping}
use Rattle.wasm_remap.proofs.StreamLaws.{HasStreamedTo}
use Rattle.wasm_remap.proofs.bodies.append_code.Given as goal

abbrev pub invariant-loop-rest : goal.invariant-loop-rest
invariant-loop-rest g l = (m : Mapping) → Follows (g.M.Remap.mapped l.indices) (g.M.Remap.rejects l.indices) m → HasStreamedTo (remapped_instruction m) (instruction table) l.bytes l.rest l.initial.sink.items l.sink.items

abbrev pub decreases-loop-rest : goal.decreases-loop-rest
decreases-loop-rest g l = length l.rest
