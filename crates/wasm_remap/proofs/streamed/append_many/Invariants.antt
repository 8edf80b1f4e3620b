use Rattle.wasm_remap.specs.Mapping.{Follows, Mapping}
use Rattle.wasm_remap.proofs.StreamLaws.{HasStreamed}
use Rattle.wasm_remap.proofs.streamed.append_many.Given as goal

abbrev pub invariant-loop-taken : goal.invariant-loop-taken
invariant-loop-taken g l = (m : Mapping) → Follows (g.M.Remap.mapped l.indices) (g.M.Remap.rejects l.indices) m → HasStreamed (g.T.Streamed.image m) g.T.Streamed.format l.initial.rest l._taken l.rest l.initial.sink.items l.sink.items
