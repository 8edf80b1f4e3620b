use Rattle.wasm_base.proofs.Words.{◌≡◌, map, take}
use Rattle.wasm_bench.specs.Decodings.{instructions_in}
use Rattle.wasm_code.proofs.Words.{body_view}
use Rattle.wasm_bench.proofs.decoding.instructions.Given as goal

-- The count is that of the instructions of the bodies so far.
abbrev pub invariant-loop-body : goal.invariant-loop-body
invariant-loop-body l = l.count ≡ instructions_in (map body_view (take l.body-index l.bodies))
