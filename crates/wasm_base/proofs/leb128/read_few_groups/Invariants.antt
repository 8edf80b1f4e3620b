use Rattle.wasm_base.proofs.DecodeNumbers.{HasBegun}
use Rattle.wasm_base.proofs.leb128.read_few_groups.Given as goal

abbrev pub invariant-loop-group : goal.invariant-loop-group
invariant-loop-group l = HasBegun l._group l.bytes l.rest l.sum l.power
