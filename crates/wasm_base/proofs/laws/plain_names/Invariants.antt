use Rattle.wasm_base.proofs.Std.{take, IsUtf8, All}
use Rattle.wasm_base.proofs.laws.plain_names.Given as goal

abbrev pub invariant-loop-name : goal.invariant-loop-name
invariant-loop-name l = All (λ name. IsUtf8 name.now) (take l.name-index l.names)
