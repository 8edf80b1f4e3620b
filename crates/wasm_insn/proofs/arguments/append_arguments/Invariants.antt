use Rattle.wasm_insn.proofs.Common.{◌≡◌, ◌++◌, take, flat_map, argument_encoding, argument_view}
use Rattle.wasm_insn.proofs.arguments.append_arguments.Given as goal

abbrev pub invariant-loop-arg : goal.invariant-loop-arg
invariant-loop-arg g l = l.sink.items ≡ l.initial.sink.items ++ flat_map (λ a. argument_encoding (argument_view a)) (take l.arg-index l.args)
