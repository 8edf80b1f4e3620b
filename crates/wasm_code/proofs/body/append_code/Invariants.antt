use Rattle.wasm_code.proofs.Common.{map, take, members, AppendsMinimal, builders_alone, instruction, table, plain_view}
use Rattle.wasm_code.proofs.body.append_code.Given as goal

abbrev pub invariant-loop-instruction : goal.invariant-loop-instruction
invariant-loop-instruction g l = AppendsMinimal builders_alone (members (instruction table)) (map plain_view (take l.instruction-index l.code)) l.initial.sink.items l.sink.items
