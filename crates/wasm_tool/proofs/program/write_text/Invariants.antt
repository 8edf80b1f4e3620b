use Rattle.wasm_tool.proofs.WrittenFronts.{HasWritten}
use Rattle.wasm_tool.proofs.program.write_text.Given as goal

-- The writer has gained the text except the rest.
abbrev pub invariant-loop-call : goal.invariant-loop-call
invariant-loop-call g l = HasWritten (g.O.Write.contents l.initial.out) (g.O.Write.contents l.out) l.text l.rest
