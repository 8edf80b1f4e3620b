use Rattle.wasm_insn.proofs.Common.{padded_of, map, argument_view, HasArguments}
use Rattle.wasm_insn.proofs.arguments.read_parts.Given as goal

abbrev pub invariant-loop-part : goal.invariant-loop-part
invariant-loop-part g l = HasArguments l.wanted (padded_of g.G.Grammar.grammar) l.part-index l.bytes (map argument_view l.args.items) l.rest
