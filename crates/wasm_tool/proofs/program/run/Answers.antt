use Rattle.wasm_tool.proofs.Common.{string_bytes, Lists, not_none}
use Rattle.wasm_tool.proofs.program.run.Goals as goal

pub returns-in-Ok-clause-unlisted : goal.returns-in-Ok-clause-unlisted
returns-in-Ok-clause-unlisted g c = λ asks. not_none _ Lists (g.I.Read.remaining c.args.input.now) (string_bytes c.in-Ok.text) (c.in-Ok.ensures.listed asks)
