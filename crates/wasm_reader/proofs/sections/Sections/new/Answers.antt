use Rattle.wasm_reader.proofs.DecodeModules.{header_error}
use Rattle.wasm_reader.proofs.sections.Sections.new.Goals as goal

pub returns-in-Err-clause-why : goal.returns-in-Err-clause-why
returns-in-Err-clause-why g c = header_error c.args.module.now _ c.in-Err.ensures.cause c.wrong_at.ensures.short (λ l. c.wrong_at.ensures.wrong l c.in-Err.ensures.none)
