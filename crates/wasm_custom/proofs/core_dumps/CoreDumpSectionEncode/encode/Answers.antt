use Rattle.wasm_custom.proofs.Common.{refl, ◌∙◌, core_name, process_back, encodable_of}
use Rattle.wasm_custom.proofs.core_dumps.CoreDumpSectionEncode.encode.Goals as goal

pub returns-clause-read : goal.returns-clause-read
returns-clause-read g c = process_back c.args.self.now (encodable_of core_name c.args.self.now core_name c.as_slice-data.result.now _ refl (c.as_slice-data.ensures.value ∙ c.self.view_is) refl c.in_ok-begin_custom.ensures.was_encodable)
