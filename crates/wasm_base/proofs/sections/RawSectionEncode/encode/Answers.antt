use Rattle.wasm_base.proofs.Outcomes.{on_ok}
use Rattle.wasm_base.proofs.EncodingLaws.{raw_section}
use Rattle.wasm_base.proofs.sections.RawSectionEncode.encode.Goals as goal

pub returns-clause-read : goal.returns-clause-read
returns-clause-read g c = on_ok c.encode_size_prefixed.result _ _ c.encode_size_prefixed.ensures.appends.was_encodable (raw_section c.args.self.now.bytes.now)
