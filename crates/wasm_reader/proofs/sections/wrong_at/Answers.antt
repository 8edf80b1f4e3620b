use Rattle.wasm_reader.proofs.DecodeModules.{first_wrong}
use Rattle.wasm_reader.proofs.sections.wrong_at.Goals as goal

pub returns-clause-wrong : goal.returns-clause-wrong
returns-clause-wrong c = λ long none. first_wrong c.args.bytes.now c.common_length.result c.common_length.ensures.inside c.common_length.ensures.same c.common_length.ensures.differs long none
