use Rattle.wasm_reader.proofs.KindLaws.{no_kind}
use Rattle.std.proofs.Common.{arith}
use Rattle.wasm_reader.proofs.kinds.SectionKind.numbered.Goals as goal

pub returns-in_default : goal.returns-in_default
returns-in_default c = no_kind c.args.number (omega arith)
