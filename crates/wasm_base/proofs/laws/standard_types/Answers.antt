use Rattle.wasm_base.proofs.RefTypeLaws.{two_parts}
use Rattle.wasm_base.proofs.laws.standard_types.Goals as goal

pub returns-clause-long : goal.returns-clause-long
returns-clause-long c = two_parts
