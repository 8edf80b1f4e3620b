use Rattle.wasm_insn.proofs.CaseLaws.{all_rows, is_case}
use Rattle.wasm_insn.proofs.laws.cases.Goals as goal

pub returns-clause-rows : goal.returns-clause-rows
returns-clause-rows g c given = all_rows given

pub returns-clause-each : goal.returns-clause-each
returns-clause-each g c i = is_case i
