use Rattle.wasm_insn.proofs.TableRows.{instruction_row}
use Rattle.wasm_insn.proofs.laws.rows.Goals as goal

pub returns : goal.returns
returns g c i = instruction_row i
