use Rattle.wasm_insn.proofs.InstructionLaws.{unique, decodes, one_encoding}
use Rattle.wasm_insn.proofs.laws.instructions.Goals as goal

pub returns-clause-unique : goal.returns-clause-unique
returns-clause-unique g c = unique

pub returns-clause-plain : goal.returns-clause-plain
returns-clause-plain g c i = decodes i

pub returns-clause-one_encoding : goal.returns-clause-one_encoding
returns-clause-one_encoding g c i j = one_encoding i j
