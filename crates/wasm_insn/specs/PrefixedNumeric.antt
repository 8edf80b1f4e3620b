-- Written by tools/instructions from tools/instructions.tsv: do not edit.
-- This file defines the opcodes of the instructions of `PrefixedNumeric`.
use Rattle.std.specs.Prelude.{ℕ}
use Rattle.wasm_insn.specs.declared.prefixed_numeric.PrefixedNumeric.{PrefixedNumeric}
use Rattle.wasm_insn.specs.declared.prefixed_numeric.PrefixedNumeric.TheVariants as cases

-- The number of each instruction after the prefix FC.
abbrev pub prefixed_numeric_number : PrefixedNumeric → ℕ
prefixed_numeric_number cases.I32TruncSatF32S = 0
prefixed_numeric_number cases.I32TruncSatF32U = 1
prefixed_numeric_number cases.I32TruncSatF64S = 2
prefixed_numeric_number cases.I32TruncSatF64U = 3
prefixed_numeric_number cases.I64TruncSatF32S = 4
prefixed_numeric_number cases.I64TruncSatF32U = 5
prefixed_numeric_number cases.I64TruncSatF64S = 6
prefixed_numeric_number cases.I64TruncSatF64U = 7
prefixed_numeric_number cases.I64Add128 = 19
prefixed_numeric_number cases.I64Sub128 = 20
prefixed_numeric_number cases.I64MulWideS = 21
prefixed_numeric_number cases.I64MulWideU = 22
