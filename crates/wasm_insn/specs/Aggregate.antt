-- Written by tools/instructions from tools/instructions.tsv: do not edit.
-- This file defines the opcodes of the instructions of `Aggregate`.
use Rattle.std.specs.Prelude.{ℕ}
use Rattle.wasm_insn.specs.declared.aggregate.Aggregate.{Aggregate}
use Rattle.wasm_insn.specs.declared.aggregate.Aggregate.TheVariants as cases

-- The number of each instruction after the prefix FB.
abbrev pub aggregate_number : Aggregate → ℕ
aggregate_number cases.ArrayLen = 15
aggregate_number cases.AnyConvertExtern = 26
aggregate_number cases.ExternConvertAny = 27
aggregate_number cases.RefI31 = 28
aggregate_number cases.I31GetS = 29
aggregate_number cases.I31GetU = 30
