use Rattle.std.proofs.Common.{ap, pos, rules}
use Rattle.wasm_base.proofs.Words.{arith, ints, ◌<◌, ◌^◌}
use Rattle.wasm_insn.specs.declared.instruction.Instruction.TheVariants.{GlobalGet, GlobalSet, I32Const, Numeric}
use Rattle.wasm_insn.specs.declared.numeric.Numeric.TheVariants.{I32Add}
use Rattle.examples.proofs.CoverageLaws.{counts_at, gains_instruction, gains_last, gains_nothing}
use Rattle.examples.proofs.coverage.counters.CountingPrologue.append.Goals as goal

pub returns : goal.returns
returns g c =
    let index = c.in-Some.counter in
    let fits : index < 2 ^ 32 = omega (arith, c.in-Some.ensures.0, c.in-Some.ensures.1) in
    let s1 = gains_instruction (GlobalGet index) (gains_nothing (ap (λ v. v.items) c.new-sink.ensures.same)) c.in_ok-global_get.ensures.writes.bytes (fits, tt) in
    let s2 = gains_instruction (I32Const (pos 1)) s1 c.in_ok-i32_const.ensures.writes.bytes ((omega (arith, ints), omega (arith, ints)), tt) in
    let s3 = gains_instruction (Numeric I32Add) s2 c.in_ok-i32_add.ensures.writes.bytes tt in
    counts_at _ _ c.global_set.result c.in-Some.ensures.1 (gains_last (GlobalSet index) c.global_set.result s3 c.global_set.ensures.writes.bytes (search rules) (fits, tt))
