use Rattle.wasm_base.proofs.Words.{arith, ints, replicate_more, subst}
use Rattle.wasm_code.proofs.Words.{one_constant}
use Rattle.wasm_sections.proofs.Words.{adds_global, new_globals}
use Rattle.wasm_sections.specs.Globals.{ContainsGlobals}
use Rattle.examples.specs.Coverage.{counter}
use Rattle.examples.proofs.coverage.counters.counters.Goals as goal

pub loop-done-init : goal.loop-done-init
loop-done-init g c = new_globals c.new-section.ensures

pub loop-done-preserved : goal.loop-done-preserved
loop-done-preserved g c =
    let stored = one_constant c.in_ok-zero.ensures.stores ((omega (arith, ints), omega (arith, ints)), tt) in
    subst (ContainsGlobals c.global.new.self) (replicate_more c.loop-done._done counter) (adds_global c.loop-done.invariant counter _ c.in_ok-global.ensures.ok tt stored)
