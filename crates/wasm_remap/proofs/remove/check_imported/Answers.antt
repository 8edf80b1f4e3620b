use Rattle.std.proofs.Common.{◌≡◌, false, sym, ◌∙◌, arith}
use Rattle.wasm_remap.specs.Removed.{is_removed}
use Rattle.wasm_remap.proofs.RemovedLaws.{below_more}
use Rattle.wasm_remap.proofs.remove.check_imported.Goals as goal

pub loop-index-preserved : goal.loop-index-preserved
loop-index-preserved c = below_more (λ n. is_removed c.args.removed.now n ≡ false) c.loop-index.index c.loop-index.invariant (sym c.is_removed.ensures ∙ c.if-is_removed.false)

pub returns-clause-ok : goal.returns-clause-ok
returns-clause-ok c n lt = c.loop-index.invariant n (omega (arith, lt, c.loop-index-test.false))
