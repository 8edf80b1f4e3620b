use Rattle.wasm_sections.specs.Imports.{imports_item}
use Rattle.wasm_remap.proofs.CountedImports.{imported_more, imported_prefix}
use Rattle.std.proofs.Common.{arith, ◌+◌}
use Rattle.wasm_remap.proofs.imports.imported.Goals as goal

pub loop-entry-preserved : goal.loop-entry-preserved
loop-entry-preserved g c =
    let e = imported_more c.args.space imports_item c.args.entries.now c.loop-entry.entry-index c.entry-item.result c.loop-entry-test.true c.entry-item.is in
    omega (arith, c.in_ok-count.ensures.1, c.in-Ok.ensures.1, c.imported_from.ensures, c.loop-entry.invariant, e)

pub returns-in_err-count-clause-above : goal.returns-in_err-count-clause-above
returns-in_err-count-clause-above g c = λ e small.
    let more = imported_more c.args.space imports_item c.args.entries.now c.loop-entry.entry-index c.entry-item.result c.loop-entry-test.true c.entry-item.is in
    let all = imported_prefix c.args.space imports_item c.args.entries.now (c.loop-entry.entry-index + 1) in
    omega (arith, c.in_err-count.ensures, c.in-Ok.ensures.1, c.imported_from.ensures, c.loop-entry.invariant, more, all, small)

pub returns-in_default-clause-above : goal.returns-in_default-clause-above
returns-in_default-clause-above g c = λ e small.
    let more = imported_more c.args.space imports_item c.args.entries.now c.loop-entry.entry-index c.entry-item.result c.loop-entry-test.true c.entry-item.is in
    let all = imported_prefix c.args.space imports_item c.args.entries.now (c.loop-entry.entry-index + 1) in
    omega (arith, c.in_default.ensures, c.imported_from.ensures, more, all, small)
