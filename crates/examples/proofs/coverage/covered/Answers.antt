use Rattle.std.proofs.Common.{rules}
use Rattle.std.proofs.lemmas.List.{length-replicate}
use Rattle.wasm_base.proofs.Words.{◌+◌, ◌<◌, ◌^◌, arith, length, refl, replicate, size_prefixed, subst, sym}
use Rattle.wasm_code.proofs.Words.{body}
use Rattle.wasm_remap.specs.Begun.{InsertsCode}
use Rattle.wasm_sections.proofs.Words.{export, exports_section, global_item, globals_section}
use Rattle.examples.specs.Coverage.{GainsAtEnd, IsUnfit, counter, counter_exports, counting}
use Rattle.examples.proofs.CoverageLaws.{Each, IsDecoded, code_explained, each_item, each_stays, exports_long, gains_at_end, insert_explained, is_covered, not_coverable, passed_on}
use Rattle.examples.proofs.coverage.covered.Goals as goal

pub returns-in_err-numbers-clause-unfit : goal.returns-in_err-numbers-clause-unfit
returns-in_err-numbers-clause-unfit g c = passed_on c.from_residual.result c.from_residual.ensures.1 (λ y e u d. not_coverable _ c.in_err-numbers.ensures.why (subst IsUnfit e u) d)

pub returns-in_err-with_globals-clause-why : goal.returns-in_err-with_globals-clause-why
returns-in_err-with_globals-clause-why g c = passed_on c.from_residual-in_err-with_globals.result c.from_residual-in_err-with_globals.ensures.1 (λ y is.
    let n = c.in_ok-numbers.ensures.found in
    let number = c.in_ok-numbers.numbers.bodies in
    let small : number < 2 ^ 32 = search rules in
    let few : length (replicate number counter) < 2 ^ 32 = subst (λ k. k < 2 ^ 32) (sym (length-replicate number counter)) small in
    let each = each_item global_item 6 n.sections n.numbers.items.globals n.read n.numbers.has_items.globals in
    insert_explained _ c.args.bytes.now 6 c.in_ok-globals.globals (replicate number counter) _ y each c.in_ok-globals.ensures few (c.in_err-with_globals.ensures.why _ refl) is)

pub returns-in_err-with_exports-clause-why : goal.returns-in_err-with_exports-clause-why
returns-in_err-with_exports-clause-why g c = passed_on c.from_residual-in_err-with_exports.result c.from_residual-in_err-with_exports.ensures.1 (λ y is.
    let n = c.in_ok-numbers.ensures.found in
    let m = c.in_ok-numbers.numbers in
    let globals = gains_at_end globals_section 6 c.in_ok-globals.globals (replicate m.bodies counter) refl c.in_ok-with_globals.ensures.fits c.in_ok-globals.ensures (c.in_ok-with_globals.ensures.inserts _ refl) in
    let small : m.bodies < 2 ^ 32 = search rules in
    let few : length (counter_exports m.function m.counter m.bodies) < 2 ^ 32 = subst (λ k. k < 2 ^ 32) (sym (exports_long m.bodies m.function m.counter)) small in
    let each = each_stays (each_item export 7 n.sections n.numbers.items.exports n.read n.numbers.has_items.exports) (λ e. omega (arith, e)) globals.gains in
    insert_explained _ c.args.bytes.now 7 c.in_ok-exports.exports (counter_exports m.function m.counter m.bodies) _ y (subst (Each 7 (IsDecoded export)) (sym c.deref.ensures.value) each) c.in_ok-exports.ensures few (c.in_err-with_exports.ensures.why _ refl) is)

pub returns-in_err-insert_code-clause-why : goal.returns-in_err-insert_code-clause-why
returns-in_err-insert_code-clause-why g c = passed_on c.from_residual-in_err-insert_code.result c.from_residual-in_err-insert_code.ensures.1 (λ y is.
    let n = c.in_ok-numbers.ensures.found in
    let m = c.in_ok-numbers.numbers in
    let globals = gains_at_end globals_section 6 c.in_ok-globals.globals (replicate m.bodies counter) refl c.in_ok-with_globals.ensures.fits c.in_ok-globals.ensures (c.in_ok-with_globals.ensures.inserts _ refl) in
    let exports = gains_at_end exports_section 7 c.in_ok-exports.exports (counter_exports m.function m.counter m.bodies) refl c.in_ok-with_exports.ensures.fits c.in_ok-exports.ensures (c.in_ok-with_exports.ensures.inserts _ refl) in
    let first = each_stays (each_item (size_prefixed body) 10 n.sections n.numbers.items.bodies n.read n.numbers.has_items.bodies) (λ e. omega (arith, e)) globals.gains in
    let second = each_stays (subst (Each 10 (IsDecoded (size_prefixed body))) (sym c.deref.ensures.value) first) (λ e. omega (arith, e)) exports.gains in
    code_explained c.args.bytes.now _ y (subst (Each 10 (IsDecoded (size_prefixed body))) (sym c.deref-2.ensures.value) second) c.in_err-insert_code.ensures.why is)

pub returns-clause-found : goal.returns-clause-found
returns-clause-found g c =
    let m = c.in_ok-numbers.numbers in
    let globals = gains_at_end globals_section 6 c.in_ok-globals.globals (replicate m.bodies counter) refl c.in_ok-with_globals.ensures.fits c.in_ok-globals.ensures (c.in_ok-with_globals.ensures.inserts _ refl) in
    let exports = gains_at_end exports_section 7 c.in_ok-exports.exports (counter_exports m.function m.counter m.bodies) refl c.in_ok-with_exports.ensures.fits c.in_ok-exports.ensures (c.in_ok-with_exports.ensures.inserts _ refl) in
    let after_globals = subst (λ b. GainsAtEnd 7 export (counter_exports m.function m.counter m.bodies) b c.in_ok-with_exports.with_exports.items) c.deref.ensures.value exports in
    is_covered c.in_ok-numbers.ensures.found globals after_globals (subst (λ b. InsertsCode (λ i. counting (m.counter + i)) b c.in_ok-insert_code.field-0.items) c.deref-2.ensures.value c.in_ok-insert_code.ensures.ok)
