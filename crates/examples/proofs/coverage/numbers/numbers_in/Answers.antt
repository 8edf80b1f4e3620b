use Rattle.std.proofs.Common.{refl, rules, subst, sym, ◌∙◌}
use Rattle.wasm_base.proofs.Words.{size_prefixed, vec}
use Rattle.wasm_code.proofs.Words.{body}
use Rattle.wasm_reader.specs.Kinds.{Bodies, Exports, Globals, Imports}
use Rattle.wasm_sections.proofs.Words.{export, global_item, import_format}
use Rattle.examples.specs.Coverage.{ExplainsSection}
use Rattle.examples.proofs.CoverageLaws.{bodies_numbers, exports_numbers, globals_numbers, imports_numbers, other_numbers, passed_on, rejected_at}
use Rattle.examples.proofs.coverage.numbers.numbers_in.Goals as goal

pub returns-in_err-imported_in-in-2-clause-why : goal.returns-in_err-imported_in-in-2-clause-why
returns-in_err-imported_in-in-2-clause-why g c = λ is. passed_on c.from_residual.result c.from_residual.ensures.1 (λ y e. subst (ExplainsSection c.args.section.now) (sym e) (λ n d.
    let id = sym c.id.ensures ∙ c.in-2.is in
    rejected_at (vec import_format) Imports 1 is id (λ x h. (x, refl, h)) (c.in_err-imported_in-in-2.ensures.none n) (d.imports id).0 (d.imports id).1))

pub returns-in_err-count_of-in-6-clause-why : goal.returns-in_err-count_of-in-6-clause-why
returns-in_err-count_of-in-6-clause-why g c = λ is. passed_on c.from_residual-in_err-count_of-in-6.result c.from_residual-in_err-count_of-in-6.ensures.1 (λ y e. subst (ExplainsSection c.args.section.now) (sym e) (λ n d.
    let id = sym c.id.ensures ∙ c.in-6.is in
    rejected_at (vec global_item) Globals 5 is id (λ x h. (x, refl, h)) (c.in_err-count_of-in-6.ensures.none n) (d.globals id).0 (d.globals id).1))

pub returns-in_err-names_counters-in-7-clause-why : goal.returns-in_err-names_counters-in-7-clause-why
returns-in_err-names_counters-in-7-clause-why g c = λ is. passed_on c.from_residual-in_err-names_counters-in-7.result c.from_residual-in_err-names_counters-in-7.ensures.1 (λ y e. subst (ExplainsSection c.args.section.now) (sym e) (λ n d.
    let id = sym c.id.ensures ∙ c.in-7.is in
    rejected_at (vec export) Exports 6 is id (λ x h. (x, refl, h)) (c.in_err-names_counters-in-7.ensures.none n) (d.exports id).0 (d.exports id).1))

pub returns-in_err-count_of-in-10-clause-why : goal.returns-in_err-count_of-in-10-clause-why
returns-in_err-count_of-in-10-clause-why g c = λ is. passed_on c.from_residual-in_err-count_of-in-10.result c.from_residual-in_err-count_of-in-10.ensures.1 (λ y e. subst (ExplainsSection c.args.section.now) (sym e) (λ n d.
    let id = sym c.id.ensures ∙ c.in-10.is in
    rejected_at (vec (size_prefixed body)) Bodies 9 is id (λ x h. (x, refl, h)) (c.in_err-count_of-in-10.ensures.none n) (d.bodies id).0 (d.bodies id).1))

pub returns-in_ok-imported_in-in-2-clause-found : goal.returns-in_ok-imported_in-in-2-clause-found
returns-in_ok-imported_in-in-2-clause-found g c = λ is.
    let id = sym c.id.ensures ∙ c.in-2.is in
    imports_numbers c.args.section.now.section is (sym c.has_offsets.ensures ∙ c.if-has_offsets.false) id (c.in_ok-imported_in-in-2.ensures.found is id)

pub returns-in_ok-count_of-in-6-clause-found : goal.returns-in_ok-count_of-in-6-clause-found
returns-in_ok-count_of-in-6-clause-found g c = λ is.
    let counted = c.in_ok-count_of-in-6.ensures.found in
    globals_numbers c.args.section.now.section is (sym c.has_offsets.ensures ∙ c.if-has_offsets.false) _ counted.0 (sym c.id.ensures ∙ c.in-6.is) counted.1 counted.2

pub returns-else-branch-clause-found : goal.returns-else-branch-clause-found
returns-else-branch-clause-found g c = λ is.
    let id = sym c.id.ensures ∙ c.in-7.is in
    let read = c.in_ok-names_counters-in-7.ensures.found is id in
    exports_numbers c.args.section.now.section is (sym c.has_offsets.ensures ∙ c.if-has_offsets.false) read.0 id read.1 (sym read.2 ∙ c.if-branch.false)

pub returns-in_ok-count_of-in-10-clause-found : goal.returns-in_ok-count_of-in-10-clause-found
returns-in_ok-count_of-in-10-clause-found g c = λ is.
    let counted = c.in_ok-count_of-in-10.ensures.found in
    bodies_numbers c.args.section.now.section is (sym c.has_offsets.ensures ∙ c.if-has_offsets.false) _ counted.0 (sym c.id.ensures ∙ c.in-10.is) counted.1 counted.2

pub returns-in_default-clause-found : goal.returns-in_default-clause-found
returns-in_default-clause-found g c = λ is.
    other_numbers c.args.section.now.section is (sym c.has_offsets.ensures ∙ c.if-has_offsets.false) (search rules) (search rules) (search rules) (search rules)
