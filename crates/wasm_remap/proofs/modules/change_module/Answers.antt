use Rattle.wasm_base.proofs.Words.{sym, ◌∙◌}
use Rattle.wasm_reader.proofs.IteratingLaws.{next_error, next_section}
use Rattle.wasm_remap.proofs.ErrorLaws.{changed_malformed, fails_with, has_section, no_module_explained, section_explained}
use Rattle.wasm_remap.specs.Errors.{ExplainsChange, ExplainsModule}
use Rattle.wasm_remap.proofs.ModuleLaws.{changed_start, changed_out, changed_kept}
use Rattle.wasm_remap.proofs.modules.change_module.Goals as goal

pub loop-module-init : goal.loop-module-init
loop-module-init g c = changed_start _ _ _ _ c.in_ok-module.ensures.read

pub loop-module-preserved-in-LeaveOut : goal.loop-module-preserved-in-LeaveOut
loop-module-preserved-in-LeaveOut g c = changed_out c.loop-module.invariant (next_section c.in_ok-section-in-Some.was c.in-Some.ensures.steps) (sym c.has_offsets.ensures ∙ c.if-has_offsets.true) c.in-LeaveOut.is

pub loop-module-preserved : goal.loop-module-preserved
loop-module-preserved g c =
    let a = c.in_ok-append_changed.ensures.ok in
    changed_kept c.loop-module.invariant (next_section c.in_ok-section-in-Some.was c.in-Some.ensures.steps) (sym c.has_offsets.ensures ∙ c.if-has_offsets.false) a.1 a.2

pub returns-in_err-section-in-Some-clause-why : goal.returns-in_err-section-in-Some-clause-why
returns-in_err-section-in-Some-clause-why g c =
    let changes = g.C.Change.changes c.args.change.now in
    let explains = g.C.Change.explains c.args.change.now in
    let bytes = c.args.bytes.now in
    fails_with (ExplainsModule (ExplainsChange changes explains) c.args.offsets bytes) c.from_residual-in_err-section-in-Some.result _ c.from_residual-in_err-section-in-Some.ensures.1 (no_module_explained changes explains c.args.offsets bytes _ (λ n. changed_malformed bytes c.in_ok-sections.ensures.found c.loop-module.invariant (next_error c.in_err-section-in-Some.was c.in-Some.ensures.steps) n))

pub returns-in_err-append_changed-clause-why : goal.returns-in_err-append_changed-clause-why
returns-in_err-append_changed-clause-why g c =
    let change = c.args.change.now in
    let changes = g.C.Change.changes change in
    let explains = g.C.Change.explains change in
    let bytes = c.args.bytes.now in
    let s = c.in_ok-section-in-Some.section.section in
    let has = has_section bytes c.in_ok-sections.ensures.found c.loop-module.invariant (next_section c.in_ok-section-in-Some.was c.in-Some.ensures.steps) in
    let kept = sym c.has_offsets.ensures ∙ c.if-has_offsets.false in
    fails_with (ExplainsModule (ExplainsChange changes explains) c.args.offsets bytes) c.from_residual-in_err-append_changed.result _ c.from_residual-in_err-append_changed.ensures.1 (section_explained changes explains c.args.offsets bytes s _ (g.met.C.Change.no_offsets change s) has kept c.in_err-append_changed.ensures.why)
