use Rattle.std.proofs.Common.{◌≡◌, ap, drop, sym, subst, ◌∙◌}
use Rattle.std.proofs.lemmas.List.{drop_min}
use Rattle.wasm_remap.specs.Mapping.{Follows}
use Rattle.wasm_remap.specs.Places.{sections_in}
use Rattle.wasm_base.proofs.Words.{Err, inl, inr}
use Rattle.wasm_reader.specs.Outlines.{HasSections}
use Rattle.wasm_remap.proofs.ErrorLaws.{fails_with, if_err_more, too_long_explained}
use Rattle.wasm_remap.specs.Removed.{ExplainsRemoval, ImportsFunctions, IsTrimmed, IsUse, by_table, numbered}
use Rattle.wasm_remap.proofs.FirstLaws.{if_ok_more}
use Rattle.wasm_remap.proofs.ModuleLaws.{changes_each}
use Rattle.wasm_remap.proofs.RemovedLaws.{removal_explained, renumbers_follows}
use Rattle.wasm_remap.proofs.remove.remove_functions.Goals as goal

pub returns-clause-ok : goal.returns-clause-ok
returns-clause-ok g c =
    let removed = c.args.removed.now in
    let imported = c.in_ok-imported.imported in
    let table : c.deref-2.result.now ≡ numbered 0 removed = c.deref-2.ensures.value ∙ c.in_ok-indices.ensures.ok in
    let defined : c.split_at.result.1.now ≡ drop imported removed = c.split_at.ensures.back ∙ ap (λ k. drop k removed) c.min.ensures ∙ drop_min imported removed in
    if_ok_more c.change_module.result (λ new h. record {
      sections = sections_in c.in_ok-sections.sections.items;
      has = c.in_ok-sections.ensures.ok;
      imported = imported;
      imports = subst (λ list. ImportsFunctions (sections_in list) imported) c.deref.ensures.value c.in_ok-imported.ensures.ok;
      stay = c.in-Ok.ensures.ok;
      changes = λ m numbers.
          let follows = subst (λ t. Follows (by_table t) (IsUse t) m) (sym table) (renumbers_follows removed m numbers) in
          changes_each (λ s payload k. subst (λ flags. IsTrimmed removed flags m s payload) defined (k m follows)) h;
    }) c.change_module.ensures.ok

pub returns-in_err-imported-clause-why : goal.returns-in_err-imported-clause-why
returns-in_err-imported-clause-why g c =
    let has = subst (λ list. HasSections c.args.bytes.now (sections_in list)) (sym c.deref.ensures.value) c.in_ok-sections.ensures.ok in
    fails_with (ExplainsRemoval c.args.removed.now c.args.offsets c.args.bytes.now) c.from_residual-in_err-imported.result _ c.from_residual-in_err-imported.ensures.1 (inl (c.in_err-imported.ensures.why c.args.bytes.now has))

pub returns-in_err-indices-clause-why : goal.returns-in_err-indices-clause-why
returns-in_err-indices-clause-why g c =
    let imported = c.in_ok-imported.imported in
    let imports = subst (λ list. ImportsFunctions (sections_in list) imported) c.deref.ensures.value c.in_ok-imported.ensures.ok in
    fails_with (ExplainsRemoval c.args.removed.now c.args.offsets c.args.bytes.now) c.from_residual-in_err-indices.result _ c.from_residual-in_err-indices.ensures.1
    (inr (imported, record { sections = sections_in c.in_ok-sections.sections.items; has = c.in_ok-sections.ensures.ok; imports = imports }, inl (λ n lt. too_long_explained c.in_err-indices.field-0.0 (λ l e. c.in_err-indices.ensures.too_long l (ap Err e)) n lt)))

pub returns-clause-why : goal.returns-clause-why
returns-clause-why g c =
    let removed = c.args.removed.now in
    let imported = c.in_ok-imported.imported in
    let imports = subst (λ list. ImportsFunctions (sections_in list) imported) c.deref.ensures.value c.in_ok-imported.ensures.ok in
    let table : c.deref-2.result.now ≡ numbered 0 removed = c.deref-2.ensures.value ∙ c.in_ok-indices.ensures.ok in
    let defined : c.split_at.result.1.now ≡ drop imported removed = c.split_at.ensures.back ∙ ap (λ k. drop k removed) c.min.ensures ∙ drop_min imported removed in
    if_err_more c.change_module.result (λ e h. inr (imported, record { sections = sections_in c.in_ok-sections.sections.items; has = c.in_ok-sections.ensures.ok; imports = imports }, inr (removal_explained removed c.args.offsets c.args.bytes.now imported table defined e h))) c.change_module.ensures.why
