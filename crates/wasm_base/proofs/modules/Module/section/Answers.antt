use Rattle.wasm_base.proofs.Std.{subst}
use Rattle.wasm_base.specs.{DecodesOneMore}
use Rattle.wasm_base.proofs.ModuleLaws.{one_more_section}
use Rattle.wasm_base.proofs.Outcomes.{on_ok_both}
use Rattle.wasm_base.proofs.modules.Module.section.Goals as goal

pub returns-clause-read : goal.returns-clause-read
returns-clause-read g c =
    let s = c.args.section.now in
    on_ok_both c.append_to.result _ _ _ c.append_to.ensures.appends.ok c.append_to.ensures.appends.was_encodable
    (λ added encodable. subst (λ old. DecodesOneMore (g.S.Section.payload s) (g.S.Section.id_of s) old c.append_to.new.dst.items) c.self.view_is
    (one_more_section (g.S.Section.payload s) (g.S.Section.id_of s) (g.S.Encode.encoding s) c.self.inside.bytes.items c.append_to.new.dst.items added (λ payload pays. g.met.S.Section.sized s payload encodable pays)))
