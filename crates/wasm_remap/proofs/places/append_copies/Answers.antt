use Rattle.wasm_base.proofs.Words.{◌≡◌, ◌++◌, subst, sym, ap, map, DecodesOneMore, DecodesWhole, wasm_module}
use Rattle.std.proofs.Common.{rules}
use Rattle.std.proofs.lemmas.List.{take_all}
use Rattle.wasm_remap.specs.Places.{copied, sections_in}
use Rattle.wasm_remap.proofs.PlaceLaws.{appended_more}
use Rattle.wasm_remap.proofs.places.append_copies.Goals as goal

pub loop-section-preserved : goal.loop-section-preserved
loop-section-preserved g c =
    let old = c.loop-section.module in
    let new = c.section.new.self in
    let s = c.section-item.result in
    let read : DecodesOneMore (λ q. q ≡ c.payload.result.now) s.section.id old new = subst (λ i. DecodesOneMore (λ q. q ≡ c.payload.result.now) i old new) c.id.ensures c.in_ok-section.ensures.read in
    appended_more c.args.sections.now c.loop-section.section-index s c.loop-section-test.true (search rules) c.loop-section.invariant (subst (λ p. DecodesOneMore (λ q. q ≡ p) s.section.id old new) c.payload.ensures.value read)

pub returns-clause-ok : goal.returns-clause-ok
returns-clause-ok g c = λ before read. subst (λ z. DecodesWhole wasm_module c.loop-section.module (before ++ map copied (sections_in z))) (take_all c.loop-section.section-index c.args.sections.now c.loop-section-test.false) (c.loop-section.invariant before read)
