use Rattle.wasm_reader.proofs.Common.{◌+◌, refl, sym, ap, ◌∙◌, keeps, CodeAndData, Relocated, Module, tally_more}
use Rattle.wasm_reader.proofs.whole.Tally.and.Goals as goal

pub returns-clause-tallied : goal.returns-clause-tallied
returns-clause-tallied c ws w h same how changed level =
    let number = ap (λ z. z + 1) (sym h.sections) in
    tally_more ws w c.args.self _ h refl
    (ap (λ z. c.args.self.kept + z) (c.keeps.ensures.value ∙ ap keeps how))
    (c.and.ensures ws w (h.found CodeAndData) number same changed level)
    (c.and-2.ensures ws w (h.found Relocated) number same changed level)
    (c.and-3.ensures ws w (h.found Module) number same changed level)
