use Rattle.examples.proofs.Common.{[], refl, new_code, adds_body, cut_none, cut_gains}
use Rattle.wasm_code.specs.Code.{EncodesBodies}
use Rattle.examples.proofs.joined.code.Goals as goal

pub returns : goal.returns
returns g c =
    let none = cut_none {P = λ entries. EncodesBodies entries []} c.new-section.ensures (new_code refl) in
    cut_gains none c.in_ok-function.ensures.ok (λ entries holds. adds_body {bodies = []} holds refl c.in_ok-sum.ensures)
