use Rattle.wasm_tool.proofs.Common.{Ok, Err, refl, subst, ParsesUnsigned, decimal_of-parse}
use Rattle.wasm_tool.proofs.numbers.number.Goals as goal

pub returns-in_default : goal.returns-in_default
returns-in_default c =
    let same = c.in_ok-numeral.ensures in
    let parsed = subst (λ word. ParsesUnsigned 64 10 word (Err c.in_default.field-0)) same.0 c.in_default.ensures.value.0 in
    (refl, decimal_of-parse 64 c.args.word.now (Err c.in_default.field-0) parsed same.1)

pub returns : goal.returns
returns c =
    let same = c.in_ok-numeral.ensures in
    let parsed = subst (λ word. ParsesUnsigned {E = Unit {0}} 64 10 word (Ok c.in-Ok.n)) same.0 c.in-Ok.ensures.value.0 in
    decimal_of-parse {E = Unit {0}} 64 c.args.word.now (Ok c.in-Ok.n) parsed same.1
