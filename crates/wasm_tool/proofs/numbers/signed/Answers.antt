use Rattle.wasm_tool.proofs.Common.{Ok, Err, refl, subst, arith, ParsesSigned, to_z-of_z, signed_of-parse}
use mir.Syntax.{w32}
use Rattle.wasm_tool.proofs.numbers.signed.Goals as goal

pub returns-in_default : goal.returns-in_default
returns-in_default c =
    let same = c.in_ok-numeral.ensures in
    let parsed = subst (λ word. ParsesSigned w32 10 word (Err c.in_default.field-0)) same.0 c.in_default.ensures.value.0 in
    (refl, signed_of-parse c.args.word.now (Err c.in_default.field-0) parsed same.1)

pub returns : goal.returns
returns c =
    let same = c.in_ok-numeral.ensures in
    let parsed = subst (λ word. ParsesSigned {E = Unit {0}} w32 10 word (Ok c.in-Ok.value)) same.0 c.in-Ok.ensures.value.0 in
    let said = signed_of-parse {E = Unit {0}} c.args.word.now (Ok c.in-Ok.value) parsed same.1 in
    grind (arith, to_z-of_z, said)
