use Rattle.wasm_base.proofs.Words.{lit<, refl, starts_char}
use Rattle.wasm_tool.proofs.numbers.numeral.Goals as goal

pub returns-then-starts_with : goal.returns-then-starts_with
returns-then-starts_with c =
    let tells = starts_char 43 c.args.word.now c.starts_with.result c.starts_with.ensures.cases (lit< tt) (lit< tt) in
    (refl, tells.0 c.if-starts_with.true)

pub returns : goal.returns
returns c =
    let tells = starts_char 43 c.args.word.now c.starts_with.result c.starts_with.ensures.cases (lit< tt) (lit< tt) in
    (refl, λ e. let yes = tells.1 e in let no = c.if-starts_with.false in cc)
