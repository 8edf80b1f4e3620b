use Rattle.wasm_tool.proofs.Common.{ap, ◌∙◌, refl, lit<, strip_suffix_char, stripped}
use Rattle.wasm_tool.proofs.words.without_return.Goals as goal

pub returns : goal.returns
returns c =
    let cut = strip_suffix_char 13 c.args.line.now c.strip_suffix.result c.strip_suffix.ensures.cases (lit< tt) in
    ap (λ r. r.now) c.unwrap_or.ensures ∙ stripped c.args.line.now c.strip_suffix.result cut c.args.line refl
