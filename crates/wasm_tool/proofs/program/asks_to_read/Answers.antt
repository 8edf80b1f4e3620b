use Rattle.wasm_tool.proofs.Common.{◌∙◌, sym, ap, get_or, string_bytes, slice_eq-Decides, unsigned_Decides, one_member}
use Rattle.wasm_tool.proofs.program.asks_to_read.Goals as goal

pub returns : goal.returns
returns g c =
    let is_read = slice_eq-Decides unsigned_Decides _ _ _ c.eq.ensures in (
      λ same. record {
        word = c.word-item.result;
        one = one_member c.args.args.now c.word-item.result c.in-len1.len_at_least c.in-len1.len_below c.word-item.is;
        is = sym c.as_str.ensures.value ∙ is_read.0 same;
      },
      λ asks. is_read.1 (c.as_str.ensures.value ∙ ap string_bytes (c.word-item.is ∙ ap (λ words. get_or words 0 c.word-item.result) asks.one) ∙ asks.is),
    )
