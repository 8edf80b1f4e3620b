use Rattle.wasm_reader.proofs.Common.{arith, ◌∙◌, shorter, shortened}
use Rattle.wasm_reader.proofs.minimal.shorten_in.Goals as goal

pub overflow_sub-result : goal.overflow_sub-result
overflow_sub-result g c = shorter c.in-Ok.ensures.found.decoded

pub returns-in-Ok-clause-ok : goal.returns-in-Ok-clause-ok
returns-in-Ok-clause-ok g c = shortened _ c.args.kind c.args.bytes.now c.in-Ok.rest.now _ _ _ c.in-Ok.ensures.found (omega (arith, shorter c.in-Ok.ensures.found.decoded))

pub returns-in-Err-clause-none : goal.returns-in-Err-clause-none
returns-in-Err-clause-none g c = λ n. c.in-Err.ensures.none (λ e. n (c.cause.ensures ∙ e))
