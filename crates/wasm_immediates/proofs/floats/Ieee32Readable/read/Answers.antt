use Rattle.wasm_base.proofs.Words.{◌∙◌, arith, are_bytes, four_read}
use Rattle.wasm_immediates.proofs.floats.Ieee32Readable.read.Goals as goal

pub returns-in-Some-clause-found : goal.returns-in-Some-clause-found
returns-in-Some-clause-found g c =
    let cases = c.in-Some.ensures.cases in
    four_read _ c.args.bytes.now c.in-Some.front.now c.in-Some.rest.now (are_bytes c.args.bytes.now (λ k. omega (arith, c.type_inv.bytes k))) cases.0 cases.1 (omega (arith, cases.2)) (c.new.ensures ∙ c.from_le_bytes.ensures)
