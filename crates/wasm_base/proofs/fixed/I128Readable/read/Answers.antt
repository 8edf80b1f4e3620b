use Rattle.wasm_base.proofs.Std.{◌∙◌, to_z-of_z, arith, rules, w128}
use Rattle.wasm_base.proofs.DecodeFixed.{are_bytes, sixteen_read}
use Rattle.wasm_base.proofs.fixed.I128Readable.read.Goals as goal

pub returns-in-Some-clause-found : goal.returns-in-Some-clause-found
returns-in-Some-clause-found g c =
    let cases = c.in-Some.ensures.cases in
    sixteen_read _ c.args.bytes.now c.in-Some.front.now c.in-Some.rest.now (are_bytes c.args.bytes.now (λ k. omega (arith, c.type_inv.bytes k))) cases.0 cases.1 (omega (arith, cases.2)) (to_z-of_z {w = w128} (search rules) ∙ c.from_le_bytes.ensures)
