use Rattle.wasm_base.proofs.Std.{◌∙◌, to_z-of_z, rules, w16, w64}
use Rattle.wasm_base.proofs.DecodeNumbers.{s64_byte}
use Rattle.wasm_base.proofs.DecodingSteps.{front_and_rest}
use Rattle.wasm_base.proofs.leb128.I64Readable.read.Goals as goal

pub returns-then-b-lt128-clause-found : goal.returns-then-b-lt128-clause-found
returns-then-b-lt128-clause-found g c = s64_byte _ c.args.bytes.now _ _ _ (front_and_rest c.args.bytes.now c.in-len1-up.len_at_least) c.if-b-lt128.true (to_z-of_z {w = w64} (search rules) ∙ c.from.ensures ∙ to_z-of_z {w = w16} (search rules) ∙ c.signed_byte.ensures)
