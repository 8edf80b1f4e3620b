use Rattle.wasm_insn.proofs.Common.{subst, if_ok_more, parts_of, AreOperands, encoded_same}
use Rattle.wasm_insn.proofs.operands.Operands.to_args.Goals as goal

pub returns-in-Encoded-clause-only : goal.returns-in-Encoded-clause-only
returns-in-Encoded-clause-only g c = if_ok_more c.decode_encoded.result (λ args found xs are. encoded_same (parts_of c.in-Encoded.shape) c.in-Encoded.bytes.now xs _ found (subst (λ s. AreOperands s xs) c.in-Encoded.is are).1) c.decode_encoded.ensures.found
