use Rattle.wasm_insn.proofs.Common.{refl, stays_short, plain_at, formed_encodable}
use Rattle.wasm_insn.proofs.arguments.append_arguments.Goals as goal

pub returns-in_err-encode-clause-too_long : goal.returns-in_err-encode-clause-too_long
returns-in_err-encode-clause-too_long g c = λ h.
    stays_short c.from_residual.result _ _ refl c.from_residual.ensures.1 (c.in_err-encode.ensures.appends.too_long (formed_encodable _ (plain_at c.args.args.now c.loop-arg.arg-index c.arg-item.result c.loop-arg-test.true c.arg-item.is h)))
