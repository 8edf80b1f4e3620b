use Rattle.wasm_insn.proofs.Common.{sym, ◌∙◌, arith, front_and_rest, short_operation}
use Rattle.wasm_insn.proofs.operands.read_short.Goals as goal

pub returns : goal.returns
returns g c =
    short_operation c.args.bytes.now _ c.in_ok-operands.rest.now _ c.in_ok-shape.shape c.in_ok-operands.operands
    (front_and_rest c.args.bytes.now c.in-len1-up.len_at_least) (omega (arith, c.if-byte-ge251.false)) (sym c.byte_shape.ensures ∙ c.in_ok-shape.was) c.in_ok-operands.ensures
