use Rattle.wasm_insn.proofs.Common.{rules, ◌∙◌, arith, to_z-of_z, w16, w32, w64, short_memory, short_signed32, short_signed64}
use Rattle.wasm_insn.proofs.operands.read_short_operands.Goals as goal

pub returns-in_ok-byte-in-C32 : goal.returns-in_ok-byte-in-C32
returns-in_ok-byte-in-C32 g c =
    short_signed32 g.G.Grammar.grammar c.args.shape c.args.bytes.now c.in_ok-byte-in-C32.rest.now c.in_ok-byte-in-C32.byte _ c.in-C32.is c.in_ok-byte-in-C32.ensures.first c.in_ok-byte-in-C32.ensures.small
    (to_z-of_z {w = w32} (search rules) ∙ c.from-in-C32.ensures ∙ to_z-of_z {w = w16} (search rules) ∙ c.signed_byte.ensures)

pub returns-in_ok-byte-in-C64 : goal.returns-in_ok-byte-in-C64
returns-in_ok-byte-in-C64 g c =
    short_signed64 g.G.Grammar.grammar c.args.shape c.args.bytes.now c.in_ok-byte-in-C64.rest.now c.in_ok-byte-in-C64.byte _ c.in-C64.is c.in_ok-byte-in-C64.ensures.first c.in_ok-byte-in-C64.ensures.small
    (to_z-of_z {w = w64} (search rules) ∙ c.from-in-C64.ensures ∙ to_z-of_z {w = w16} (search rules) ∙ c.signed_byte-in-C64.ensures)

pub returns-in_ok-offset-in-M : goal.returns-in_ok-offset-in-M
returns-in_ok-offset-in-M g c =
    short_memory g.G.Grammar.grammar c.args.shape c.args.bytes.now c.in_ok-align-in-M.rest.now c.in_ok-align-in-M.align c.in_ok-offset-in-M.rest.now c.in_ok-offset-in-M.offset _ _
    c.in-M.is c.in_ok-align-in-M.ensures.first (omega (arith, c.if-align-ge16.false)) c.in_ok-offset-in-M.ensures.first c.in_ok-offset-in-M.ensures.small c.from-in-M-2.ensures c.from-in-M.ensures
