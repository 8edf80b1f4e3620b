use Rattle.wasm_insn.proofs.Common.{rules, subst, sym, to_z-of_z, w32, w64, fault_stays, padded_of, parts_of, DecodesOperands, memory_rejected, signed32_operand, signed32_rejected, signed64_operand, signed64_rejected}
use Rattle.wasm_insn.specs.declared.operands.Operands.TheVariants.{S32, S64}
use Rattle.wasm_insn.proofs.operands.read_operands.Goals as goal

pub returns-in_err-number-in-C32-clause-none : goal.returns-in_err-number-in-C32-clause-none
returns-in_err-number-in-C32-clause-none g c = fault_stays c.from_residual-in_err-number-in-C32.result _ c.from_residual-in_err-number-in-C32.ensures.1 λ n. signed32_rejected c.args.shape c.args.bytes.now c.in-C32.is (c.in_err-number-in-C32.ensures.none n)

pub returns-in_ok-number-in-C32-clause-found : goal.returns-in_ok-number-in-C32-clause-found
returns-in_ok-number-in-C32-clause-found g c =
    subst (λ z. DecodesOperands (parts_of c.args.shape) (padded_of g.G.Grammar.grammar) c.args.bytes.now (S32 z) c.in_ok-number-in-C32.rest.now) (sym (to_z-of_z {w = w32} (search rules)))
    (signed32_operand c.args.shape c.args.bytes.now _ _ c.in-C32.is c.in_ok-number-in-C32.ensures.found)

pub returns-in_err-number-in-C64-clause-none : goal.returns-in_err-number-in-C64-clause-none
returns-in_err-number-in-C64-clause-none g c = fault_stays c.from_residual-in_err-number-in-C64.result _ c.from_residual-in_err-number-in-C64.ensures.1 λ n. signed64_rejected c.args.shape c.args.bytes.now c.in-C64.is (c.in_err-number-in-C64.ensures.none n)

pub returns-in_ok-number-in-C64-clause-found : goal.returns-in_ok-number-in-C64-clause-found
returns-in_ok-number-in-C64-clause-found g c =
    subst (λ z. DecodesOperands (parts_of c.args.shape) (padded_of g.G.Grammar.grammar) c.args.bytes.now (S64 z) c.in_ok-number-in-C64.rest.now) (sym (to_z-of_z {w = w64} (search rules)))
    (signed64_operand c.args.shape c.args.bytes.now _ _ c.in-C64.is c.in_ok-number-in-C64.ensures.found)

pub returns-in_err-memory-in-M-clause-none : goal.returns-in_err-memory-in-M-clause-none
returns-in_err-memory-in-M-clause-none g c = fault_stays c.from_residual-in_err-memory-in-M.result _ c.from_residual-in_err-memory-in-M.ensures.1 λ n. memory_rejected c.args.shape c.args.bytes.now c.in-M.is (c.in_err-memory-in-M.ensures.none n)
