use Rattle.wasm_base.proofs.Words.{sym, ◌∙◌, inr, eqb-true, eqb-false, fault_stays, whole_decodes, whole_more, whole_rejects}
use Rattle.wasm_insn.specs.{parts_of, arguments}
use Rattle.wasm_insn.proofs.PlainLaws.{arguments_unambiguous}
use Rattle.wasm_insn.proofs.operands.decode_encoded.Goals as goal

pub returns-in_err-args-clause-none : goal.returns-in_err-args-clause-none
returns-in_err-args-clause-none g c = fault_stays c.from_residual.result _ c.from_residual.ensures.1 λ n. inr (whole_rejects (arguments (parts_of c.args.shape)) c.args.bytes.now (c.in_err-args.ensures.none n))

pub returns-then-is_empty-clause-found : goal.returns-then-is_empty-clause-found
returns-then-is_empty-clause-found g c = whole_decodes (arguments (parts_of c.args.shape)) c.args.bytes.now c.in_ok-args.rest.now _ c.in_ok-args.ensures.found (eqb-true _ _ (sym c.is_empty.ensures ∙ c.if-is_empty.true))

pub returns-else-is_empty-clause-none : goal.returns-else-is_empty-clause-none
returns-else-is_empty-clause-none g c = λ n.
    inr (whole_more (arguments (parts_of c.args.shape)) c.args.bytes.now c.in_ok-args.rest.now _ (arguments_unambiguous (parts_of c.args.shape)) c.in_ok-args.ensures.found (eqb-false _ _ (sym c.is_empty.ensures ∙ c.if-is_empty.false)))
