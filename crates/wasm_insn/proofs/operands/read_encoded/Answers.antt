use Rattle.wasm_insn.proofs.Common.{◌≡◌, ◌++◌, subst, sym, padded_of, standard, arguments, parts_of, DecodesOperands, encoded_operand}
use Rattle.wasm_base.proofs.Words.{◌-◌, length, drop}
use Rattle.wasm_insn.specs.declared.operands.Operands.TheVariants.{Encoded}
use Rattle.wasm_insn.proofs.operands.read_encoded.Goals as goal

pub returns-clause-found : goal.returns-clause-found
returns-clause-found g c =
    let xs = c.in_ok-rest.ensures.found in
    let kept = Encoded c.args.shape c.split_at.result.0 in
    subst (DecodesOperands (parts_of c.args.shape) (padded_of g.G.Grammar.grammar) c.args.bytes.now kept) (sym c.split_at.ensures.back)
    (encoded_operand g.G.Grammar.grammar c.args.shape c.args.bytes.now c.in_ok-rest.rest.now xs.value kept c.requires xs.decoded (λ e. (e.0, subst (λ s. arguments (parts_of c.args.shape) standard s xs.value) (sym c.split_at.ensures.front) e.1))
    (λ e. subst (λ s. c.args.bytes.now ≡ s ++ drop (length c.args.bytes.now - length c.in_ok-rest.rest.now) c.args.bytes.now) (sym c.split_at.ensures.front) e))
