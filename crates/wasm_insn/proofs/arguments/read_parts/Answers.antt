use Rattle.wasm_insn.proofs.Common.{padded_of, ◌+◌, ◌∷◌, [], ◌∙◌, ap, map, sym, subst, map-append, fault_stays, memory_stays, argument_view, HasArguments, arguments_start, arguments_step}
use Rattle.wasm_insn.proofs.Common.{arguments_fail, arguments_done}
use Rattle.wasm_insn.proofs.arguments.read_parts.Goals as goal

pub returns-in_err-arg-clause-none : goal.returns-in_err-arg-clause-none
returns-in_err-arg-clause-none g c = fault_stays c.from_residual.result _ c.from_residual.ensures.1 λ n.
    arguments_fail c.args.wanted.now c.args.bytes.now c.loop-part.part-index _ c.loop-part.rest.now (map argument_view c.loop-part.args.items) c.loop-part-test.true c.loop-part.invariant (c.in_err-arg.ensures.none n)

pub returns-in_err-push-clause-none : goal.returns-in_err-push-clause-none
returns-in_err-push-clause-none g c = memory_stays _ c.from_residual-in_err-push.result c.from_residual-in_err-push.ensures.1

pub loop-part-preserved : goal.loop-part-preserved
loop-part-preserved g c =
    let items = c.loop-part.args.items in
    subst (λ z. HasArguments c.args.wanted.now (padded_of g.G.Grammar.grammar) (c.loop-part.part-index + 1) c.args.bytes.now z c.in_ok-arg.after.now) (sym (ap (map argument_view) c.in_ok-push.ensures.items ∙ map-append argument_view items (c.in_ok-arg.arg ∷ [])))
    (arguments_step c.args.wanted.now c.args.bytes.now c.loop-part.part-index _ c.loop-part.rest.now c.in_ok-arg.after.now (map argument_view items) (argument_view c.in_ok-arg.arg) c.loop-part-test.true c.loop-part.invariant c.in_ok-arg.ensures.found)

pub returns-clause-found : goal.returns-clause-found
returns-clause-found g c = arguments_done c.args.wanted.now c.args.bytes.now c.loop-part.part-index c.loop-part.rest.now (map argument_view c.loop-part.args.items) c.loop-part-test.false c.loop-part.invariant

pub loop-part-init : goal.loop-part-init
loop-part-init g c = arguments_start c.args.wanted.now c.args.bytes.now (map argument_view c.args.args.now.items) (ap (map argument_view) c.requires)
