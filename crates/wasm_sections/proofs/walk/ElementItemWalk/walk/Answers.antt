use Rattle.wasm_base.proofs.Words.{subst, fault_stays, padded_of, Rejects}
use Rattle.wasm_sections.specs.{elements_as, element_flag_view}
use Rattle.wasm_sections.proofs.ElementLaws.{element_none, element_no_segment_mode, element_no_list}
use Rattle.wasm_sections.proofs.WalkItems.{code_taken, element_walks}
use Rattle.wasm_sections.proofs.walk.ElementItemWalk.walk.Goals as goal

pub returns-in_err-flag-clause-none : goal.returns-in_err-flag-clause-none
returns-in_err-flag-clause-none g c = fault_stays c.from_residual.result _ c.from_residual.ensures.1 λ n. element_none c.args.bytes.now (c.in_err-flag.ensures.none n)

pub returns-in_err-rest-clause-none : goal.returns-in_err-rest-clause-none
returns-in_err-rest-clause-none g c = fault_stays c.from_residual-in_err-rest.result _ c.from_residual-in_err-rest.ensures.1 λ n. element_no_segment_mode c.args.bytes.now _ (element_flag_view c.in_ok-flag.flag) c.in_ok-flag.ensures.found (c.in_err-rest.ensures.none n)

pub returns-in_err-rest-2-clause-none : goal.returns-in_err-rest-2-clause-none
returns-in_err-rest-2-clause-none g c = let flag = c.in_ok-flag.flag in
    let p = c.in_ok-rest.ensures.found in
    fault_stays c.from_residual-in_err-rest-2.result _ c.from_residual-in_err-rest-2.ensures.1 λ n.
    element_no_list c.args.bytes.now _ _ (element_flag_view flag) p.value c.in_ok-flag.ensures.found p.decoded (subst (λ t. Rejects (elements_as t flag.expressions) (padded_of g.G.Grammar.grammar) c.in_ok-rest.rest.now) c.has_kind.ensures (c.in_err-rest-2.ensures.none n))

pub returns-clause-found : goal.returns-clause-found
returns-clause-found g c = element_walks (element_flag_view c.in_ok-flag.flag) c.has_kind.result c.in_ok-flag.ensures.found (code_taken c.code.ensures c.in_ok-put.ensures.ok) c.in_ok-rest.ensures.found c.has_kind.ensures c.in_ok-rest-2.ensures.found
