use Rattle.wasm_base.proofs.Words.{rules, fault_stays, if_err_more, on_ok}
use Rattle.wasm_custom.proofs.RelocationLaws.{section_none, section_rejects}
use Rattle.wasm_custom.proofs.WalkCustoms.{relocations_walk}
use Rattle.wasm_custom.proofs.item_walks.walk_relocations.Goals as goal

pub returns-in_err-name-clause-none : goal.returns-in_err-name-clause-none
returns-in_err-name-clause-none g c = fault_stays c.from_residual.result _ c.from_residual.ensures.1 λ n. section_none c.args.bytes.now (c.in_err-name.ensures.none n)

pub returns-clause-none : goal.returns-clause-none
returns-clause-none g c = if_err_more c.walk_whole.result (λ e none n. section_rejects c.args.bytes.now _ _ c.in_ok-name.ensures.found (search rules) (none n)) c.walk_whole.ensures.none

pub returns-clause-found : goal.returns-clause-found
returns-clause-found g c = on_ok c.walk_whole.result _ _ c.walk_whole.ensures.found (λ h. relocations_walk g.E.Effect.seen g.G.Grammar.grammar c.in_ok-name.name.now c.args.bytes.now _ _ _ _ c.in_ok-name.ensures.found (search rules) c.in_ok-put.ensures.ok h)
