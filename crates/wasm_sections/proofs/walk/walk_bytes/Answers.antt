use Rattle.wasm_base.proofs.Words.{fault_stays}
use Rattle.wasm_sections.proofs.DataLaws.{bytes_none}
use Rattle.wasm_sections.proofs.WalkItems.{segment_bytes_walk}
use Rattle.wasm_sections.proofs.walk.walk_bytes.Goals as goal

pub returns-in_err-content-clause-none : goal.returns-in_err-content-clause-none
returns-in_err-content-clause-none g c = fault_stays c.from_residual.result _ c.from_residual.ensures.1 λ n. bytes_none c.args.bytes.now (c.in_err-content.ensures.none n)

pub returns-clause-found : goal.returns-clause-found
returns-clause-found g c = segment_bytes_walk g.E.Effect.seen g.G.Grammar.grammar c.in_ok-content.content.now c.args.bytes.now c.in_ok-content.rest.now _ _ c.in_ok-content.ensures.found c.in_ok-put.ensures.ok
