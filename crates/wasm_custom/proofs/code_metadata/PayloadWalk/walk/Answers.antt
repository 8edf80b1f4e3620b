use Rattle.wasm_base.proofs.Words.{fault_stays, filled_none}
use Rattle.wasm_base.proofs.WalkLaws.{is_marked}
use Rattle.wasm_custom.proofs.code_metadata.PayloadWalk.walk.Goals as goal

pub returns-in_err-content-clause-none : goal.returns-in_err-content-clause-none
returns-in_err-content-clause-none g c = fault_stays c.from_residual.result _ c.from_residual.ensures.1 λ n. filled_none _ c.args.bytes.now (c.in_err-content.ensures.none n)

pub prefix_size-requires : goal.prefix_size-requires
prefix_size-requires g c = is_marked g.E.Effect.seen g.E.Effect.mark c.position-start.result _ _ g.E.Effect.some c.position-start.ensures c.in-Ok.ensures.front
