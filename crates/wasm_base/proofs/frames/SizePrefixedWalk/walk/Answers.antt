use Rattle.wasm_base.proofs.Std.{◌∙◌}
use Rattle.wasm_base.proofs.Faults.{fault_stays}
use Rattle.wasm_base.proofs.DecodeSizePrefixed.{filled_none, filled_rejects}
use Rattle.wasm_base.proofs.WalkLaws.{is_marked, sized_walks}
use Rattle.wasm_base.proofs.frames.SizePrefixedWalk.walk.Goals as goal

pub returns-in_err-content-clause-none : goal.returns-in_err-content-clause-none
returns-in_err-content-clause-none g c = fault_stays c.from_residual.result _ c.from_residual.ensures.1 λ n. filled_none _ c.args.bytes.now (c.in_err-content.ensures.none n)

pub returns-in-Err-clause-none : goal.returns-in-Err-clause-none
returns-in-Err-clause-none g c = λ n. filled_rejects g.T.Layout.format c.args.bytes.now _ _ c.in_ok-content.ensures.found (c.in-Err.ensures.none λ k. n (c.before-in-Err.ensures.cause ∙ k))

pub prefix_size-requires : goal.prefix_size-requires
prefix_size-requires g c = is_marked g.E.Effect.seen g.E.Effect.mark c.position-start.result _ _ g.E.Effect.some c.position-start.ensures c.in-Ok.ensures.front

pub returns-clause-found : goal.returns-clause-found
returns-clause-found g c = sized_walks g.E.Effect.seen g.E.Effect.mark c.position-start.result _ _ _ g.G.Grammar.grammar g.T.Layout.format c.args.bytes.now _ _ c.laws.ensures.encodings c.in_ok-content.ensures.found c.position-start.ensures c.in-Ok.ensures.found c.in_ok-prefix_size.ensures.ok
