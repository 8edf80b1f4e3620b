use Rattle.wasm_base.proofs.Words.{[], ◌∷◌, u32, pair, prefixed, vec, fault_stays, if_ok_more, if_err_more}
use Rattle.wasm_base.proofs.WalkLaws.{mapped_walks, pair_walks}
use Rattle.wasm_custom.specs.{stack_frame_of, value}
use Rattle.wasm_custom.proofs.CoreStackLaws.{frame_no_location, frame_no_lists}
use Rattle.wasm_custom.proofs.core_walks.CoreFrameWalk.walk.Goals as goal

pub returns-in_err-after-clause-none : goal.returns-in_err-after-clause-none
returns-in_err-after-clause-none g c = fault_stays c.from_residual.result _ c.from_residual.ensures.1 λ n. frame_no_location c.args.bytes.now (c.in_err-after.ensures.none n)

pub returns-clause-found : goal.returns-clause-found
returns-clause-found g c = if_ok_more c.walk.result (λ rest h. mapped_walks stack_frame_of (pair_walks (prefixed (0x00 ∷ []) (pair u32 (pair u32 u32))) (pair (vec value) (vec value)) c.in_ok-after.ensures.found h)) c.walk.ensures.found

pub returns-clause-none : goal.returns-clause-none
returns-clause-none g c = if_err_more c.walk.result (λ e none n. frame_no_lists c.args.bytes.now _ _ c.in_ok-after.ensures.found.decoded (none n)) c.walk.ensures.none
