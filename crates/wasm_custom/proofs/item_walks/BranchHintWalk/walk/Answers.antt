use Rattle.wasm_base.proofs.Words.{◌<◌, [], ◌∷◌, u32, byte, prefixed, such, fault_stays, if_ok_more, if_err_more}
use Rattle.wasm_base.proofs.WalkLaws.{mapped_walks, pair_walks}
use Rattle.wasm_custom.specs.Hints.{hint_of}
use Rattle.wasm_custom.proofs.HintLaws.{hint_none, hint_rejects}
use Rattle.wasm_custom.proofs.item_walks.BranchHintWalk.walk.Goals as goal

pub returns-in_err-after-clause-none : goal.returns-in_err-after-clause-none
returns-in_err-after-clause-none g c = fault_stays c.from_residual.result _ c.from_residual.ensures.1 λ n. hint_none c.args.bytes.now (c.in_err-after.ensures.none n)

pub returns-clause-found : goal.returns-clause-found
returns-clause-found g c = if_ok_more c.walk_marked.result (λ rest h. mapped_walks hint_of (pair_walks u32 (prefixed (0x01 ∷ []) (such (λ b. b < 128) byte)) c.in_ok-after.ensures.found h)) c.walk_marked.ensures.found

pub returns-clause-none : goal.returns-clause-none
returns-clause-none g c = if_err_more c.walk_marked.result (λ e none n. hint_rejects c.args.bytes.now _ _ c.in_ok-after.ensures.found.decoded (none n)) c.walk_marked.ensures.none
