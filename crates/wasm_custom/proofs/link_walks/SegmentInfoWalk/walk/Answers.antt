use Rattle.wasm_base.proofs.WalkLaws.{mapped_walks}
use Rattle.wasm_base.proofs.Words.{if_ok_more, if_err_more, mapped_rejects}
use Rattle.wasm_custom.specs.{segment_of}
use Rattle.wasm_custom.proofs.link_walks.SegmentInfoWalk.walk.Goals as goal

pub returns-clause-found : goal.returns-clause-found
returns-clause-found g c = if_ok_more c.walk.result (λ rest h. mapped_walks segment_of h) c.walk.ensures.found

pub returns-clause-none : goal.returns-clause-none
returns-clause-none g c = if_err_more c.walk.result (λ e none n. mapped_rejects segment_of (none n)) c.walk.ensures.none
