use Rattle.wasm_base.proofs.Words.{front_then, front_encoded}
use Rattle.wasm_custom.proofs.core_stack.CoreFrameShorten.write_minimal.Goals as goal

pub returns-clause-front : goal.returns-clause-front
returns-clause-front g c =
    let numbers = front_then _ _ _ (front_then _ _ _ c.write_minimal.ensures.front c.write_minimal-2.ensures.front) c.write_minimal-3.ensures.front in
    let lists = front_then _ _ _ (front_encoded _ _ _ _ _ c.encode-2.ensures.appends) (front_encoded _ _ _ _ _ c.encode-3.ensures.appends) in
    front_then _ _ _ (front_encoded _ _ _ _ _ c.encode.ensures.appends) (front_then _ _ _ numbers lists)
