use Rattle.wasm_base.proofs.Words.{front_then, front_encoded}
use Rattle.wasm_custom.proofs.core_dumps.InstanceItemsItemsAsTuple3U32VecU32VecU32.append_item.Goals as goal

pub returns-in_err-write_minimal-2-clause-front : goal.returns-in_err-write_minimal-2-clause-front
returns-in_err-write_minimal-2-clause-front g c =
    front_then _ _ _ (front_encoded _ _ _ _ _ c.encode.ensures.appends) (front_then _ _ _ c.write_minimal.ensures.front c.write_minimal-2.ensures.front)
