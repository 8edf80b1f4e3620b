use Rattle.wasm_base.proofs.Std.{◌≡◌, ◌≤◌, ◌++◌, length, take, vec_len, vec_capacity, All, flat_map}
use Rattle.wasm_base.specs.{unsigned_encoding}
use Rattle.wasm_base.proofs.vectors.RefSliceEncode.encode.Given as goal

abbrev pub invariant-loop-item : goal.invariant-loop-item
invariant-loop-item g l = record {
  start : l.start ≡ vec_len l.fn.sink;
  encoding : l.sink.items ≡ l.fn.sink.items ++ (unsigned_encoding (length l.item-items) ++ flat_map g.T.Encode.encoding (take l.item-index l.item-items));
  encodable : All g.T.Encode.encodable (take l.item-index l.item-items);
  capacity : vec_capacity l.fn.sink ≤ vec_capacity l.sink;
}
