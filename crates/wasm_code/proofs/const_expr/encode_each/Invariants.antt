use Rattle.wasm_base.proofs.Words.{◌≡◌, ◌++◌, All, flat_map}
use Rattle.wasm_code.proofs.const_expr.encode_each.Given as goal

abbrev pub invariant-loop-element : goal.invariant-loop-element
invariant-loop-element g l = record {
  can : (goal.iterator-loop-element g).can_next l.element-iterator;
  finite : (goal.iterator-loop-element g).is_finite l.element-iterator;
  encoding : l.sink.items ≡ l.initial.sink.items ++ flat_map g.T.Encode.encoding l.yielded;
  encodable : All g.T.Encode.encodable l.yielded;
}
