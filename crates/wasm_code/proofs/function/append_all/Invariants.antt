use Rattle.wasm_base.proofs.Words.{◌≡◌, ◌++◌}
use Rattle.wasm_code.proofs.function.append_all.Given as goal

abbrev pub invariant-loop-byte : goal.invariant-loop-byte
invariant-loop-byte g l = record {
  can : (goal.iterator-loop-byte g).can_next l.byte-iterator;
  finite : (goal.iterator-loop-byte g).is_finite l.byte-iterator;
  encoding : l.sink.items ≡ l.initial.sink.items ++ l.yielded;
}
