use Rattle.wasm_base.proofs.Words.{◌≡◌}
use Rattle.wasm_types.proofs.types.collected.Given as goal

abbrev pub invariant-loop-ty : goal.invariant-loop-ty
invariant-loop-ty g l = record {
  can : (goal.iterator-loop-ty g).can_next l.ty-iterator;
  finite : (goal.iterator-loop-ty g).is_finite l.ty-iterator;
  encoding : l.collected.items ≡ l.yielded;
}
