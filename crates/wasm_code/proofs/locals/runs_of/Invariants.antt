use Rattle.wasm_code.proofs.Common.{◌≡◌, All, expand, IsRuns, IsCounted}
use Rattle.wasm_code.proofs.locals.runs_of.Given as goal

abbrev pub invariant-loop-ty : goal.invariant-loop-ty
invariant-loop-ty g l = record {
  can : (goal.iterator-loop-ty g).can_next l.ty-iterator;
  finite : (goal.iterator-loop-ty g).is_finite l.ty-iterator;
  runs : IsRuns l.runs.items;
  expanded : expand l.runs.items ≡ l.yielded;
  counted : All IsCounted l.runs.items;
}
