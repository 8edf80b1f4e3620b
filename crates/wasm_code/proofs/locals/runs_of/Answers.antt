use Rattle.wasm_code.proofs.Common.{rules, subst, Yields-push, are_runs_of, not_full}
use Rattle.wasm_code.proofs.locals.runs_of.Goals as goal

pub returns-in_err-add_local : goal.returns-in_err-add_local
returns-in_err-add_local g c = record {
  ok = search rules;
  too_long = λ encodable.
      let gives = g.I.IntoIter.Iterator.next_gives in
      let start = c.into_iter-ty-iterator.result in
      let step = subst (λ r. gives c.loop-ty.ty-iterator r c.next.new.self) c.in-Some.is c.next.ensures.steps in
      let more = Yields-push gives start c.loop-ty.yielded c.loop-ty.ty-iterator c.in-Some.ty c.next.new.self c.loop-ty.yielded_by step in
      let refused =
      not_full c.add_local.result c.in-Some.ty c.loop-ty.runs.items c.loop-ty.yielded c.loop-ty.invariant.runs c.loop-ty.invariant.expanded
      (λ runs are. encodable start c.next.new.self _ runs c.into_iter-ty-iterator.ensures.into_iter_gives more are)
      c.add_local.ensures.full in
      search (rules, refused);
}

pub returns : goal.returns
returns g c =
    let are = are_runs_of c.loop-ty.yielded c.loop-ty.runs.items c.loop-ty.invariant.runs c.loop-ty.invariant.expanded in
    record { ok = search (rules, are); too_long = λ encodable e. absurd (cc e) }
