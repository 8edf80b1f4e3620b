use Rattle.wasm_code.proofs.Common.{rules, ◌≡◌, ◌≢◌, ◌+◌, [], ◌∷◌, ◌++◌, ap, ◌∙◌, longer_run, next_run}
use Rattle.wasm_code.proofs.locals.add_local.Goals as goal

pub returns-then-continues-clause-more : goal.returns-then-continues-clause-more
returns-then-continues-clause-more g c =
    let same : c.in-Some.last ≡ c.args.ty = search rules in
    let before = c.in-Some.ensures.items ∙ ap (λ t. c.pop.new.self.items ++ (c.in-Some.count, t) ∷ []) same in
    let more : c.in-Some-checked_add.more ≡ c.in-Some.count + 1 = search rules in
    longer_run c.pop.new.self.items c.in-Some.count c.in-Some-checked_add.more c.args.ty _ _ before more c.in_ok-push-2.ensures.items

pub returns-clause-more : goal.returns-clause-more
returns-clause-more g c =
    let other : c.in-Some.last ≢ c.args.ty = search rules in
    let after : c.push-3.new.self.items ≡ (c.pop.new.self.items ++ (c.in-Some.count, c.in-Some.last) ∷ []) ++ (1, c.args.ty) ∷ [] = search rules in
    next_run c.pop.new.self.items c.in-Some.count c.in-Some.last c.args.ty _ _ c.in-Some.ensures.items other after
