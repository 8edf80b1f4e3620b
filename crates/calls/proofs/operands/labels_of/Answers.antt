use Rattle.calls.proofs.Common.{◌≡◌, ◌≤◌, ◌<◌, ◌-◌, ◌+◌, ◌∙◌, ℕ, List, [], ◌∷◌, ◌++◌, length, sym, ap, subst, arith, standard, u32, fault_stays, length-append, HasRead, loop_step, loop_decodes, loop_rejects, vec_rejects_count, u32_unambiguous}
use Rattle.calls.proofs.Common.{Decodes, vec, map-id, gives_member, ends_members, refl}
use Rattle.calls.proofs.operands.labels_of.Goals as goal

pub returns-in_err-members-clause-none : goal.returns-in_err-members-clause-none
returns-in_err-members-clause-none g c = fault_stays c.from_residual.result _ c.from_residual.ensures.1 λ n. vec_rejects_count u32 c.args.bytes.now (c.in_err-members.ensures.none n)

pub returns-in_err-label-clause-none : goal.returns-in_err-label-clause-none
returns-in_err-label-clause-none g c = fault_stays c.from_residual-in_err-label.result _ c.from_residual-in_err-label.ensures.1 λ n.
    let w = c.loop-label.invariant in
    let ends = ends_members ⊥ (λ k. k) c.in-Some.ensures.steps c.in_err-label.was in
    loop_rejects u32 (λ k. k) c.args.bytes.now c.in_ok-members.members.rest c.loop-label.members.rest c.loop-label.labels.items _ _ u32_unambiguous c.in_ok-members.ensures.found w.0 refl (omega (arith, w.1, ends.some)) (ends.none n)

pub loop-label-preserved : goal.loop-label-preserved
loop-label-preserved g c =
    let w = c.loop-label.invariant in
    let gives = gives_member ⊥ (λ k. k) c.in-Some.ensures.steps c.in_ok-label.was in
    let items = c.in_ok-push.ensures.items in
    let more = loop_step u32 (λ k. k) c.in_ok-members.members.rest c.loop-label.members.rest c.next.new.self.rest c.loop-label.labels.items c.in_ok-label.field-0 w.0 gives.decodes in
    (subst (λ z. HasRead u32 standard (λ k. k) c.in_ok-members.members.rest z c.next.new.self.rest) (sym items) more, omega (arith, gives.left, w.1, ap length items, length-append c.loop-label.labels.items (c.in_ok-label.field-0 ∷ [])))

pub returns-clause-found : goal.returns-clause-found
returns-clause-found g c =
    let w = c.loop-label.invariant in
    let done = c.in_default.ensures.steps in
    let items = c.loop-label.labels.items in
    let rest = c.loop-label.members.rest in
    let read = loop_decodes u32 (λ k. k) c.args.bytes.now c.in_ok-members.members.rest rest items _ c.in_ok-members.ensures.found w.0 (omega (arith, w.1, done.0)) in
    subst (λ z. Decodes (vec u32) standard c.args.bytes.now items z) (sym (c.rest.ensures ∙ ap (λ m. m.rest) done.1)) (subst (λ z. Decodes (vec u32) standard c.args.bytes.now z rest) (map-id items) read)
