use Rattle.wasm_code.proofs.Common.{◌<◌, ◌∙◌, refl, sym, ap, subst, length, ◌-◌, arith, padded_of, Rejects, instruction, table, ahead, decodes_there, failure_stays, follow_there, follows, from_offset, step_decodes, step_further}
use Rattle.wasm_code.proofs.walk.Instructions.step.Goals as goal

pub returns-in_err-op-clause-none : goal.returns-in_err-op-clause-none
returns-in_err-op-clause-none g c =
    failure_stays c.from_residual.result _ c.from_residual.ensures.1 (record {
      none = λ n. subst (λ w. Rejects (instruction table) (padded_of g.G.Grammar.grammar) (ahead w)) c.self.view_is (subst (Rejects (instruction table) (padded_of g.G.Grammar.grammar)) (from_offset c.self.inside.bytes.now c.self.inside.offset) (c.in_err-op.ensures.none n));
      no_memory = c.in_err-op.ensures.no_memory;
      stays = refl;
    })

pub returns-clause-found : goal.returns-clause-found
returns-clause-found g c =
    let bytes = c.self.inside.bytes.now in
    let offset = c.self.inside.offset in
    let h = c.in_ok-op.ensures.found in
    let there = decodes_there (from_offset bytes offset) h.decodes in
    record {
      found = record {
        immediates = h.immediates;
        decodes = decodes_there (ap ahead c.self.view_is) (step_decodes bytes c.in_ok-op.rest.now offset _ c.self.invariant there);
        operands = h.operands;
        follow = follow_there (from_offset bytes offset ∙ ap ahead c.self.view_is) (sym (follows (instruction table) bytes c.in_ok-op.rest.now offset _ c.self.invariant there)) h.follow;
      };
      offset = ap (λ w. w.offset) c.self.view_is;
      further = subst (λ w. w.offset < length bytes - length c.in_ok-op.rest.now) c.self.view_is (step_further bytes c.in_ok-op.rest.now offset _ c.self.invariant there);
      within = omega arith;
      same = ap (λ w. w.bytes) c.self.view_is;
    }
