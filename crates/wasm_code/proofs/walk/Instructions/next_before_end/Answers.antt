use Rattle.wasm_code.proofs.Common.{◌∙◌, refl, ap, subst, sym, arith, padded_of, Rejects, front_and_rest, none_left, instruction, table, expression, ahead, not_end, decodes_there, from_offset}
use Rattle.wasm_code.proofs.Common.{before_end_fails, end_fails, end_ended}
use Rattle.wasm_code.proofs.walk.Instructions.next_before_end.Goals as goal

pub returns-in_default : goal.returns-in_default
returns-in_default g c = record {
  none = λ e. subst (λ w. Rejects expression (padded_of g.G.Grammar.grammar) (ahead w)) c.self.view_is (end_ended _ (sym (from_offset c.self.inside.bytes.now c.self.inside.offset) ∙ none_left _ (omega (arith, c.in_default.len_below))));
  no_memory = λ e. cc e;
  stays = refl;
}

pub returns-in_err-decoded : goal.returns-in_err-decoded
returns-in_err-decoded g c =
    before_end_fails _ _ _ c.from_residual.result _ c.from_residual.ensures.1 (record {
      none = λ n.
          subst (λ w. Rejects expression (padded_of g.G.Grammar.grammar) (ahead w)) c.self.view_is
          (end_fails _ _ _ (sym (from_offset c.self.inside.bytes.now c.self.inside.offset) ∙ front_and_rest _ c.in-len1-up.len_at_least) c.if-first-eq-END.false (subst (λ w. Rejects (instruction table) (padded_of g.G.Grammar.grammar) (ahead w)) (sym c.self.view_is) (c.in_err-decoded.ensures.none.none n)));
      no_memory = c.in_err-decoded.ensures.none.no_memory;
      stays = c.in_err-decoded.ensures.none.stays;
    })

pub returns : goal.returns
returns g c =
    let same = ap ahead c.self.view_is in
    let it = c.in_ok-decoded.ensures.found in
    let h = it.found in
    let at_front = sym (from_offset c.self.inside.bytes.now c.self.inside.offset) ∙ front_and_rest _ c.in-len1-up.len_at_least in
    record {
      found = record {
        immediates = h.immediates;
        decodes = decodes_there same (not_end _ _ _ _ _ at_front c.if-first-eq-END.false (decodes_there (sym same) h.decodes));
        operands = h.operands;
        follow = h.follow;
      };
      offset = it.offset;
      further = it.further;
      within = it.within;
      same = it.same;
    }
