use Rattle.wasm_tool.proofs.Common.{Ok, Err, take, sym, subst, arith, lit<, common_steps, YieldsList-at, YieldsList-turn, YieldsList-from_str_split, lines_of, lines_with, entry_of, version_with}
use Rattle.wasm_tool.proofs.Common.{ContainsLines, Follows, part_at, line_at, line_within, one_more_line, explains, contains_more, all_read}
use Rattle.wasm_tool.proofs.recipe.Recipe.read_lines.Goals as goal

pub returns-in-Err : goal.returns-in-Err
returns-in-Err g c =
    let parts = YieldsList-at c.into_iter-line-iterator.ensures.into_iter_gives (YieldsList-from_str_split 10 c.args.lines.now (lit< tt) c.split-line-items.ensures.text c.split-line-items.ensures.has_more c.split-line-items.ensures.pattern) in
    let turn = YieldsList-turn parts c.loop-line.yielded _ c.loop-line.yielded_by _ _ _ c.in-Some.is c.next.ensures.steps in
    let found = part_at c.args.lines.now c.loop-line.invariant.number turn in
    let header = c.args.header in
    let lines = lines_with header (lines_of c.args.lines.now) in
    λ empty. explains (version_with header) lines c.loop-line.number c.line_at-text.result.now c.loop-line.self c.read_line.new.self (c.loop-line.invariant.contains empty)
    (line_at header found c.line_at-text.ensures) (one_more_line header found c.line_at-text.ensures) (line_within header found c.line_at-text.ensures) c.in-Err.cause
    (subst (λ version. Follows (entry_of version c.line_at-text.result.now) c.loop-line.self c.read_line.new.self (Err c.in-Err.cause)) c.with_header-version.ensures c.in-Err.ensures)

pub loop-line-preserved : goal.loop-line-preserved
loop-line-preserved g c =
    let parts = YieldsList-at c.into_iter-line-iterator.ensures.into_iter_gives (YieldsList-from_str_split 10 c.args.lines.now (lit< tt) c.split-line-items.ensures.text c.split-line-items.ensures.has_more c.split-line-items.ensures.pattern) in
    let turn = YieldsList-turn parts c.loop-line.yielded _ c.loop-line.yielded_by _ _ _ c.in-Some.is c.next.ensures.steps in
    let found = part_at c.args.lines.now c.loop-line.invariant.number turn in
    let header = c.args.header in
    let lines = lines_with header (lines_of c.args.lines.now) in
    record {
      steps = (tt, tt);
      number = grind (arith, common_steps, c.loop-line.invariant.number);
      contains = λ empty. subst (λ read. ContainsLines (version_with header) read c.read_line.new.self) (sym (one_more_line header found c.line_at-text.ensures))
          (contains_more (version_with header) (take c.loop-line.number lines) c.line_at-text.result.now c.loop-line.self c.read_line.new.self (c.loop-line.invariant.contains empty)
          (subst (λ version. Follows (entry_of version c.line_at-text.result.now) c.loop-line.self c.read_line.new.self (Ok tt)) c.with_header-version.ensures c.in_default.ensures));
    }

pub returns : goal.returns
returns g c =
    let parts = YieldsList-at c.into_iter-line-iterator.ensures.into_iter_gives (YieldsList-from_str_split 10 c.args.lines.now (lit< tt) c.split-line-items.ensures.text c.split-line-items.ensures.has_more c.split-line-items.ensures.pattern) in
    λ empty. all_read (version_with c.args.header) c.args.header c.args.lines.now c.loop-line.yielded parts c.loop-line.yielded_by c.in-None.is c.next.ensures.steps c.loop-line.invariant.number (c.loop-line.invariant.contains empty)
