use Rattle.wasm_tool.proofs.Common.{Some, true, false, refl, arith, common_steps, lit<, ap, sym, ◌∙◌, YieldsList-at, YieldsList-end, YieldsList-turn, YieldsList-from_str_split, lines_of, line_is}
use Rattle.wasm_tool.proofs.Common.{lines_of-length, part_at, within, header_later, header_none, header_start, header_told}
use Rattle.wasm_tool.proofs.version.header.Goals as goal

pub loop-line-init : goal.loop-line-init
loop-line-init c = record { steps = (tt, tt); index = refl; after = header_start (lines_of c.args.lines.now) }

pub returns-then-is_header : goal.returns-then-is_header
returns-then-is_header c =
    let parts = YieldsList-at c.into_iter-line-iterator.ensures.into_iter_gives (YieldsList-from_str_split 10 c.args.lines.now (lit< tt) c.split-line-items.ensures.text c.split-line-items.ensures.has_more c.split-line-items.ensures.pattern) in
    let turn = YieldsList-turn parts c.loop-line.yielded _ c.loop-line.yielded_by _ _ _ c.in-Some.is c.next.ensures.steps in
    let found = part_at c.args.lines.now c.loop-line.invariant.index turn in
    header_told (lines_of c.args.lines.now) c.without_return.result.now c.loop-line.index true (within found) (line_is found c.without_return.result.now ∙ sym c.without_return.ensures)
    (sym c.tells_version.ensures ∙ c.in-Some-tells_version.is ∙ ap Some c.if-is_header.true) c.loop-line.invariant.after

pub returns-else-is_header : goal.returns-else-is_header
returns-else-is_header c =
    let parts = YieldsList-at c.into_iter-line-iterator.ensures.into_iter_gives (YieldsList-from_str_split 10 c.args.lines.now (lit< tt) c.split-line-items.ensures.text c.split-line-items.ensures.has_more c.split-line-items.ensures.pattern) in
    let turn = YieldsList-turn parts c.loop-line.yielded _ c.loop-line.yielded_by _ _ _ c.in-Some.is c.next.ensures.steps in
    let found = part_at c.args.lines.now c.loop-line.invariant.index turn in
    header_told (lines_of c.args.lines.now) c.without_return.result.now c.loop-line.index false (within found) (line_is found c.without_return.result.now ∙ sym c.without_return.ensures)
    (sym c.tells_version.ensures ∙ c.in-Some-tells_version.is ∙ ap Some c.if-is_header.false) c.loop-line.invariant.after

pub loop-line-preserved : goal.loop-line-preserved
loop-line-preserved c =
    let parts = YieldsList-at c.into_iter-line-iterator.ensures.into_iter_gives (YieldsList-from_str_split 10 c.args.lines.now (lit< tt) c.split-line-items.ensures.text c.split-line-items.ensures.has_more c.split-line-items.ensures.pattern) in
    let turn = YieldsList-turn parts c.loop-line.yielded _ c.loop-line.yielded_by _ _ _ c.in-Some.is c.next.ensures.steps in
    let found = part_at c.args.lines.now c.loop-line.invariant.index turn in
    record {
      steps = (tt, tt);
      index = grind (arith, common_steps, c.loop-line.invariant.index);
      after = header_later (lines_of c.args.lines.now) c.without_return.result.now c.loop-line.index (within found) (line_is found c.without_return.result.now ∙ sym c.without_return.ensures)
          (sym c.tells_version.ensures ∙ c.in_default.is) c.loop-line.invariant.after;
    }

pub returns : goal.returns
returns c =
    let parts = YieldsList-at c.into_iter-line-iterator.ensures.into_iter_gives (YieldsList-from_str_split 10 c.args.lines.now (lit< tt) c.split-line-items.ensures.text c.split-line-items.ensures.has_more c.split-line-items.ensures.pattern) in
    let all = (YieldsList-end parts c.loop-line.yielded _ c.loop-line.yielded_by _ _ c.in-None.is c.next.ensures.steps).1 in
    header_none (lines_of c.args.lines.now) c.loop-line.index (omega (arith, all, c.loop-line.invariant.index, lines_of-length c.args.lines.now)) c.loop-line.invariant.after
