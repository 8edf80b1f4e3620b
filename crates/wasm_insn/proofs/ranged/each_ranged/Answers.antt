use Rattle.wasm_base.proofs.Words.{subst, take_all, All-more, All}
use Rattle.wasm_insn.proofs.ranged.each_ranged.Goals as goal

pub loop-item-preserved : goal.loop-item-preserved
loop-item-preserved g c = All-more g.T.Ranged.in_range c.args.items.now c.loop-item.item-index c.item-item.result c.loop-item-test.true c.loop-item.invariant (subst g.T.Ranged.in_range c.item-item.is c.ranged.ensures)

pub returns : goal.returns
returns g c = subst (All g.T.Ranged.in_range) (take_all c.loop-item.item-index c.args.items.now c.loop-item-test.false) c.loop-item.invariant
