use Rattle.wasm_custom.proofs.Common.{ap, adds_two, adds_two_from}
use Rattle.wasm_custom.proofs.core_stack.CoreDumpStackIn.frame.Goals as goal

pub returns-clause-adds : goal.returns-clause-adds
returns-clause-adds g c =
    let m = c.in_ok-locals.ensures.ok in
    let n = c.in_ok-stack.ensures.ok in
    adds_two_from (ap (λ v. v.1) c.self.view_is)
    (adds_two g.L.IntoIterator.into_iter_gives g.L.IntoIter.Iterator.next_gives g.L.IntoIter.Iterator.remaining c.args.locals c.in_ok-locals.locals.items m.0 c.in_ok-locals.locals.count m.2 m.3
    g.S.IntoIterator.into_iter_gives g.S.IntoIter.Iterator.next_gives g.S.IntoIter.Iterator.remaining c.args.stack c.in_ok-stack.stack.items n.0 c.in_ok-stack.stack.count n.2 n.3
    _ _ (tt, (tt, tt, tt)) _ _ _ _ _ _ _ c.add_item_once.ensures)
