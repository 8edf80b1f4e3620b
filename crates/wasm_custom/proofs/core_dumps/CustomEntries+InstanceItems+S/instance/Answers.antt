use Rattle.wasm_custom.proofs.AddingLaws.{adds_two}
use Rattle.wasm_custom.proofs.core_dumps.CustomEntries+InstanceItems+S.instance.Goals as goal

pub returns : goal.returns
returns g c =
    let m = c.in_ok-memories.ensures.ok in
    let n = c.in_ok-globals.ensures.ok in
    adds_two g.M.IntoIterator.into_iter_gives g.M.IntoIter.Iterator.next_gives g.M.IntoIter.Iterator.remaining c.args.memories c.in_ok-memories.memories.items m.0 c.in_ok-memories.memories.count m.2 m.3
    g.G.IntoIterator.into_iter_gives g.G.IntoIter.Iterator.next_gives g.G.IntoIter.Iterator.remaining c.args.globals c.in_ok-globals.globals.items n.0 c.in_ok-globals.globals.count n.2 n.3
    _ _ (tt, tt) _ _ _ _ _ _ _ c.add_once.ensures
