use Rattle.wasm_base.proofs.Std.{◌++◌, arith, rules, length-append, common_steps}
use Rattle.wasm_base.proofs.Yielded.{Drains-append, Yields-append}
use Rattle.wasm_base.proofs.once.append_blocks.Goals as goal

pub next_block-block-requires-clause-many : goal.next_block-block-requires-clause-many
next_block-block-requires-clause-many g c = λ xs drained.
    let gives = g.I.Iterator.next_gives in
    let before = c.loop-left.invariant in
    let whole = Drains-append gives c.args.items.now before.given c.loop-left.items xs before.so_far drained in
    omega (arith, before.counted, c.requires.reported (before.given ++ xs) whole, length-append before.given xs, c.loop-left-test.true)

pub loop-left-preserved : goal.loop-left-preserved
loop-left-preserved g c =
    let gives = g.I.Iterator.next_gives in
    let before = c.loop-left.invariant in
    let block = c.next_block-block.result in
    record {
      can = search rules;
      finite = search rules;
      given = before.given ++ block;
      so_far = Yields-append gives c.args.items.now before.given c.loop-left.items block c.next_block-block.new.items before.so_far c.next_block-block.ensures.yields;
      counted = omega (arith, before.counted, c.next_block-block.ensures.count, length-append before.given block, c.loop-left-test.true);
      encoding = grind (arith, common_steps, before.encoding);
      capacity = omega (arith, before.capacity, c.extend_from_slice.ensures.capacity);
    }
