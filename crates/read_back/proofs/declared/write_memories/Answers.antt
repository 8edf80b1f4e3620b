-- Written by tools/answers.
use Rattle.read_back.proofs.Common.{arith, adds_item, encodes_items, new_memories, pages, two_pages}
use Rattle.read_back.proofs.declared.write_memories.Goals as goal

pub returns : goal.returns
returns g c =
    let s1 = adds_item (new_memories c.new-section.ensures) (pages c.args.minimum) c.in_ok-memory.ensures.ok (record { minimum = omega (arith, c.ranges.minimum.fits); maximum = tt; page_size = tt }) in
    let s2 = adds_item s1 two_pages c.in_ok-memory-2.ensures.ok (record { minimum = omega arith; maximum = omega arith; page_size = tt }) in
    encodes_items c.encode.ensures.appends c.encode.ensures.read s2
