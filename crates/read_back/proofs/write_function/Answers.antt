-- Written by tools/answers.
use Rattle.read_back.proofs.Common.{arith, adds_item, encodes_items, new_functions}
use Rattle.read_back.proofs.write_function.Goals as goal

pub returns : goal.returns
returns g c =
    let s1 = adds_item (new_functions c.new-section.ensures) c.args.index c.in_ok-function.ensures.ok (omega (arith, c.ranges.index.fits)) in
    encodes_items c.encode.ensures.appends c.encode.ensures.read s1
