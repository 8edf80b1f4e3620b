-- Written by tools/answers.
use Rattle.read_back.proofs.Common.{arith, encodes_items, one_constant, new_globals, adds_global, copied}
use Rattle.read_back.proofs.first_values.encode_copied.Goals as goal

pub returns : goal.returns
returns g c =
    let e1 = one_constant c.in_ok-global_get.ensures.stores (omega (arith, c.ranges.index.fits), tt) in
    let s1 = adds_global (new_globals c.new-section.ensures) (copied c.args.index) _ c.in_ok-global.ensures.ok tt e1 in
    encodes_items c.encode.ensures.appends c.encode.ensures.read s1
