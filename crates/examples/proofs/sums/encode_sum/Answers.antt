-- Written by tools/answers.
use Rattle.examples.proofs.Common.{encodes_items, new_globals, adds_global, sum_global}
use Rattle.examples.proofs.sums.encode_sum.Goals as goal

pub returns : goal.returns
returns g c =
    let s1 = adds_global (new_globals c.new-section.ensures) (sum_global c.args.index) _ c.in_ok-global.ensures.ok tt c.in_ok-sum_of.ensures in
    encodes_items c.encode.ensures.appends c.encode.ensures.read s1
