-- Written by tools/answers.
use Rattle.read_back.proofs.Common.{arith, adds_item, new_tags, thrown}
use Rattle.read_back.proofs.declared.tags.Goals as goal

pub returns : goal.returns
returns g c =
    let s1 = adds_item (new_tags c.new-section.ensures) (thrown 0) c.in_ok-tag.ensures.ok (omega arith) in
    adds_item s1 (thrown c.args.index) c.in_ok-tag-2.ensures.ok (omega (arith, c.ranges.index.fits))
