-- Written by tools/answers.
use Rattle.examples.proofs.Common.{arith, adds_item, encodes_items, new_imports, import_of_function}
use Rattle.examples.proofs.alone.encode_import.Goals as goal

pub returns : goal.returns
returns g c =
    let s1 = adds_item (new_imports c.new-section.ensures) (import_of_function c.args.from.now c.args.name.now c.args.index) c.in_ok-import.ensures.ok (c.utf8.from, (c.utf8.name, omega (arith, c.ranges.index.fits))) in
    encodes_items c.encode.ensures.appends c.encode.ensures.read s1
