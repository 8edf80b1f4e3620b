-- Written by tools/answers.
use Rattle.read_back.proofs.Common.{refl, arith, ascii, adds_item, encodes_items, new_imports, imported_function}
use Rattle.read_back.proofs.declared.write_imports.Goals as goal

pub returns : goal.returns
returns g c =
    let s1 = adds_item (new_imports c.new-section.ensures) (imported_function c.args.index) c.in_ok-import.ensures.ok (ascii refl, (ascii refl, omega (arith, c.ranges.index.fits))) in
    encodes_items c.encode.ensures.appends c.encode.ensures.read s1
