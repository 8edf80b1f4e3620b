-- Written by tools/answers.
use Rattle.read_back.proofs.Common.{arith, encodes_items, new_exports, adds_export, exported}
use Rattle.read_back.proofs.declared.write_exports.Goals as goal

pub returns : goal.returns
returns g c =
    let s1 = adds_export (new_exports c.new-section.ensures) (exported c.args.name.now c.args.index) c.in_ok-export.ensures.ok c.in_ok-export.ensures.was_encodable c.utf8.name (omega (arith, c.ranges.index.fits)) in
    encodes_items c.encode.ensures.appends c.encode.ensures.read s1
