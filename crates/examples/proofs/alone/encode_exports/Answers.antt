-- Written by tools/answers.
use Rattle.examples.proofs.Common.{each, adds_items, encodes_items, new_exports, IsExport}
use Rattle.examples.proofs.alone.encode_exports.Goals as goal

pub returns-in-Ok : goal.returns-in-Ok
returns-in-Ok g c =
    let s1 = adds_items (new_exports c.new-section.ensures) c.in-Ok.ensures.ok (each IsExport c.args.exports.now c.plain_exports.ensures) in
    encodes_items c.encode.ensures.appends c.encode.ensures.read s1
