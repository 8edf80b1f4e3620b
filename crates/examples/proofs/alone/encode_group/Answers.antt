-- Written by tools/answers.
use Rattle.examples.proofs.Common.{arith, encodes_items, new_imports, adds_alike, Function}
use Rattle.examples.proofs.alone.encode_group.Goals as goal

pub returns : goal.returns
returns g c =
    let s1 = adds_alike (new_imports c.new-section.ensures) c.args.from.now (Function c.args.index) c.args.names.now c.in_ok-imports.ensures.ok c.in_ok-imports.ensures.was_encodable c.utf8.from (omega (arith, c.ranges.index.fits)) c.plain_names.ensures in
    encodes_items c.encode.ensures.appends c.encode.ensures.read s1
