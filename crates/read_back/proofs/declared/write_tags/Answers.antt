-- Written by tools/answers.
use Rattle.read_back.proofs.Common.{encodes_items}
use Rattle.read_back.proofs.declared.write_tags.Goals as goal

pub returns : goal.returns
returns g c = encodes_items c.encode.ensures.appends c.encode.ensures.read c.in_ok-section.ensures
