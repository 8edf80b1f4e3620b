-- Written by tools/answers.
use Rattle.read_back.proofs.Common.{refl, custom, encodes_custom}
use Rattle.read_back.proofs.custom.write_custom.Goals as goal

pub returns : goal.returns
returns g c = encodes_custom custom _ c.encode.ensures.appends c.encode.ensures.read (c.utf8.name, refl)
