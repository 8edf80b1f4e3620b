-- Written by tools/answers.
use Rattle.read_back.proofs.Common.{size_prefixed, encodes_custom, core_payload}
use Rattle.read_back.proofs.dumps.write_process.Goals as goal

pub returns : goal.returns
returns g c = encodes_custom (size_prefixed core_payload) _ c.encode.ensures.appends c.encode.ensures.read (c.utf8.name, c.in_ok-section.ensures.is)
