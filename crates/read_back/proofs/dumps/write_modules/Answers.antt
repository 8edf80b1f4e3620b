-- Written by tools/answers.
use Rattle.read_back.proofs.Common.{size_prefixed, encodes_entries, modules_payload}
use Rattle.read_back.proofs.dumps.write_modules.Goals as goal

pub returns : goal.returns
returns g c = encodes_entries (size_prefixed modules_payload) _ _ c.encode.ensures.appends c.encode.ensures.read c.in_ok-section.ensures
