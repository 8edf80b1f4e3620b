-- Written by tools/answers.
use Rattle.read_back.proofs.Common.{size_prefixed, encodes_custom, stack_payload}
use Rattle.read_back.proofs.dumps.write_stack.Goals as goal

pub returns : goal.returns
returns g c = encodes_custom (size_prefixed stack_payload) _ c.encode.ensures.appends c.encode.ensures.read c.in_ok-section.ensures
