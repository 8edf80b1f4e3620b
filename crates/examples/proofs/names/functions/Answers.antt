-- Written by tools/answers.
use Rattle.examples.proofs.Common.{arith, new_map, adds_name}
use Rattle.examples.proofs.names.functions.Goals as goal

pub returns : goal.returns
returns g c = adds_name (new_map c.new-names.ensures) (0, c.args.name.now) c.in_ok-append.ensures.ok c.in_ok-append.ensures.counted c.in_ok-append.ensures.was_encodable (omega arith) c.utf8.name
