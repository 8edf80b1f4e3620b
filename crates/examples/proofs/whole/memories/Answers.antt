-- Written by tools/answers.
use Rattle.examples.proofs.Common.{arith, adds_item, new_memories, one_page}
use Rattle.examples.proofs.whole.memories.Goals as goal

pub returns : goal.returns
returns g c = adds_item (new_memories c.new-section.ensures) one_page c.in_ok-memory.ensures.ok (record { minimum = omega arith; maximum = tt; page_size = tt })
