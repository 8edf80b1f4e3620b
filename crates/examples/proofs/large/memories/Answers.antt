-- Written by tools/answers.
use Rattle.examples.proofs.Common.{arith, adds_item, new_memories, large_memory}
use Rattle.examples.proofs.large.memories.Goals as goal

pub returns : goal.returns
returns g c = adds_item (new_memories c.new-section.ensures) large_memory c.in_ok-memory.ensures.ok (record { minimum = omega arith; maximum = omega arith; page_size = tt })
