use Rattle.examples.proofs.Common.{take, All, IsMemory}
use Rattle.examples.proofs.grown.plain_memories.Given as goal

abbrev pub invariant-loop-memory : goal.invariant-loop-memory
invariant-loop-memory l = All IsMemory (take l.memory-index l.memories)
