use Rattle.examples.proofs.Common.{subst, take_all, All-more, All, IsMemory}
use Rattle.examples.proofs.grown.plain_memories.Goals as goal

pub loop-memory-preserved : goal.loop-memory-preserved
loop-memory-preserved c = All-more IsMemory c.args.memories.now c.loop-memory.memory-index _ c.loop-memory-test.true c.loop-memory.invariant c.plain_memory.ensures

pub returns : goal.returns
returns c = subst (All IsMemory) (take_all c.loop-memory.memory-index c.args.memories.now c.loop-memory-test.false) c.loop-memory.invariant
