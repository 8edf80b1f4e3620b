use Rattle.examples.proofs.Common.{subst, map-id, each, adds_items, encodes_items, new_memories, IsMemory, ContainsMemories}
use Rattle.examples.proofs.grown.encode_memories.Goals as goal

pub returns-in-Ok : goal.returns-in-Ok
returns-in-Ok g c =
    let memories = c.args.memories.now in
    let section = adds_items (new_memories c.new-section.ensures) c.in-Ok.ensures.ok (each IsMemory memories c.plain_memories.ensures) in
    encodes_items c.encode.ensures.appends c.encode.ensures.read (subst (ContainsMemories _) (map-id memories) section)
