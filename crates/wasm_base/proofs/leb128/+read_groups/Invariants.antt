use Rattle.wasm_base.proofs.leb128.+read_groups.Given as goal

abbrev pub decreases-read_groups : goal.decreases-read_groups
decreases-read_groups l = l.limit
