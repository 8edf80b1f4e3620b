use Rattle.wasm_base.proofs.Words.{◌≡◌, ◌≤◌, ◌-◌, length, take}
use Rattle.wasm_reader.proofs.sections.common_length.Given as goal

-- The bytes before the count are the same in both.
abbrev pub invariant-loop-count : goal.invariant-loop-count
invariant-loop-count l = (l.count ≤ length l.bytes) × (l.count ≤ length l.other) × (take l.count l.bytes ≡ take l.count l.other)

abbrev pub decreases-loop-count : goal.decreases-loop-count
decreases-loop-count l = length l.bytes - l.count
